-- What the tests of a word say of it.
use Rattle.std.proofs.Common.{◌≡◌, ℕ, ◌+◌, ◌*◌, ◌/◌, ◌%◌, ◌≤◌, true, false, eqb, Some, sym, refl, ap, ◌∙◌, ⊎_elim, arith}
use Rattle.std.proofs.lemmas.Bool.{cases_eq, cond_both, cond-true, cond-false, or_cases, eqb-true, eqb-false, eq-eqb, ne_eqb}
use Rattle.words.specs.declared.token.Token.{Token}
use Rattle.words.specs.declared.token.Token.TheVariants.{Problem, Cnf, Exists, Forall, Number, Negative, Other}
use Rattle.grammar.specs.Draft.{letter, literal_word}
use Rattle.grammar.specs.Next.{Next, sort, size, is_letter, is_natural, is_number, code_of}

-- a number below zero is none of the other sorts
negative_sort : (k : ℕ) → 5 ≤ sort (Some (Negative k))
negative_sort k = cond_both (eqb k 0) 6 5 (λ s. 5 ≤ s) (λ e. omega arith) (λ e. omega arith)

pub p_is : (t : Token) → sort (Some t) ≡ 1 → t ≡ Problem
p_is Problem e = refl
p_is Cnf e = absurd (omega (arith, e))
p_is Exists e = absurd (omega (arith, e))
p_is Forall e = absurd (omega (arith, e))
p_is (Number k) e = absurd (omega (arith, e))
p_is (Negative k) e = absurd (omega (arith, e, negative_sort k))
p_is Other e = absurd (omega (arith, e))

pub cnf_is : (t : Token) → sort (Some t) ≡ 2 → t ≡ Cnf
cnf_is Problem e = absurd (omega (arith, e))
cnf_is Cnf e = refl
cnf_is Exists e = absurd (omega (arith, e))
cnf_is Forall e = absurd (omega (arith, e))
cnf_is (Number k) e = absurd (omega (arith, e))
cnf_is (Negative k) e = absurd (omega (arith, e, negative_sort k))
cnf_is Other e = absurd (omega (arith, e))

-- a letter is that of its quantifier, 1 or 2
pub letter_is : (t : Token) → sort (Some t) ≡ 3 → (t ≡ letter (size (Some t))) × (1 ≤ size (Some t)) × (size (Some t) ≤ 2)
letter_is Problem e = absurd (omega (arith, e))
letter_is Cnf e = absurd (omega (arith, e))
letter_is Exists e = (refl, omega arith, omega arith)
letter_is Forall e = (refl, omega arith, omega arith)
letter_is (Number k) e = absurd (omega (arith, e))
letter_is (Negative k) e = absurd (omega (arith, e, negative_sort k))
letter_is Other e = absurd (omega (arith, e))

pub natural_is : (t : Token) → sort (Some t) ≡ 4 → t ≡ Number (size (Some t))
natural_is Problem e = absurd (omega (arith, e))
natural_is Cnf e = absurd (omega (arith, e))
natural_is Exists e = absurd (omega (arith, e))
natural_is Forall e = absurd (omega (arith, e))
natural_is (Number k) e = refl
natural_is (Negative k) e = absurd (omega (arith, e, negative_sort k))
natural_is Other e = absurd (omega (arith, e))

-- a number below zero is not 0
pub negative_is : (t : Token) → sort (Some t) ≡ 5 → (t ≡ Negative (size (Some t))) × (1 ≤ size (Some t))
negative_is Problem e = absurd (omega (arith, e))
negative_is Cnf e = absurd (omega (arith, e))
negative_is Exists e = absurd (omega (arith, e))
negative_is Forall e = absurd (omega (arith, e))
negative_is (Number k) e = absurd (omega (arith, e))
negative_is (Negative k) e = (
  refl,
  ⊎_elim
      (λ z. absurd (omega (arith, e, cond-true {A = ℕ} (eqb k 0) 6 5 (eq-eqb k 0 z))))
      (λ ne. omega (arith, ne))
      (cases_eq k 0),
)
negative_is Other e = absurd (omega (arith, e))

-- no word is the end
pub word_sort : (t : Token) → 1 ≤ sort (Some t)
word_sort Problem = omega arith
word_sort Cnf = omega arith
word_sort Exists = omega arith
word_sort Forall = omega arith
word_sort (Number k) = omega arith
word_sort (Negative k) = omega (arith, negative_sort k)
word_sort Other = omega arith

-- a number stands for its literal
pub positive_word : (k : ℕ) → literal_word (2 * k) ≡ Number k
positive_word k =
    cond-true (eqb ((2 * k) % 2) 0) (Number ((2 * k) / 2)) (Negative ((2 * k) / 2)) (eq-eqb ((2 * k) % 2) 0 (omega arith)) ∙ ap Number (omega arith)

pub negative_word : (k : ℕ) → literal_word (2 * k + 1) ≡ Negative k
negative_word k =
    cond-false (eqb ((2 * k + 1) % 2) 0) (Number ((2 * k + 1) / 2)) (Negative ((2 * k + 1) / 2)) (ne_eqb ((2 * k + 1) % 2) 0 (λ z. omega (arith, z))) ∙ ap Negative (omega arith)

-- the two numbers of a variable's literals
pub code_between : (t : Next) → (2 * size t ≤ code_of t) × (code_of t ≤ 2 * size t + 1)
code_between t =
    cond_both (is_natural t) (2 * size t) (2 * size t + 1) (λ c. (2 * size t ≤ c) × (c ≤ 2 * size t + 1))
    (λ e. (omega arith, omega arith)) (λ e. (omega arith, omega arith))

-- the word of a number's literal is that number
pub number_is : (t : Token) → is_number (Some t) ≡ true → t ≡ literal_word (code_of (Some t))
number_is t e = ⊎_elim
    (λ n. let nat = natural_is t (eqb-true (sort (Some t)) 4 n) in
    nat ∙ sym (positive_word (size (Some t))) ∙ ap literal_word (sym (cond-true (is_natural (Some t)) (2 * size (Some t)) (2 * size (Some t) + 1) n)))
    (λ n. let five = eqb-true (sort (Some t)) 5 n in
    (negative_is t five).0 ∙ sym (negative_word (size (Some t))) ∙
    ap literal_word (sym (cond-false (is_natural (Some t)) (2 * size (Some t)) (2 * size (Some t) + 1) (ne_eqb (sort (Some t)) 4 (λ z. omega (arith, z, five))))))
    (or_cases (eqb (sort (Some t)) 4) (eqb (sort (Some t)) 5) e)

-- a number that is 0 has no minus
pub zero_natural : (t : Token) → is_number (Some t) ≡ true → size (Some t) ≡ 0 → sort (Some t) ≡ 4
zero_natural t e z = ⊎_elim
    (λ n. eqb-true (sort (Some t)) 4 n)
    (λ n. absurd (omega (arith, (negative_is t (eqb-true (sort (Some t)) 5 n)).1, z)))
    (or_cases (eqb (sort (Some t)) 4) (eqb (sort (Some t)) 5) e)

-- a number is no letter
pub number_no_letter : (t : Next) → is_number t ≡ true → is_letter t ≡ false
number_no_letter t e = ⊎_elim
    (λ n. ne_eqb (sort t) 3 (λ z. omega (arith, z, eqb-true (sort t) 4 n)))
    (λ n. ne_eqb (sort t) 3 (λ z. omega (arith, z, eqb-true (sort t) 5 n)))
    (or_cases (eqb (sort t) 4) (eqb (sort t) 5) e)

-- a negation's number is no -0
negative_number : (k : ℕ) → 1 ≤ k → sort (Some (Negative k)) ≡ 5
negative_number k h = cond-false (eqb k 0) 6 5 (ne_eqb k 0 (λ z. omega (arith, z, h)))

-- what holds of the word of a variable's literal and of that of its negation holds of the word of each code
by_sign : (P : ℕ → Token → Type 0) (l : ℕ) → (l ≡ 2 * (l / 2) → P l (Number (l / 2))) → (l ≡ 2 * (l / 2) + 1 → P l (Negative (l / 2))) → P l (literal_word l)
by_sign P l f g =
    cond_both (eqb (l % 2) 0) (Number (l / 2)) (Negative (l / 2)) (P l)
    (λ e. f (omega (arith, eqb-true (l % 2) 0 e))) (λ e. g (omega (arith, eqb-false (l % 2) 0 e)))

pub literal_number : (l : ℕ) → 2 ≤ l → is_number (Some (literal_word l)) ≡ true
literal_number l h = by_sign (λ _ t. is_number (Some t) ≡ true) l (λ _. refl) (λ _. rw (negative_number (l / 2) (omega (arith, h))))

pub literal_size : (l : ℕ) → size (Some (literal_word l)) ≡ l / 2
literal_size l = by_sign (λ x t. size (Some t) ≡ x / 2) l (λ _. refl) (λ _. refl)

pub literal_code : (l : ℕ) → 2 ≤ l → code_of (Some (literal_word l)) ≡ l
literal_code l h = by_sign (λ x t. code_of (Some t) ≡ x) l (λ e. sym e) (λ e. rw (negative_number (l / 2) (omega (arith, h))) (sym e))
