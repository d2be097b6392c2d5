-- The words that are numbers: decimal numerals below 100000.
use Rattle.std.proofs.Common.{◌≡◌, ℕ, ◌+◌, ◌-◌, ◌*◌, ◌<◌, ◌≤◌, Bool, true, false, cond, ◌&&◌, ◌||◌, eqb, ltb, List, [], ◌∷◌, length, get_or, Some, None, decimal, sym, refl, ap, ◌∙◌, ⊎_elim, arith, rules}
use Rattle.std.proofs.lemmas.Bool.{cases_Bool, cases_eq, cond-true, cond-false}
use Rattle.std.proofs.lemmas.Bool.Decides.{nat_tests}
use Rattle.std.proofs.lemmas.Str.Parse.{IsNumeralModel, numerals_by_fold, digits_value_short}
use Rattle.std.proofs.lemmas.Fmt.{digits_decimal, digits_value-decimal, decimal-digits_value, decimal_nonempty, length-decimal-le, first_decimal, decimal_digit}
use Rattle.words.specs.Tokens.{digit, digits_after, natural}

abbrev pub numeric : List ℕ → Bool
numeric [] = true
numeric (b ∷ bs) = digit b && numeric bs

abbrev read_on : ℕ → List ℕ → ℕ
read_on v [] = v
read_on v (b ∷ bs) = read_on (v * 10 + (b - 48)) bs

own : IsNumeralModel (λ ds. numeric ds ≡ true) (read_on 0)
own = numerals_by_fold _ (search rules) read_on (search rules)

-- digits have the value that is read from them, and nothing else has one
reads_on : (v : ℕ) (ds : List ℕ) → digits_after v ds ≡ cond (numeric ds) (Some (read_on v ds)) None
reads_on v [] = refl
reads_on v (b ∷ bs) =
    elim (digit b) as (λ t. cond t (digits_after (v * 10 + (b - 48)) bs) None ≡ cond (t && numeric bs) (Some (read_on (v * 10 + (b - 48)) bs)) None)
    [ true ↦ reads_on (v * 10 + (b - 48)) bs | false ↦ refl ]

-- a length or a leading zero that no number has
abbrev unfit : List ℕ → Bool
unfit w = (eqb (length w) 0 || ltb 5 (length w)) || (ltb 1 (length w) && eqb (get_or w 0 0) 48)

natural_unfit : (w : List ℕ) → unfit w ≡ true → natural w ≡ None
natural_unfit w e = cond-true (unfit w) None (digits_after 0 w) e

natural_fit : (w : List ℕ) → unfit w ≡ false → natural w ≡ cond (numeric w) (Some (read_on 0 w)) None
natural_fit w e = cond-false (unfit w) None (digits_after 0 w) e ∙ reads_on 0 w

fit_parts : (w : List ℕ) → unfit w ≡ false → (0 < length w) × (length w ≤ 5) × (get_or w 0 0 ≡ 48 → length w ≡ 1)
fit_parts w e = (grind (arith, nat_tests), grind (arith, nat_tests), λ z. grind (arith, nat_tests))

fit_from : (w : List ℕ) → 0 < length w → length w ≤ 5 → (get_or w 0 0 ≡ 48 → length w ≡ 1) → unfit w ≡ false
fit_from w some few zero = grind (arith, nat_tests)

fit_numeric : (w : List ℕ) (k : ℕ) → unfit w ≡ false → numeric w ≡ true → read_on 0 w ≡ k → (k < 100000) × (w ≡ decimal k)
fit_numeric w k e d v =
    let p = fit_parts w e in
    let small : read_on 0 w < 100000 = digits_value_short own w 5 d p.1 in
    (omega arith, sym (ap decimal (sym v) ∙ decimal-digits_value own w d p.0 p.2 (omega arith)))

pub natural_decimal : (w : List ℕ) (k : ℕ) → natural w ≡ Some k → (k < 100000) × (w ≡ decimal k)
natural_decimal w k h =
    ⊎_elim
    (λ e. let z : ◌≡◌ {A = ℕ} 0 1 = cc (natural_unfit w e) in absurd (omega arith))
    (λ e.
    ⊎_elim
    (λ d. let v : read_on 0 w ≡ k = cc (natural_fit w e ∙ cond-true (numeric w) _ _ d) in fit_numeric w k e d v)
    (λ d. let z : ◌≡◌ {A = ℕ} 0 1 = cc (natural_fit w e ∙ cond-false (numeric w) _ _ d) in absurd (omega arith))
    (cases_Bool (numeric w)))
    (cases_Bool (unfit w))

pub numeric_decimal : (k : ℕ) → k < 100000 → numeric (decimal k) ≡ true
numeric_decimal k h = digits_decimal own k (omega arith)

zero_first : (k : ℕ) → k < 100000 → get_or (decimal k) 0 0 ≡ 48 → length (decimal k) ≡ 1
zero_first k h z =
    ⊎_elim
    (λ e. ap length (ap decimal e ∙ decimal_digit 0 (omega arith)))
    (λ ne. absurd (omega (arith, first_decimal k (omega arith) (omega arith))))
    (cases_eq k 0)

pub decimal_natural : (k : ℕ) → k < 100000 → natural (decimal k) ≡ Some k
decimal_natural k h =
    natural_fit (decimal k) (fit_from (decimal k) (decimal_nonempty k (omega arith)) (length-decimal-le 5 k (omega arith) h (omega arith)) (zero_first k h))
    ∙ cond-true (numeric (decimal k)) _ _ (numeric_decimal k h)
    ∙ ap Some (digits_value-decimal own k (omega arith))

pub numeric_first : (w : List ℕ) → 0 < length w → numeric w ≡ true → 48 ≤ get_or w 0 0
numeric_first [] h d = absurd (omega arith)
numeric_first (b ∷ bs) h d = grind (arith, nat_tests)
