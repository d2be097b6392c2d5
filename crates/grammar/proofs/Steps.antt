-- A word that breaks no rule makes a lawful draft of a lawful one.
use Rattle.std.proofs.Common.{◌≡◌, ℕ, zero, suc, ◌+◌, ◌<◌, ◌≤◌, Bool, true, false, cond, not, ◌&&◌, ◌||◌, eqb, ltb, leb, ◌⊎◌, List, [], ◌∷◌, ◌++◌, length, Some, None, Option, sym, refl, ap, ◌∙◌, subst, inl, inr, ⊎_elim, append_assoc, append-nil, arith}
use Rattle.std.proofs.lemmas.List.{nil_from_length}
use Rattle.std.proofs.lemmas.List.Sums.{sum_by-cons}
use Rattle.std.proofs.lemmas.Bool.{cases_eq, cond_both, cond-true, cond-false, or_cases, or_parts, or_from, and_parts, and_from, and_cases, eqb-true, eqb-false, ne_eqb, not-false, not_from_false, ltb-false, leb-true, leb-false, lt-ltb, both_ways}
use Rattle.words.specs.declared.token.Token.{Token}
use Rattle.words.specs.declared.token.Token.TheVariants.{Problem, Cnf, Number}
use Rattle.grammar.specs.declared.rule.Rule.{Rule}
use Rattle.grammar.specs.declared.rule.Rule.TheVariants.{Spelling, Size, Binding, Tally}
use Rattle.grammar.specs.Draft.{Block, Draft, nothing, problem, format, sized, binding, matrix, spell, spelled, letter, block_words, ended_block, clause_words, ended_clause, header_words, prefix_words, level_in}
use Rattle.grammar.specs.Lawful.{Sizes, latest, AllBound, literal_count, Clauses, Lawful}
use Rattle.grammar.specs.Next.{Next, sort, size, is_end, is_p, is_cnf, is_letter, is_natural, is_number, is_zero, is_literal, code_of, with_variable, after}
use Rattle.grammar.specs.Fault.{unbegun, unbound, breaks_spelling, breaks_header, breaks_size, breaks_binding, breaks_tally, in_clause, fault}
use Rattle.grammar.proofs.Sorts.{p_is, cnf_is, letter_is, natural_is, word_sort, code_between, number_is, zero_natural}

-- where no variable of 1 to n is found unbound, each is bound
pub all_bound : (bs : List Block) (n : ℕ) → unbound bs n ≡ false → AllBound n bs
all_bound bs zero e v h = absurd (omega (arith, h.0, h.1))
all_bound bs (suc n) e v h = ⊎_elim
    (λ same. subst (λ x. 1 ≤ level_in bs x) (sym same) (omega (arith, eqb-false (level_in bs (suc n)) 0 parts.0)))
    (λ ne. all_bound bs n parts.1 v (h.0, omega (arith, ne, h.1)))
    (cases_eq v (suc n))
  where
    parts : (eqb (level_in bs (suc n)) 0 ≡ false) × (unbound bs n ≡ false)
    parts = or_parts (eqb (level_in bs (suc n)) 0) (unbound bs n) e

pub none_unbound : (bs : List Block) (n : ℕ) → AllBound n bs → unbound bs n ≡ false
none_unbound bs zero h = refl
none_unbound bs (suc n) h =
    or_from (eqb (level_in bs (suc n)) 0) (unbound bs n)
    (ne_eqb (level_in bs (suc n)) 0 (λ z. omega (arith, z, h (suc n) (omega arith, omega arith))))
    (none_unbound bs n (λ v x. h v (x.0, omega (arith, x.1))))

-- what stands behind a draft breaks none of the rules
pub record Clean (S : Sizes) (d : Draft) (t : Next) : Type 0 where
  pub spelling : breaks_spelling d t ≡ false
  pub header : breaks_header d t ≡ false
  pub size : breaks_size S d t ≡ false
  pub binds : breaks_binding d t ≡ false
  pub tally : breaks_tally d t ≡ false

-- a rule that is passed is not broken
passed : (b : Bool) (r : Rule) (o : Option Rule) → cond b (Some r) o ≡ None → (b ≡ false) × (o ≡ None)
passed true r o e = absurd (let z : ◌≡◌ {A = ℕ} 0 1 = cc in omega arith)
passed false r o e = (refl, e)

pub rules_kept : (S : Sizes) (d : Draft) (t : Next) → fault S d t ≡ None → Clean S d t
rules_kept S d t e =
    let a = passed (breaks_spelling d t) Spelling _ e in
    let b = passed (breaks_header d t) Rule.Header _ a.1 in
    let c = passed (breaks_size S d t) Size _ b.1 in
    let f = passed (breaks_binding d t) Binding _ c.1 in
    let g = passed (breaks_tally d t) Tally _ f.1 in
    record { spelling = a.0; header = b.0; size = c.0; binds = f.0; tally = g.0 }

pub unbroken : (S : Sizes) (d : Draft) (t : Next) → Clean S d t → fault S d t ≡ None
unbroken S d t h = rw (h.spelling, h.header, h.size, h.binds, h.tally)

regroup : {X : Type 0} (a b c d : List X) → a ++ (b ++ (c ++ d)) ≡ ((a ++ b) ++ c) ++ d
regroup a b c d = simp append_assoc

-- without a clause a draft is spelled as its prefix
pub spell_unbegun : (n m : ℕ) (bs : List Block) (Cs : List (List ℕ)) (C : List ℕ) → Cs ≡ [] → C ≡ [] → spell (matrix n m bs Cs C) ≡ prefix_words n m bs
spell_unbegun n m bs Cs C e f =
    ap (λ x. (prefix_words n m bs ++ spelled ended_clause x) ++ clause_words C) e ∙ ap (λ x. (prefix_words n m bs ++ []) ++ clause_words x) f ∙
    append-nil _ ∙ append-nil _

-- the draft d with the word t is lawful, and spelled with t at the end
abbrev pub GoesOn : Sizes → Draft → Token → Draft → Type 0
GoesOn S d t e = Lawful S e × (spell e ≡ spell d ++ (t ∷ []))

-- a test that some word is the end fails
pub not_end : (t : Token) → is_end (Some t) ≡ false
not_end t = ne_eqb (sort (Some t)) 0 (λ z. omega (arith, z, word_sort t))

-- where no clause has begun nothing is asked of them
pub fresh : (S : Sizes) (n m : ℕ) (bs : List Block) → Clauses S n m bs [] []
fresh S n m bs = record {
  bound = λ b. absurd (omega (arith, b));
  ended = tt;
  open_clause = (omega arith, tt);
  few = omega arith;
  one_more = λ b. absurd (omega (arith, b));
  short = omega arith;
  fits = omega arith;
}

step_nothing : (S : Sizes) (t : Token) → Clean S nothing (Some t) → GoesOn S nothing t (after nothing (Some t))
step_nothing S t c = (tt, ap (λ x. x ∷ []) (sym (p_is t (eqb-true (sort (Some t)) 1 (not-false (is_p (Some t)) c.header)))))

step_problem : (S : Sizes) (t : Token) → Clean S problem (Some t) → GoesOn S problem t (after problem (Some t))
step_problem S t c = (tt, ap (λ x. Problem ∷ x ∷ []) (sym (cnf_is t (eqb-true (sort (Some t)) 2 (not-false (is_cnf (Some t)) c.header)))))

step_format : (S : Sizes) (t : Token) → Clean S format (Some t) → GoesOn S format t (after format (Some t))
step_format S t c =
    let k = size (Some t) in
    let a = and_parts (is_natural (Some t)) (leb 1 k && leb k 512) (not-false _ c.size) in
    let b = and_parts (leb 1 k) (leb k 512) a.1 in
    ((leb-true 1 k b.0, leb-true k 512 b.1), ap (λ x. Problem ∷ Cnf ∷ x ∷ []) (sym (natural_is t (eqb-true (sort (Some t)) 4 a.0))))

step_sized : (S : Sizes) (n : ℕ) (t : Token) → Lawful S (sized n) → Clean S (sized n) (Some t) → GoesOn S (sized n) t (after (sized n) (Some t))
step_sized S n t h c =
    let k = size (Some t) in
    let a = and_parts (is_natural (Some t)) (leb k 2048 && leb k S.ends) (not-false _ c.size) in
    let b = and_parts (leb k 2048) (leb k S.ends) a.1 in (
      ((h.0, h.1, leb-true k 2048 b.0, leb-true k S.ends b.1), tt, fresh S n k []),
      ap (λ x. Problem ∷ Cnf ∷ Number n ∷ x ∷ []) (sym (natural_is t (eqb-true (sort (Some t)) 4 a.0))),
    )

module _ (S : Sizes) (n m : ℕ) (bs : List Block) (b : Block) (t : Token) (h : Lawful S (binding n m bs b)) (c : Clean S (binding n m bs b) (Some t)) where
  natural : is_natural (Some t) ≡ true
  natural = ⊎_elim (λ e. absurd (both_ways (is_end (Some t)) (not_end t) e)) (λ e. e) (or_cases (is_end (Some t)) (is_natural (Some t)) (not-false _ c.spelling))

  in_block : cond (eqb (size (Some t)) 0) (eqb (length b.variables) 0) (ltb n (size (Some t)) || not (eqb (level_in (b ∷ bs) (size (Some t))) 0)) ≡ false
  in_block = ⊎_elim (λ e. absurd (both_ways (is_natural (Some t)) e natural)) (λ e. e) (and_cases (is_natural (Some t)) _ c.binds)

  word_is : t ≡ Number (size (Some t))
  word_is = natural_is t (eqb-true (sort (Some t)) 4 natural)

  block_ends : is_zero (Some t) ≡ true → GoesOn S (binding n m bs b) t (matrix n m (b ∷ bs) [] [])
  block_ends z =
      let zero_size = (and_parts (is_natural (Some t)) (eqb (size (Some t)) 0) z).1 in
      let some : 1 ≤ length b.variables = omega (arith, eqb-false (length b.variables) 0 (sym (cond-true (eqb (size (Some t)) 0) _ _ zero_size) ∙ in_block)) in
      let word : t ≡ Number 0 = word_is ∙ ap Number (eqb-true (size (Some t)) 0 zero_size) in (
        (h.0, (h.1, h.2, some), fresh S n m (b ∷ bs)),
        append-nil _ ∙ append-nil _ ∙ regroup (header_words n m) (spelled ended_block bs) (block_words b) (Number 0 ∷ []) ∙
            ap (λ x. spell (binding n m bs b) ++ (x ∷ [])) (sym word),
      )

  variable_more : is_zero (Some t) ≡ false → GoesOn S (binding n m bs b) t (binding n m bs (with_variable (size (Some t)) b))
  variable_more z =
      let k = size (Some t) in
      let nonzero : eqb k 0 ≡ false = ⊎_elim (λ e. absurd (both_ways (is_natural (Some t)) e natural)) (λ e. e) (and_cases (is_natural (Some t)) (eqb k 0) z) in
      let ok = or_parts (ltb n k) (not (eqb (level_in (b ∷ bs) k) 0)) (sym (cond-false (eqb k 0) _ _ nonzero) ∙ in_block) in
      let anew : level_in (b ∷ bs) k ≡ 0 = eqb-true _ 0 (not-false _ ok.1) in (
        (
          h.0,
          h.1,
          record {
            low = h.2.low;
            high = h.2.high;
            turns = h.2.turns;
            binds = (h.2.binds, (omega (arith, eqb-false k 0 nonzero), ltb-false n k ok.0), anew);
          },
        ),
        ap (λ x. prefix_words n m bs ++ (letter b.quantifier ∷ (spelled (λ v. Number v ∷ []) b.variables ++ (x ∷ [])))) (sym word_is) ∙ simp append_assoc,
      )

  step_binding : GoesOn S (binding n m bs b) t (after (binding n m bs b) (Some t))
  step_binding = cond_both (is_zero (Some t)) _ _ (λ e. GoesOn S (binding n m bs b) t e) block_ends variable_more

module _ (S : Sizes) (n m : ℕ) (bs : List Block) (Cs : List (List ℕ)) (C : List ℕ) (t : Token) (h : Lawful S (matrix n m bs Cs C)) (c : Clean S (matrix n m bs Cs C) (Some t)) where
  letter_or_number : (is_number (Some t) ≡ true) ⊎ ((is_letter (Some t) ≡ true) × (unbegun Cs C ≡ true))
  letter_or_number =
      ⊎_elim (λ e. absurd (both_ways (is_end (Some t)) (not_end t) e))
      (λ e. ⊎_elim (λ k. inl k) (λ k. inr (and_parts (is_letter (Some t)) (unbegun Cs C) k)) (or_cases (is_number (Some t)) (is_letter (Some t) && unbegun Cs C) e))
      (or_cases (is_end (Some t)) (is_number (Some t) || (is_letter (Some t) && unbegun Cs C)) (not-false _ c.spelling))

  binds_parts : ((unbegun Cs C && cond (is_letter (Some t)) (eqb (size (Some t)) (latest bs)) (unbound bs n)) ≡ false) × ((in_clause m Cs (Some t) && ltb n (size (Some t))) ≡ false)
  binds_parts = or_parts _ _ c.binds

  -- a letter opens a block
  block_begins : is_letter (Some t) ≡ true → GoesOn S (matrix n m bs Cs C) t (binding n m bs (record { quantifier = size (Some t); variables = [] }))
  block_begins l =
      let three = eqb-true (sort (Some t)) 3 l in
      let none : unbegun Cs C ≡ true = ⊎_elim
      (λ k. ⊎_elim (λ e. absurd (omega (arith, three, eqb-true (sort (Some t)) 4 e))) (λ e. absurd (omega (arith, three, eqb-true (sort (Some t)) 5 e))) (or_cases (eqb (sort (Some t)) 4) (eqb (sort (Some t)) 5) k))
      (λ k. k.1) letter_or_number in
      let count = eqb-true (length Cs + length C) 0 none in
      let no_ended = nil_from_length Cs (omega (arith, count)) in
      let no_open = nil_from_length C (omega (arith, count)) in
      let turn : eqb (size (Some t)) (latest bs) ≡ false = ⊎_elim (λ e. absurd (both_ways (unbegun Cs C) e none)) (λ e. sym (cond-true (is_letter (Some t)) _ _ l) ∙ e) (and_cases (unbegun Cs C) _ binds_parts.0) in
      let word = letter_is t three in (
        (
          h.0,
          h.1,
          record {
            low = word.1;
            high = word.2;
            turns = eqb-false (size (Some t)) (latest bs) turn;
            binds = tt;
          },
        ),
        ap (λ x. prefix_words n m bs ++ (x ∷ [])) (sym word.0) ∙ ap (λ x. x ++ (t ∷ [])) (sym (spell_unbegun n m bs Cs C no_ended no_open)),
      )

  module _ (no_letter : is_letter (Some t) ≡ false) where
    number_word : is_number (Some t) ≡ true
    number_word = ⊎_elim (λ k. k) (λ k. absurd (both_ways (is_letter (Some t)) no_letter k.0)) letter_or_number

    -- behind a number every variable is bound
    every_bound : AllBound n bs
    every_bound = ⊎_elim
        (λ begun. h.2.bound (omega (arith, eqb-false (length Cs + length C) 0 begun)))
        (λ e. all_bound bs n (sym (cond-false (is_letter (Some t)) _ _ no_letter) ∙ e))
        (and_cases (unbegun Cs C) _ binds_parts.0)

    one_more_fits : length Cs < m
    one_more_fits = ⊎_elim
        (λ e. absurd (both_ways (is_number (Some t)) e number_word))
        (λ e. leb-false m (length Cs) e)
        (and_cases (is_number (Some t)) (leb m (length Cs)) (sym (cond-false (is_end (Some t)) _ _ (not_end t)) ∙ c.tally))

    -- a 0 ends a clause
    clause_ends : is_zero (Some t) ≡ true → GoesOn S (matrix n m bs Cs C) t (matrix n m bs (C ∷ Cs) [])
    clause_ends z =
        let zero_size = and_parts (is_natural (Some t)) (eqb (size (Some t)) 0) z in
        let word : t ≡ Number 0 = natural_is t (eqb-true (sort (Some t)) 4 zero_size.0) ∙ ap Number (eqb-true (size (Some t)) 0 zero_size.1) in (
          (
            h.0,
            h.1,
            record {
              bound = λ _. every_bound;
              ended = (h.2.open_clause, h.2.ended);
              open_clause = (omega arith, tt);
              few = omega (arith, one_more_fits);
              one_more = λ b. absurd (omega (arith, b));
              short = omega (arith, sum_by-cons length C Cs, h.2.short);
              fits = omega (arith, sum_by-cons length C Cs, h.2.fits);
            },
          ),
          append-nil _ ∙ regroup (prefix_words n m bs) (spelled ended_clause Cs) (clause_words C) (Number 0 ∷ []) ∙ ap (λ x. spell (matrix n m bs Cs C) ++ (x ∷ [])) (sym word),
        )

    -- any other number is a literal
    literal_more : is_zero (Some t) ≡ false → GoesOn S (matrix n m bs Cs C) t (matrix n m bs Cs (code_of (Some t) ∷ C))
    literal_more z =
        let k = size (Some t) in
        let count = literal_count Cs C in
        let nonzero : eqb k 0 ≡ false = ⊎_elim
        (λ e. ne_eqb k 0 (λ none. eqb-false (sort (Some t)) 4 e (zero_natural t number_word none)))
        (λ e. e) (and_cases (is_natural (Some t)) (eqb k 0) z) in
        let inside : in_clause m Cs (Some t) ≡ true = and_from (is_literal (Some t)) (ltb (length Cs) m) (and_from (is_number (Some t)) (not (eqb k 0)) number_word (not_from_false (eqb k 0) nonzero)) (lt-ltb (length Cs) m one_more_fits) in
        let room : (leb 1024 (length C) || (leb 16384 count || leb S.cells count)) ≡ false = ⊎_elim (λ e. absurd (both_ways (in_clause m Cs (Some t)) e inside)) (λ e. e) (and_cases (in_clause m Cs (Some t)) _ c.size) in
        let rooms = or_parts (leb 1024 (length C)) _ room in
        let in_all = or_parts (leb 16384 count) (leb S.cells count) rooms.1 in
        let variable : ltb n k ≡ false = ⊎_elim (λ e. absurd (both_ways (in_clause m Cs (Some t)) e inside)) (λ e. e) (and_cases (in_clause m Cs (Some t)) (ltb n k) binds_parts.1) in
        let code = code_between (Some t) in (
          (
            h.0,
            h.1,
            record {
              bound = λ _. every_bound;
              ended = h.2.ended;
              open_clause = (omega (arith, leb-false 1024 (length C) rooms.0), ((omega (arith, code.0, eqb-false k 0 nonzero), omega (arith, code.1, ltb-false n k variable)), h.2.open_clause.1));
              few = h.2.few;
              one_more = λ _. one_more_fits;
              short = omega (arith, leb-false 16384 count in_all.0);
              fits = omega (arith, leb-false S.cells count in_all.1);
            },
          ),
          ap (λ x. (prefix_words n m bs ++ spelled ended_clause Cs) ++ (clause_words C ++ (x ∷ []))) (sym (number_is t number_word)) ∙ sym (append_assoc (prefix_words n m bs ++ spelled ended_clause Cs) (clause_words C) (t ∷ [])),
        )

  step_matrix : GoesOn S (matrix n m bs Cs C) t (after (matrix n m bs Cs C) (Some t))
  step_matrix =
      cond_both (is_letter (Some t)) _ _ (λ e. GoesOn S (matrix n m bs Cs C) t e) block_begins
      (λ l. cond_both (is_zero (Some t)) _ _ (λ e. GoesOn S (matrix n m bs Cs C) t e) (clause_ends l) (literal_more l))

-- a word that breaks no rule behind a lawful draft makes a lawful draft, which is spelled with that word at its end
pub step : (S : Sizes) (d : Draft) (t : Token) → Lawful S d → fault S d (Some t) ≡ None → GoesOn S d t (after d (Some t))
step S nothing t h e = step_nothing S t (rules_kept S nothing (Some t) e)
step S problem t h e = step_problem S t (rules_kept S problem (Some t) e)
step S format t h e = step_format S t (rules_kept S format (Some t) e)
step S (sized n) t h e = step_sized S n t h (rules_kept S (sized n) (Some t) e)
step S (binding n m bs b) t h e = step_binding S n m bs b t h (rules_kept S (binding n m bs b) (Some t) e)
step S (matrix n m bs Cs C) t h e = step_matrix S n m bs Cs C t h (rules_kept S (matrix n m bs Cs C) (Some t) e)
