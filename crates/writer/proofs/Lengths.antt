-- How long the text of a formula, and the line that reports a fault, can be.
use Rattle.std.proofs.Common.{ℕ, zero, suc, ◌+◌, ◌*◌, ◌/◌, ◌%◌, ◌^◌, ◌<◌, ◌≤◌, eqb, leb, List, [], ◌∷◌, ◌++◌, length, codes, decimal, sum_by, filter, sym, subst, mul-suc, mul-add, arith, length-append}
use Rattle.std.specs.List.{range_with_len, flat_map, AllByRecursion}
use Rattle.std.proofs.lemmas.List.FromFn.{length-range_with_len}
use Rattle.std.proofs.lemmas.Fmt.{length-decimal-le}
use Rattle.std.proofs.ByRecursion.{all_kept_by, All-weaker}
use Rattle.std.proofs.lemmas.List.Sums.{sum_by-cons, length-filter, count_by-le-length}
use Rattle.std.proofs.lemmas.Bool.{cond_both}
use Rattle.std.proofs.lemmas.Bool.Decides.{nat_tests}
use Rattle.calculus.specs.Meaning.{Meaning, Formed, Variable, Code, Clause, level_of}
use Rattle.calculus.specs.Truth.{at_level}
use Rattle.grammar.specs.declared.rule.Rule.{Rule}
use Rattle.grammar.specs.declared.rule.Rule.TheVariants.{Spelling, Header, Size, Binding, Tally}
use Rattle.grammar.specs.declared.rule.TextFault.{TextFault}
use Rattle.grammar.specs.Fault.{number}
use Rattle.grammar.specs.Lawful.{Sizes}
use Rattle.grammar.specs.Outcome.{Reads}
use Rattle.grammar.proofs.Formedness.{reads_formed}
use Rattle.writer.specs.Back.{FitsLimits}
use Rattle.writer.specs.Short.{longest, TidyTextIsShort}
use Rattle.writer.specs.Written.{header_line, variable_text, block_line, greatest, sign, literal_text, clause_line, written, refusal_line}
use Rattle.writer.proofs.Matrices.{total_back}
use Rattle.writer.proofs.Prefixes.{counting_variables, some_at_each}

-- pieces of at most a * w + b bytes each
joined_short : {X : Type 0} (f : X → List ℕ) (w : X → ℕ) (a b : ℕ) (xs : List X) → AllByRecursion (λ x. length (f x) ≤ a * w x + b) xs →
    length (flat_map f xs) ≤ a * sum_by w xs + b * length xs
joined_short f w a b [] h = omega arith
joined_short f w a b (x ∷ xs) h =
    let more = joined_short f w a b xs h.1 in
    rw (sum_by-cons w x xs, mul-add a (w x) (sum_by w xs), mul-suc b (length xs)) (omega (arith, length-append (f x) (flat_map f xs)))

-- pieces of at most b bytes each
pieces_short : {X : Type 0} (f : X → List ℕ) (b : ℕ) (xs : List X) → AllByRecursion (λ x. length (f x) ≤ b) xs → length (flat_map f xs) ≤ b * length xs
pieces_short f b xs h =
    omega (arith, joined_short f (λ _. 0) 0 b xs (All-weaker (λ x. length (f x) ≤ b) (λ x. length (f x) ≤ 0 * 0 + b) (λ x l. omega arith) xs h))

some_each : {X : Type 0} (w : X → ℕ) (xs : List X) → AllByRecursion (λ x. 1 ≤ w x) xs → length xs ≤ sum_by w xs
some_each w [] h = omega arith
some_each w (x ∷ xs) h = omega (arith, sum_by-cons w x xs, some_each w xs h.1)

-- what has level a, and what has a greater one
above : (level : ℕ → ℕ) (a : ℕ) (vs : List ℕ) →
    length (filter (λ v. eqb (level v) a) vs) + length (filter (λ v. leb (a + 1) (level v)) vs) ≤ length (filter (λ v. leb a (level v)) vs)
above level a [] = omega arith
above level a (v ∷ vs) = let more = above level a vs in grind (arith, nat_tests)

-- no variable has two levels
levels_share : (level : ℕ → ℕ) (vs : List ℕ) (a g : ℕ) →
    sum_by (λ k. length (filter (λ v. eqb (level v) k) vs)) (range_with_len a g) ≤ length (filter (λ v. leb a (level v)) vs)
levels_share level vs a zero = omega arith
levels_share level vs a (suc g) =
    let size = λ (k : ℕ). length (filter (λ v. eqb (level v) k) vs) in
    omega (arith, sum_by-cons size a (range_with_len (a + 1) g), levels_share level vs (a + 1) g, above level a vs)

-- digits of numbers below 1,000
small_short : (k : ℕ) → k < 1000 → length (decimal k) ≤ 3
small_short k h = length-decimal-le 3 k (omega arith) h (omega arith)

sign_short : (l : ℕ) → length (sign l) ≤ 1
sign_short l = cond_both (eqb (l % 2) 0) [] (45 ∷ []) (λ s. length s ≤ 1) (λ _. omega arith) (λ _. omega arith)

literal_short : (l : ℕ) → l < 2000 → length (literal_text l) ≤ 5
literal_short l h =
    simp length-append (omega (arith, sign_short l, small_short (l / 2) (omega arith)))

clause_short : (n : ℕ) → n ≤ 512 → (C : List ℕ) → Clause n C → length (clause_line C) ≤ 5 * length C + 2
clause_short n few C c =
    omega (
      arith,
      length-append (flat_map literal_text C) (codes "0\n"),
      pieces_short literal_text 5 C (All-weaker (Code n) (λ l. length (literal_text l) ≤ 5) (λ l h. literal_short l (omega arith)) C c.1),
    )

-- the five rules have numbers of two digits
pub number_short : (r : Rule) → number r < 100
number_short Spelling = omega arith
number_short Header = omega arith
number_short Size = omega arith
number_short Binding = omega arith
number_short Tally = omega arith

-- the line that reports a fault
pub refusal_short : (f : TextFault) → f.byte < 2 ^ 64 → length (refusal_line f) ≤ 55
unfolding refusal_line
refusal_short f h =
    simp length-append
    (omega (
      arith,
      length-decimal-le 2 (number f.rule) (omega arith) (number_short f.rule) (omega (arith, number_short f.rule)),
      length-decimal-le 20 f.byte (omega arith) (omega arith) h,
    ))

module _ (m : Meaning) (h : Formed m) where
  header_short : length (header_line m) ≤ 15
  header_short =
      simp length-append
      (omega (
        arith,
        small_short m.n (omega (arith, h.prefix.few)),
        length-decimal-le 4 (length m.clauses) (omega arith) (omega (arith, h.few_clauses)) (omega (arith, h.few_clauses)),
      ))

  block_short : (k : ℕ) → length (block_line m k) ≤ 4 * length (at_level m k) + 4
  block_short k =
      let test = λ (v : ℕ). eqb (level_of m v) k in
      let all = all_kept_by test (Variable m.n) (range_with_len 1 m.n) (counting_variables m.n) in
      omega (
        arith,
        length-append (flat_map variable_text (at_level m k)) (codes " 0\n"),
        pieces_short variable_text 4 (at_level m k)
            (All-weaker (Variable m.n) (λ v. length (variable_text v) ≤ 4) (λ v w. omega (arith, small_short v (omega (arith, h.prefix.few)))) (at_level m k) all),
      )

  blocks_short : length (flat_map (block_line m) (range_with_len 1 (greatest m.levels))) ≤ 4096
  blocks_short =
      let size = λ (k : ℕ). length (at_level m k) in
      let g = greatest m.levels in
      let ks = range_with_len 1 g in
      let all = counting_variables g in
      omega (
        arith,
        h.prefix.few,
        length-range_with_len 1 g,
        length-range_with_len 1 m.n,
        joined_short (block_line m) size 4 4 ks (All-weaker (Variable g) (λ k. length (block_line m k) ≤ 4 * size k + 4) (λ k w. block_short k) ks all),
        some_each size ks (All-weaker (Variable g) (λ k. 1 ≤ size k) (λ k w. some_at_each m h.prefix k w.0 w.1) ks all),
        levels_share (level_of m) (range_with_len 1 m.n) 1 g,
        length-filter (λ v. leb 1 (level_of m v)) (range_with_len 1 m.n),
        count_by-le-length (λ v. leb 1 (level_of m v)) (range_with_len 1 m.n),
      )

  clauses_short : FitsLimits m → length (flat_map clause_line m.clauses) ≤ 86016
  clauses_short few =
      omega (
        arith,
        h.few_clauses,
        joined_short clause_line length 5 2 m.clauses
            (All-weaker (Clause m.n) (λ C. length (clause_line C) ≤ 5 * length C + 2) (clause_short m.n h.prefix.few) m.clauses h.clauses),
      )

pub written_short : TidyTextIsShort
unfolding written
written_short m h few =
    let blocks = flat_map (block_line m) (range_with_len 1 (greatest m.levels)) in
    let lines = flat_map clause_line m.clauses in
    omega (arith, length-append (header_line m) (blocks ++ lines), length-append blocks lines, header_short m h, blocks_short m h, clauses_short m h few)

-- what a text reads as is within the limits
pub reads_within : {S : Sizes} {text : List ℕ} {m : Meaning} → Reads S text m → FitsLimits m
reads_within r =
    subst FitsLimits (sym r.formula) (omega (arith, total_back r.clauses, r.lawful.2.short))

pub reads_short : {S : Sizes} {text : List ℕ} {m : Meaning} → Reads S text m → length (written m) ≤ longest
reads_short {S} {text} {m} r = written_short m (reads_formed S text m r) (reads_within r)
