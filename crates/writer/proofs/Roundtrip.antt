-- What is written of a formula reads back as that formula.
use Rattle.std.proofs.Common.{◌≡◌, ℕ, zero, suc, ◌+◌, ◌<◌, eqb, Bool, true, false, cond, List, [], ◌∷◌, ◌++◌, map, reverse, length, Ok, Err, Result, sym, refl, ap, ◌∙◌, append_assoc, arith}
use mathlib.Core.List.{reverse-cons}
use Rattle.std.specs.List.{range_with_len, flat_map}
use Rattle.std.proofs.lemmas.List.FromFn.{fill_by_all}
use Rattle.std.proofs.ByRecursion.{all_kept_by, All-weaker}
use Rattle.std.proofs.lemmas.List.{append-nil, flat_map_more}
use Rattle.std.proofs.Math.Seq.{take-append_seam}
use Rattle.calculus.specs.Meaning.{Meaning, Formed, Variable, Clause, level_of}
use Rattle.calculus.specs.Truth.{at_level}
use Rattle.grammar.specs.Draft.{matrix, spelled, letter, literal_word, ended_block, ended_clause, header_words, spell, level_in, quantifier_in, formula_of}
use Rattle.grammar.specs.Lawful.{Sizes, AllBound, Clauses}
use Rattle.grammar.specs.Outcome.{Reads}
use Rattle.words.specs.declared.token.Token.{Token}
use Rattle.words.specs.declared.token.Token.TheVariants.{Number}
use Rattle.writer.specs.declared.fault.WriteFault.{WriteFault}
use Rattle.writer.specs.declared.fault.WriteFault.TheVariants.{Cramped}
use Rattle.writer.specs.Back.{FitsLimits, HasCells, ReadsBack, WrittenReadsBack}
use Rattle.writer.specs.Into.{fits, laid, answer, filled}
use Rattle.writer.specs.Written.{block_line, clause_line, greatest, written}
use Rattle.writer.proofs.Descents.{down_reverse, counting_one_push}
use Rattle.writer.proofs.Matrices.{back, back_back, length_back, total_back, clauses_back}
use Rattle.writer.proofs.Prefixes.{block, blocks_to, all_blocks, counting_variables, lawful_blocks, blocks_level, blocks_quantifier}
use Rattle.writer.proofs.Wording.{Says, says_none, says_then, says_as, says_joined, says_tokens, says_header, says_block, says_clause}

-- a list that stands the latest first is spelled in order
spelled_append : {X : Type 0} (f : X → List Token) (xs ys : List X) → spelled f (xs ++ ys) ≡ spelled f ys ++ spelled f xs
spelled_append f [] ys = sym (append-nil (spelled f ys))
spelled_append f (x ∷ xs) ys = ap (λ ts. ts ++ f x) (spelled_append f xs ys) ∙ append_assoc (spelled f ys) (spelled f xs) (f x)

spelled_reverse : {X : Type 0} (f : X → List Token) (xs : List X) → spelled f (reverse xs) ≡ flat_map f xs
spelled_reverse f [] = refl
spelled_reverse f (x ∷ xs) =
    ap (spelled f) (reverse-cons x xs) ∙ (spelled_append f (reverse xs) (x ∷ []) ∙ ap (λ ts. f x ++ ts) (spelled_reverse f xs))

joined_map : {X Y Z : Type 0} (f : Y → List Z) (g : X → Y) (xs : List X) → flat_map f (map g xs) ≡ flat_map (λ x. f (g x)) xs
joined_map f g [] = refl
joined_map f g (x ∷ xs) = ap (λ zs. f (g x) ++ zs) (joined_map f g xs)

meaning_same : (m : Meaning) (levels quantifiers : List ℕ) (clauses : List (List ℕ)) → m.levels ≡ levels → m.quantifiers ≡ quantifiers →
    m.clauses ≡ clauses → m ≡ record { n = m.n; levels = levels; quantifiers = quantifiers; clauses = clauses }
meaning_same m levels quantifiers clauses e f g =
    let made : List ℕ → List ℕ → List (List ℕ) → Meaning = λ l q c. record { n = m.n; levels = l; quantifiers = q; clauses = c } in
    ap (λ l. made l m.quantifiers m.clauses) e ∙ (ap (λ q. made levels q m.clauses) f ∙ ap (λ c. made levels quantifiers c) g)

module _ (m : Meaning) (h : Formed m) where
  block_said : (k : ℕ) → Says (block_line m k) (ended_block (block m k))
  block_said k =
      let test = λ (v : ℕ). eqb (level_of m v) k in
      says_as refl
      (ap (λ ts. letter (block m k).quantifier ∷ (ts ++ (Number 0 ∷ [])))
      (sym (ap (spelled (λ v. Number v ∷ [])) (down_reverse test m.n) ∙ spelled_reverse (λ v. Number v ∷ []) (at_level m k))))
      (says_block (block m k).quantifier (at_level m k)
      (all_kept_by test (λ v. v < 100000) (range_with_len 1 m.n) (All-weaker (Variable m.n) (λ v. v < 100000) (λ v w. omega (arith, h.prefix.few)) (range_with_len 1 m.n) (counting_variables m.n))))

  blocks_said : (k : ℕ) → Says (flat_map (block_line m) (range_with_len 1 k)) (spelled ended_block (blocks_to m k))
  blocks_said zero = says_none
  blocks_said (suc k) =
      says_as (flat_map_more (block_line m) [] (range_with_len 1 k) (suc k) ∙ ap (flat_map (block_line m)) (sym (counting_one_push k))) refl
      (says_then (blocks_said k) (block_said (suc k)))

  clauses_said : Says (flat_map clause_line m.clauses) (spelled ended_clause (back m.clauses))
  clauses_said =
      says_as refl (sym (spelled_reverse ended_clause (map reverse m.clauses) ∙ joined_map ended_clause reverse m.clauses))
      (says_joined (Clause m.n) clause_line (λ C. ended_clause (reverse C))
      (λ C c.
      says_as refl (ap (λ ts. ts ++ (Number 0 ∷ [])) (sym (spelled_reverse (λ l. literal_word l ∷ []) C))) (says_clause m.n C h.prefix.few c.1))
      m.clauses h.clauses)

  written_said : Says (written m) (spell (matrix m.n (length (back m.clauses)) (all_blocks m) (back m.clauses) []))
  unfolding written
  written_said =
      let behind = spelled ended_block (all_blocks m) ++ spelled ended_clause (back m.clauses) in
      says_as refl
      (ap (λ k. header_words m.n k ++ behind) (sym (length_back m.clauses))
      ∙ ap (λ ts. header_words m.n (length (back m.clauses)) ++ ts) (sym (append-nil behind)))
      (says_then (says_header m h.prefix.few h.few_clauses) (says_then (blocks_said (greatest m.levels)) clauses_said))

  same_formula : m ≡ formula_of m.n (all_blocks m) (back m.clauses)
  same_formula =
      let p = h.prefix in
      meaning_same m _ _ _
      (fill_by_all (level_in (all_blocks m)) m.levels (m.n + 1) 0 p.levels_long (λ v l. sym (blocks_level m p v (omega arith))))
      (fill_by_all (quantifier_in (all_blocks m)) m.quantifiers (m.n + 1) 0 p.quantifiers_long (λ v l. sym (blocks_quantifier m p v (omega arith))))
      (sym (back_back m.clauses))

  all_bound : AllBound m.n (all_blocks m)
  all_bound v w = omega (arith, h.prefix.from_one v w, blocks_level m h.prefix v w.1)

  module _ (few : FitsLimits m) (S : Sizes) (cells : HasCells S m) where
    lawful_clauses : Clauses S m.n (length (back m.clauses)) (all_blocks m) (back m.clauses) []
    lawful_clauses =
        record {
          bound = λ _. all_bound;
          ended = clauses_back m.n m.clauses h.clauses;
          open_clause = (omega arith, tt);
          few = omega arith;
          one_more = λ l. absurd (omega arith);
          short = omega (arith, total_back m.clauses);
          fits = omega (arith, total_back m.clauses);
        }

    reads : Reads S (written m) m
    unfolding written
    reads =
        record {
          n = m.n;
          blocks = all_blocks m;
          clauses = back m.clauses;
          lawful = ((h.prefix.some, h.prefix.few, omega (arith, length_back m.clauses, h.few_clauses), omega (arith, length_back m.clauses)), lawful_blocks m h.prefix (greatest m.levels) (omega arith), lawful_clauses);
          bound = all_bound;
          spells = says_tokens _ _ written_said;
          formula = same_formula;
        }

pub written_reads_back : WrittenReadsBack
written_reads_back m h few S cells = reads m h few S cells

-- whether or not it fits a buffer, what was written there reads back
either_way : (m : Meaning) → Formed m → (out : List ℕ) (b : Bool) →
    ReadsBack (cond b (Ok (length (written m))) (Err Cramped)) (cond b (laid (written m) out) out) m
either_way m h out true = rw take-append_seam (written_reads_back m h)
either_way m h out false = tt

pub reads_back : (m : Meaning) → Formed m → (r : Result ℕ WriteFault) (out left : List ℕ) → r ≡ answer (written m) out → left ≡ filled (written m) out → ReadsBack r left m
reads_back m h r out left e f = rw (e, f) (either_way m h out (fits (written m) out))
