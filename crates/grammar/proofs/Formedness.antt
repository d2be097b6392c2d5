-- A lawful prefix and lawful clauses make a well-formed formula.
use Rattle.std.proofs.Common.{◌≡◌, ℕ, suc, ◌+◌, ◌≤◌, List, [], ◌∷◌, map, reverse, length, get_or, sym, ap, ◌∙◌, subst, arith}
use mathlib.Core.List.{reverse-cons}
use Rattle.std.specs.List.{range_with_len, AllByRecursion}
use Rattle.std.proofs.lemmas.List.{length-reverse, length-map}
use Rattle.std.proofs.ByRecursion.{All-push, All-map, All-weaker}
use Rattle.std.proofs.lemmas.List.FromFn.{length-map-range_with_len, get_or-map-range_with_len}
use Rattle.calculus.specs.Meaning.{Code, Clause, Prefix, Formed}
use Rattle.grammar.specs.Draft.{Block, level_in, quantifier_in, formula_of}
use Rattle.grammar.specs.Lawful.{Blocks, AllBound}
use Rattle.grammar.specs.Theorems.{ReadFormed}
use Rattle.grammar.proofs.Levels.{level_at_most, zero_unbound, level_inhabited, quantifier_at, quantifier_at_none, quantifier_by_level, quantifier_kind, quantifiers_alternate}

-- what a list made for the numbers 0 to n holds
pub listed : (f : ℕ → ℕ) (n v : ℕ) → v ≤ n → get_or (map f (range_with_len 0 (n + 1))) v 0 ≡ f v
listed f n v h = get_or-map-range_with_len f 0 (n + 1) v v 0 (omega (arith, h)) (omega arith)

-- blocks that bind every variable are a well-formed prefix
pub prefix_formed :
    (n : ℕ) (bs : List Block) → Blocks n bs → AllBound n bs → 1 ≤ n → n ≤ 512 →
    Prefix n (map (level_in bs) (range_with_len 0 (n + 1))) (map (quantifier_in bs) (range_with_len 0 (n + 1)))
prefix_formed n bs h bound low high = record {
  some = low;
  few = high;
  levels_long = length-map-range_with_len (level_in bs) 0 (n + 1);
  levels_none = level 0 (omega arith) ∙ zero_unbound n bs h;
  quantifiers_long = length-map-range_with_len (quantifier_in bs) 0 (n + 1);
  quantifiers_none = quantifier 0 (omega arith) ∙ ap (quantifier_at bs) (zero_unbound n bs h) ∙ quantifier_at_none bs;
  from_one = λ v x. rw (level v x.1) (bound v x);
  none_empty = λ v k x from to.
      let top : k ≤ length bs = omega (arith, level v x.1, level_at_most bs v, to) in
      let w = level_inhabited n bs h k from top in
      ∣ (w.0, w.1, level w.0 w.1.1 ∙ w.2) ∣₁;
  kinds = λ v x. rw (quantifier v x.1) (quantifier_kind n bs h (level_in bs v) (bound v x) (level_at_most bs v));
  shared = λ v w x y e. quantifier v x.1 ∙ ap (quantifier_at bs) (sym (level v x.1) ∙ e ∙ level w y.1) ∙ sym (quantifier w y.1);
  differ = λ v w x y e q.
      let up : level_in bs w ≡ suc (level_in bs v) = omega (arith, level v x.1, level w y.1, e) in
      quantifiers_alternate n bs h (level_in bs v) (bound v x) (omega (arith, up, level_at_most bs w))
      (sym (quantifier v x.1) ∙ q ∙ quantifier w y.1 ∙ ap (quantifier_at bs) up);
}
  where
    level : (v : ℕ) → v ≤ n → get_or (map (level_in bs) (range_with_len 0 (n + 1))) v 0 ≡ level_in bs v
    level v x = listed (level_in bs) n v x

    quantifier : (v : ℕ) → v ≤ n → get_or (map (quantifier_in bs) (range_with_len 0 (n + 1))) v 0 ≡ quantifier_at bs (level_in bs v)
    quantifier v x = listed (quantifier_in bs) n v x ∙ quantifier_by_level bs v

-- what holds of each element holds of each the other way round
pub all_reverse : {X : Type 0} (P : X → Type 0) (xs : List X) → AllByRecursion P xs → AllByRecursion P (reverse xs)
all_reverse P [] h = tt
all_reverse P (x ∷ xs) h = rw (reverse-cons x xs) (All-push P (reverse xs) x (all_reverse P xs h.1) h.0)

-- a clause is one the other way round
clause_reverse : (n : ℕ) (C : List ℕ) → Clause n C → Clause n (reverse C)
clause_reverse n C h = (rw (length-reverse C) h.0, all_reverse (Code n) C h.1)

-- a lawful draft in which every variable is bound is a well-formed formula
pub read_formed :
    (n : ℕ) (bs : List Block) (Cs : List (List ℕ)) → Blocks n bs → AllBound n bs → 1 ≤ n → n ≤ 512 →
    length Cs ≤ 2048 → AllByRecursion (Clause n) Cs → Formed (formula_of n bs Cs)
read_formed n bs Cs h bound low high few all = record {
  prefix = prefix_formed n bs h bound low high;
  few_clauses = rw (length-reverse (map reverse Cs), length-map Cs reverse) few;
  clauses = all_reverse (Clause n) (map reverse Cs) (All-map (Clause n) reverse Cs (All-weaker (Clause n) (λ C. Clause n (reverse C)) (clause_reverse n) Cs all));
}

pub reads_formed : ReadFormed
reads_formed S text m r =
    subst Formed (sym r.formula)
    (read_formed r.n r.blocks r.clauses r.lawful.1 r.bound r.lawful.0.0 r.lawful.0.1 r.lawful.0.2 r.lawful.2.ended)
