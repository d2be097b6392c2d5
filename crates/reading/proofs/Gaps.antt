-- Bindings with a gap, and blocks that leave a variable unbound.
use Rattle.std.proofs.Common.{◌≡◌, ℕ, zero, suc, ◌<◌, Bool, ◌||◌, eqb, List, [], ◌∷◌, length, get_or, take, drop, sym, refl, ap, ap₂, add-one, ◌∙◌, arith}
use Rattle.std.specs.List.{list_any}
use Rattle.std.proofs.lemmas.List.{get_or-map}
use Rattle.std.proofs.lemmas.List.Folds.{list_any_more}
use Rattle.std.proofs.Math.Bool.{or_comm}
use Rattle.grammar.specs.Draft.{Block, level_in}
use Rattle.grammar.specs.Fault.{unbound}
use Rattle.reading.specs.declared.binding.Binding.{Binding}
use Rattle.reading.specs.Bindings.{levels_of}
use Rattle.reading.specs.Stands.{gap}

-- the level of v, whatever is read past the end
pub level_is : (bs : List Binding) (v : ℕ) (d : Binding) → v < length bs → get_or (levels_of bs) v 0 ≡ (get_or bs v d).level
level_is bs v d h = get_or-map (λ b. b.level) bs v d 0 h

abbrev pub unleveled : Binding → Bool
unleveled b = eqb b.level 0

-- some of the variables 1 to n have no level
gap_at : (bs : List Binding) (n : ℕ) → n < length bs → list_any unleveled (take n (drop 1 bs)) ≡ gap (levels_of bs) n
gap_at bs zero h = refl
gap_at [] (suc n) h = absurd (omega arith)
gap_at (b ∷ bs) (suc n) h =
    let here : unleveled (get_or bs n b) ≡ eqb (get_or (levels_of bs) n 0) 0 = ap (λ x. eqb x 0) (sym (level_is bs n b (omega arith))) in
    ap (λ k. list_any unleveled (take k bs)) (sym (add-one n)) ∙ list_any_more unleveled bs n b (omega arith) ∙
    or_comm (list_any unleveled (take n bs)) (unleveled (get_or bs n b)) ∙ ap₂ (λ x y. x || y) here (gap_at (b ∷ bs) n (omega arith))

pub any_gap : (bs : List Binding) (k n : ℕ) → k ≡ n → n < length bs → list_any unleveled (take k (drop 1 bs)) ≡ gap (levels_of bs) n
any_gap bs k n e h = ap (λ i. list_any unleveled (take i (drop 1 bs))) e ∙ gap_at bs n h

-- a table that gives each variable the level that the blocks give it has a gap where they leave a variable unbound
pub gap_is_unbound : (levels : List ℕ) (bs : List Block) → ((v : ℕ) → get_or levels v 0 ≡ level_in bs v) → (n : ℕ) → gap levels n ≡ unbound bs n
gap_is_unbound levels bs same zero = refl
gap_is_unbound levels bs same (suc n) = rw (same (suc n), gap_is_unbound levels bs same n) refl
