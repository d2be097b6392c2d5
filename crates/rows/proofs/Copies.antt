-- The literals of a set, listed at the front of a place with room for them.
use Rattle.std.proofs.Common.{◌≡◌, ℕ, ◌≤◌, List, ◌++◌, length, take, drop, sym, ap, ◌∙◌, ap₂, arith}
use Rattle.std.proofs.lemmas.List.{take-append-drop}
use Rattle.sets.specs.Laid.{laid}
use Rattle.sets.specs.Members.{members}
use Rattle.sets.proofs.Laying.{listed}

pub line_copied :
    (words place out C : List ℕ) (k : ℕ) → members words ≡ C → k ≡ length (members words) → out ≡ laid (members words) place → length C ≤ length place →
    out ≡ C ++ drop k place
line_copied words place out C k same count written short =
    let l : (take k out ≡ members words) × (drop k out ≡ drop k place) = listed words place out k count written (omega (arith, ap length same)) in
    sym (take-append-drop k out) ∙ ap₂ (λ xs ys. xs ++ ys) (l.0 ∙ same) l.1
