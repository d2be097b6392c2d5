-- The lines of a docket as claims.
use Rattle.std.specs.Prelude.{◌≡◌, ℕ, List, [], ◌∷◌, Ok}
use Rattle.laws.specs.Cards.{Card}
use Rattle.laws.specs.Lines.{Line, axiom_line, resolution, reduction, symmetry}
use Rattle.cards.specs.Pairs.{Makes}
use Rattle.case.specs.Claimed.{Claimed}
use Rattle.case.specs.Standing.{Standing}
use Rattle.dockets.specs.Encoding.{Entry, axiom_entry, resolution_entry, reduction_entry, symmetry_entry}

-- the entry claims this line; the card is the one that its pairs make
abbrev pub Claims : Entry → Line → Type 0
Claims (axiom_entry j) line = line ≡ axiom_line j
Claims (resolution_entry p q v) line = line ≡ resolution p q v
Claims (reduction_entry p v) line = line ≡ reduction p v
Claims (symmetry_entry p pairs) line = (card : Card) × Makes pairs card × (line ≡ symmetry p card)

-- the claims of the entries are all granted, one after the other, and lead from s to t
abbrev pub GrantedEach : Standing → List Entry → Standing → Type 0
GrantedEach s [] t = t ≡ s
GrantedEach s (entry ∷ entries) t =
    (line : Line) × (p : ℕ) × (u : Standing) × Claims entry line × Claimed s line (Ok p) u × GrantedEach u entries t
