-- A line that is read: where it ends, and what a symmetry line claims, by what its card makes of it.
use Rattle.std.proofs.Common.{◌≡◌, ℕ, ◌+◌, ◌<◌, ◌≤◌, List, length, get_or, sym, ap, subst, arith}
use Rattle.std.specs.List.{AllByRecursion}
use Rattle.std.proofs.ByRecursion.{All-from_get_or}
use Rattle.laws.specs.Cards.{Card}
use Rattle.laws.specs.Lines.{symmetry}
use Rattle.cards.specs.Pairs.{Makes}
use Rattle.dockets.specs.Encoding.{Entry, encoded}
use Rattle.dockets.specs.Lines.{entry_for}
use Rattle.dockets.specs.Reading.{Hold, line_checks, entry_at, pairs_at}
use Rattle.dockets.specs.declared.line.Line.{Line}
use Rattle.dockets.specs.declared.line.Line.TheVariants.{Symmetry}
use Rattle.dockets.proofs.Joining.{line_ends, line_long}
use Rattle.examining.specs.Entries.{Claims}

pub claims_symmetry :
    (docket : List ℕ) (line : Line) (p place q : ℕ) (entry : Entry) (card : Card) → entry_for docket line ≡ entry → line ≡ Symmetry p place →
    q ≡ p → Makes (pairs_at docket place) card → Claims entry (symmetry q card)
claims_symmetry docket line p place q entry card e is same made =
    subst (λ x. Claims x (symmetry q card)) e (subst (λ x. Claims (entry_for docket x) (symmetry q card)) (sym is) (card, made, ap (λ n. symmetry n card) same))

pub ends_within :
    (docket : List ℕ) (at : ℕ) (line : Line) (n : ℕ) → ((k : ℕ) → get_or docket k 0 < 256) → Hold (line_checks docket at) → entry_for docket line ≡ entry_at docket at →
    n ≡ length (encoded (entry_for docket line)) → at + n ≤ length docket
ends_within docket at line n below holds e is =
    let bytes : AllByRecursion (λ b. b < 256) docket = All-from_get_or (λ b. b < 256) docket 0 (λ k lt. below k) in
    omega (arith, is, ap (λ x. length (encoded x)) e, line_long docket bytes at holds, line_ends docket bytes at holds)
