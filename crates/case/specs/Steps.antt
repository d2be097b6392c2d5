-- What the steps of a claim promise: the clause that a line's rule yields, the clause kept, and the clause of an earlier line.
use Rattle.std.specs.Prelude.{◌≡◌, ℕ, ◌<◌, ◌≤◌, false, List, [], ◌∷◌, length, Result, MatchResult}
use Rattle.calculus.specs.Literals.{Tautological}
use Rattle.calculus.specs.Meaning.{Meaning, Variable}
use Rattle.laws.specs.Cards.{Card, Admissible, Carries}
use Rattle.laws.specs.Checks.{Check, conditions, Hold, FailsWith}
use Rattle.laws.specs.Clauses.{Resolvable}
use Rattle.laws.specs.Derivations.{line_of}
use Rattle.laws.specs.Lines.{Line, axiom_line, resolution, reduction, symmetry}
use Rattle.laws.specs.Store.{Room}
use Rattle.sets.specs.Members.{members}
use Rattle.sets.specs.declared.clause_set.ClauseSet.{ClauseSet}
use Rattle.shelf.specs.declared.clause.Clause.{Clause}
use Rattle.case.specs.Answers.{refusal_number}
use Rattle.case.specs.Claimed.{clause_by}
use Rattle.case.specs.Standing.{Standing, with_line}
use Rattle.case.specs.declared.refusal.Refusal.{Refusal}
use Rattle.case.specs.declared.refusal.Refusal.TheVariants.{Absent, Full}

-- the conditions of each rule; which clauses are tautological is said of the clause that the rule gives
abbrev pub rule_checks : Standing → Line → List Check
rule_checks s (axiom_line j) = (32, j < length s.formula.clauses) ∷ (33, (Tautological (clause_by s (axiom_line j)) → ⊥)) ∷ []
rule_checks s (resolution p q v) =
    (32, p < length s.shelf.kept) ∷
    (32, q < length s.shelf.kept) ∷
    (32, Variable s.formula.n v) ∷
    (34, Resolvable s.formula (line_of s.shelf.kept p) (line_of s.shelf.kept q) v) ∷
    (33, (Tautological (clause_by s (resolution p q v)) → ⊥)) ∷
    []
rule_checks s (reduction p v) = conditions s.formula s.shelf.kept (reduction p v)
rule_checks s (symmetry p card) = conditions s.formula s.shelf.kept (symmetry p card)

-- those of a card, by itself
abbrev pub card_checks : Meaning → Card → List Check
card_checks m card = (36, Admissible m card) ∷ (37, Carries m card) ∷ []

-- the case is open and the rule's conditions hold, and this is the clause of the rule; or the first of these that fails is named
abbrev pub Yields : Standing → Line → Result ClauseSet Refusal → Type 0
Yields s line r =
    MatchResult r (λ clause. Hold ((31, s.refuted ≡ false) ∷ rule_checks s line) × (members clause.literals.words ≡ clause_by s line))
    (λ e. FailsWith (refusal_number e) ((31, s.refuted ≡ false) ∷ rule_checks s line))

-- C is kept as the next line where the shelf can keep it
abbrev pub KeepsLine : Standing → List ℕ → Result ℕ Refusal → Standing → Type 0
KeepsLine s C r t =
    MatchResult r (λ p. Room s.shelf.store s.shelf.kept C × (p ≡ length s.shelf.kept) × (t ≡ with_line s C))
    (λ e. (Room s.shelf.store s.shelf.kept C → ⊥) × (e ≡ Full) × (t ≡ s))

-- the clause of line p; or there is no such line
abbrev pub Fetched : List (List ℕ) → ℕ → Result Clause Refusal → Type 0
Fetched kept p r = MatchResult r (λ clause. (p < length kept) × (clause.codes.now ≡ line_of kept p)) (λ e. (length kept ≤ p) × (e ≡ Absent))
