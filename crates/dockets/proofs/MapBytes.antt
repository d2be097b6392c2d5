-- The kinds of lines and their map bytes.
use Rattle.std.proofs.Common.{◌≡◌, ℕ, eqb, subst}
use Rattle.std.proofs.lemmas.Bool.{cond_both, eqb-true}
use Rattle.dockets.specs.Reading.{Kind, axioms, resolutions, reductions, symmetries, unknown, kind_of}

abbrev pub Known : Kind → Type 0
Known axioms = Unit {0}
Known resolutions = Unit {0}
Known reductions = Unit {0}
Known symmetries = Unit {0}
Known unknown = ⊥

pub known : (kind : Kind) → Known kind → kind ≡ unknown → ⊥
known kind k e = subst Known e k

-- the map byte that a kind has
abbrev pub Byte : Kind → ℕ → Type 0
Byte axioms b = b ≡ 1
Byte resolutions b = b ≡ 14
Byte reductions b = b ≡ 10
Byte symmetries b = b ≡ 18
Byte unknown b = Unit {0}

pub byte_is : (b : ℕ) → Byte (kind_of b) b
byte_is b =
    cond_both (eqb b 1) axioms _ (λ k. Byte k b) (eqb-true b 1)
    (λ e. cond_both (eqb b 14) resolutions _ (λ k. Byte k b) (eqb-true b 14)
    (λ e. cond_both (eqb b 10) reductions _ (λ k. Byte k b) (eqb-true b 10)
    (λ e. cond_both (eqb b 18) symmetries _ (λ k. Byte k b) (eqb-true b 18) (λ e. tt))))
