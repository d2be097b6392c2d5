-- A draft at a given stage.
use Rattle.std.proofs.Common.{◌≡◌, ℕ, Bool, eqb, List, length, arith}
use Rattle.grammar.specs.Draft.{Block, Draft, nothing, problem, format, sized, binding, matrix}
use Rattle.reading.specs.declared.state.Stage.TheVariants.{Block as InBlock, Matrix}
use Rattle.reading.specs.Stands.{stage_of}

pub in_block : {vacant : Bool} (P : Draft → Type 0) → ((n m : ℕ) (bs : List Block) (b : Block) → vacant ≡ eqb (length b.variables) 0 → P (binding n m bs b)) →
    (d : Draft) → InBlock vacant ≡ stage_of d → P d
in_block P f nothing e = absurd (let z : ◌≡◌ {A = ℕ} 0 1 = cc in omega arith)
in_block P f problem e = absurd (let z : ◌≡◌ {A = ℕ} 0 1 = cc in omega arith)
in_block P f format e = absurd (let z : ◌≡◌ {A = ℕ} 0 1 = cc in omega arith)
in_block P f (sized n) e = absurd (let z : ◌≡◌ {A = ℕ} 0 1 = cc in omega arith)
in_block P f (binding n m bs b) e = f n m bs b cc
in_block P f (matrix n m bs Cs C) e = absurd (let z : ◌≡◌ {A = ℕ} 0 1 = cc in omega arith)

pub in_matrix : (P : Draft → Type 0) → ((n m : ℕ) (bs : List Block) (Cs : List (List ℕ)) (C : List ℕ) → P (matrix n m bs Cs C)) → (d : Draft) → Matrix ≡ stage_of d → P d
in_matrix P f nothing e = absurd (let z : ◌≡◌ {A = ℕ} 0 1 = cc in omega arith)
in_matrix P f problem e = absurd (let z : ◌≡◌ {A = ℕ} 0 1 = cc in omega arith)
in_matrix P f format e = absurd (let z : ◌≡◌ {A = ℕ} 0 1 = cc in omega arith)
in_matrix P f (sized n) e = absurd (let z : ◌≡◌ {A = ℕ} 0 1 = cc in omega arith)
in_matrix P f (binding n m bs b) e = absurd (let z : ◌≡◌ {A = ℕ} 0 1 = cc in omega arith)
in_matrix P f (matrix n m bs Cs C) e = f n m bs Cs C
