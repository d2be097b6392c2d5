-- The definitions at work on two small formulas, by computation.
use Rattle.std.specs.Prelude.{◌≡◌, ℕ, ◌*◌, true, false, List, [], ◌∷◌, map}
use Rattle.std.specs.List.{range_with_len}
use Rattle.calculus.specs.Meaning.{Formed}
use Rattle.calculus.specs.Truth.{truth}
use Rattle.calculus.specs.Examples.{pair, turned_pair}
use Rattle.laws.specs.Cards.{Card, act, Symmetry}
use Rattle.laws.specs.Lines.{axiom_line, resolution, reduction, symmetry}
use Rattle.laws.specs.Store.{Store}
use Rattle.laws.specs.Claims.{keeps, refused, claim}
use Rattle.laws.specs.Refuting.{refutation_of}
use Rattle.laws.specs.Runs.{Call, claims, asks, granted, refusal, verdict, run}

-- the images a and b of the variables 1 and 2; every other variable stays
abbrev pub moving : ℕ → ℕ → List ℕ
moving a b = 0 ∷ a ∷ b ∷ map (λ v. 2 * v) (range_with_len 3 510)

-- a card that negates both variables, one that exchanges them, and one that negates the first alone
pub record Trio : Type 0 where
  pub negating : Card
  pub negating_is : negating.images ≡ moving 3 5
  pub exchanging : Card
  pub exchanging_is : exchanging.images ≡ moving 4 2
  pub halfway : Card
  pub halfway_is : halfway.images ≡ moving 3 4

-- a store with room for all that follows
abbrev pub roomy : Store
roomy = record { capacity = 1000; base = 1; rate = 1 }

-- a store with room for three literals in two clauses
abbrev pub narrow : Store
narrow = record { capacity = 5; base = 1; rate = 1 }

-- a refutation of the pair in four lines, and the verdict
abbrev pub four_lines : Card → List Call
four_lines card = claims (axiom_line 0) ∷ claims (reduction 0 2) ∷ claims (symmetry 1 card) ∷ claims (resolution 1 2 1) ∷ asks ∷ []

-- what the calculus answers on the pair
pub record Worked (cards : Trio) : Type 0 where
  -- the negating card moves literals, and is a symmetry of the pair, which is well formed and false
  pub formed : Formed pair
  pub pair_false : truth pair ≡ false
  pub moves : act cards.negating 2 ≡ 3
  pub is_symmetry : Symmetry pair cards.negating
  -- clause {1, 2}; reduced by 2 it is {1}; the negating card takes that to {-1}; the two resolve to the empty clause
  pub by_axiom : claim roomy pair [] (axiom_line 0) ≡ keeps (2 ∷ 4 ∷ [])
  pub by_reduction : claim roomy pair ((2 ∷ 4 ∷ []) ∷ []) (reduction 0 2) ≡ keeps (2 ∷ [])
  pub by_symmetry : claim roomy pair ((2 ∷ 4 ∷ []) ∷ (2 ∷ []) ∷ []) (symmetry 1 cards.negating) ≡ keeps (3 ∷ [])
  pub by_resolution : claim roomy pair ((2 ∷ 4 ∷ []) ∷ (2 ∷ []) ∷ (3 ∷ []) ∷ []) (resolution 1 2 1) ≡ keeps []
  -- each refusal
  pub closed : claim roomy pair ([] ∷ []) (axiom_line 0) ≡ refused 31
  pub no_clause : claim roomy pair [] (axiom_line 2) ≡ refused 32
  pub tautological : claim roomy pair ((2 ∷ 4 ∷ []) ∷ (3 ∷ 5 ∷ []) ∷ []) (resolution 0 1 1) ≡ refused 33
  pub parents_exchanged : claim roomy pair ((2 ∷ 4 ∷ []) ∷ (2 ∷ []) ∷ (3 ∷ []) ∷ []) (resolution 2 1 1) ≡ refused 34
  pub by_existential : claim roomy pair ((2 ∷ 4 ∷ []) ∷ []) (reduction 0 1) ≡ refused 35
  pub not_admissible : claim roomy pair ((2 ∷ 4 ∷ []) ∷ []) (symmetry 0 cards.exchanging) ≡ refused 36
  pub no_symmetry : claim roomy pair ((2 ∷ 4 ∷ []) ∷ []) (symmetry 0 cards.halfway) ≡ refused 37
  -- with the quantifiers turned the formula is true, and {1, 2} cannot be reduced by 1, which is outermost
  pub turned_true : truth turned_pair ≡ true
  pub outermost : claim roomy turned_pair ((2 ∷ 4 ∷ []) ∷ []) (reduction 0 1) ≡ refused 35
  -- whole runs: one that refutes, and one that runs out of room
  pub refuted :
      run roomy pair (four_lines cards.negating) ≡
      record { replies = granted 0 ∷ granted 1 ∷ granted 2 ∷ granted 3 ∷ verdict true 4 ∷ []; kept = (2 ∷ 4 ∷ []) ∷ (2 ∷ []) ∷ (3 ∷ []) ∷ [] ∷ [] }
  pub no_room :
      run narrow pair (four_lines cards.negating) ≡
      record { replies = granted 0 ∷ granted 1 ∷ refusal 38 ∷ refusal 32 ∷ verdict false 2 ∷ []; kept = (2 ∷ 4 ∷ []) ∷ (2 ∷ []) ∷ [] }
  -- the refutation that is found, in five lines without symmetry
  pub found : (refutation_of pair).lines ≡ axiom_line 1 ∷ reduction 0 2 ∷ axiom_line 0 ∷ reduction 2 2 ∷ resolution 3 1 1 ∷ []

-- such cards there are, and all of this holds of them
abbrev pub Works : Type 0
Works = (cards : Trio) × Worked cards
