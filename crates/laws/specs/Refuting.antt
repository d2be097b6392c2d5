-- A refutation of a false formula, from the settings that are lost: the variables are set in order, and each lost setting gives a clause
-- that it makes false.
use Rattle.std.specs.Prelude.{ℕ, suc, ◌+◌, ◌*◌, cond, List, [], ◌∷◌, ◌++◌, length, ◌==◌}
use Rattle.calculus.specs.Sets.{has}
use Rattle.calculus.specs.Meaning.{Meaning, quantifier_of, clause_of}
use Rattle.calculus.specs.Truth.{Setting, satisfied, won, order}
use Rattle.laws.specs.Lines.{Line, axiom_line, resolution, reduction}
use Rattle.laws.specs.Claims.{sorted, resolvent, reduced}

-- lines in a row, the clauses that they keep but the last, and the last
pub record Part : Type 0 where
  pub lines : List Line
  pub front : List (List ℕ)
  pub clause : List ℕ

-- all clauses that the lines keep
abbrev pub kept_of : Part → List (List ℕ)
kept_of a = a.front ++ (a.clause ∷ [])

-- the number of the first clause with no true literal
abbrev pub unsatisfied : Setting → List (List ℕ) → ℕ
unsatisfied α [] = 0
unsatisfied α (C ∷ Cs) = cond (satisfied α C) (suc (unsatisfied α Cs)) 0

-- a part that begins at line k, reduced by v where its clause has the literal l of v
abbrev pub reduced_by : ℕ → ℕ → ℕ → Part → Part
reduced_by k v l a =
    cond (has l a.clause) (record { lines = a.lines ++ (reduction (k + length a.front) v ∷ []); front = kept_of a; clause = reduced a.clause v }) a

-- a part that begins at line k, and one behind it, resolved upon v where the first clause has its negation and the second has v
abbrev pub resolved_by : ℕ → ℕ → Part → Part → Part
resolved_by k v a b =
    cond (has (2 * v + 1) a.clause)
    (cond (has (2 * v) b.clause)
    (record {
      lines = a.lines ++ (b.lines ++ (resolution (k + length (kept_of a) + length b.front) (k + length a.front) v ∷ []));
      front = kept_of a ++ kept_of b;
      clause = resolvent b.clause a.clause v;
    })
    (record { lines = a.lines ++ b.lines; front = kept_of a ++ b.front; clause = b.clause }))
    a

-- lines from line k on, for a lost setting where vs are the variables left
unfoldable pub lost_part : Meaning → List ℕ → Setting → ℕ → Part
lost_part m [] α k =
    record { lines = axiom_line (unsatisfied α m.clauses) ∷ []; front = []; clause = sorted (clause_of m (unsatisfied α m.clauses)) }
lost_part m (v ∷ vs) α k =
    let a : Part = lost_part m vs ((2 * v) ∷ α) k in
    cond (quantifier_of m v == 1) (resolved_by k v a (lost_part m vs ((2 * v + 1) ∷ α) (k + length (kept_of a))))
    (cond (won m vs ((2 * v) ∷ α)) (reduced_by k v (2 * v) (lost_part m vs ((2 * v + 1) ∷ α) k)) (reduced_by k v (2 * v + 1) a))

-- the refutation of a false formula
abbrev pub refutation_of : Meaning → Part
refutation_of m = lost_part m (order m) [] 0
