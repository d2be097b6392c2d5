-- What a table means, and that it is well formed.
use Rattle.std.specs.Prelude.{◌≡◌, ℕ, ◌-◌, true, ◌&&◌, List, [], ◌∷◌, length, take, nat_le}
use Rattle.std.proofs.Common.{arith, length-take}
use Rattle.std.specs.List.{AllByRecursion}
use Rattle.std.proofs.lemmas.Bool.{and_parts, leb-true, ltb-true}
use Rattle.calculus.specs.Meaning.{Meaning, Code, Clause, prefix_out, Formed}
use Rattle.text.specs.Cells.{levels_in, quantifiers_in, cut, cuts, code, codes, lies, fits}
use Rattle.text.specs.declared.table.Table.{Table}

-- the formula that a table holds: its prefix, and the clauses that lie in its cells
abbrev pub formula_in : Table → Meaning
formula_in t = record {
  n = t.prefix.n;
  levels = levels_in t.prefix;
  quantifiers = quantifiers_in t.prefix;
  clauses = cuts t.literals.now 0 (take t.count t.ends.now);
}

-- codes that pass the test are those of literals
codes_all : (n : ℕ) (ls : List ℕ) → codes n ls ≡ true → AllByRecursion (Code n) ls
codes_all n [] h = tt
codes_all n (l ∷ ls) h =
    let p = and_parts (code n l) (codes n ls) h in
    let q = and_parts _ _ p.0 in
    ((leb-true _ _ q.0, ltb-true _ _ q.1), codes_all n ls p.1)

-- what passes the test of a clause is one
lies_clause : (n : ℕ) (literals : List ℕ) (from end : ℕ) → lies n literals from end ≡ true → Clause n (cut literals from end)
lies_clause n literals from end h =
    let p = and_parts (nat_le from end && nat_le end (length literals)) (nat_le (end - from) 1024 && codes n (cut literals from end)) h in
    let q = and_parts (nat_le (end - from) 1024) (codes n (cut literals from end)) p.1 in
    (simp length-take (omega (arith, leb-true (end - from) 1024 q.0)), codes_all n (cut literals from end) q.1)

-- cells that fit hold clauses
fits_all : (n : ℕ) (literals : List ℕ) (from : ℕ) (ends : List ℕ) → fits n literals from ends ≡ true → AllByRecursion (Clause n) (cuts literals from ends)
fits_all n literals from [] h = tt
fits_all n literals from (end ∷ ends) h =
    let p = and_parts (lies n literals from end) (fits n literals end ends) h in
    (lies_clause n literals from end p.0, fits_all n literals end ends p.1)

-- what a table holds is well formed
pub formula_formed : (t : Table) → Formed (formula_in t)
formula_formed t = record {
  prefix = prefix_out t.prefix.bound;
  few_clauses = omega (arith, t.counted, t.listed);
  clauses = fits_all t.prefix.n t.literals.now 0 (take t.count t.ends.now) t.fit;
}
