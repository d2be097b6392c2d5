-- The formula that lies in literal cells and end cells.
use Rattle.std.specs.Prelude.{ℕ, ◌+◌, ◌-◌, ◌*◌, Bool, true, cond, ◌&&◌, List, [], ◌∷◌, length, take, drop, nat_le, nat_lt}
use Rattle.std.specs.List.{list_all}
use Rattle.calculus.specs.Meaning.{Meaning}
use Rattle.reading.specs.Bindings.{levels_of, quantifiers_of}
use Rattle.text.specs.declared.prefix.Prefix.{Prefix}
use Rattle.text.specs.declared.outline.Outline.{Outline}

-- the literals from one end to the next
abbrev pub cut : List ℕ → ℕ → ℕ → List ℕ
cut literals from end = take (end - from) (drop from literals)

-- the clauses that lie between running ends, the first from the given place on
abbrev pub cuts : List ℕ → ℕ → List ℕ → List (List ℕ)
cuts literals from [] = []
cuts literals from (end ∷ ends) = cut literals from end ∷ cuts literals end ends

-- a code is one of a literal over the variables 1 to n
abbrev pub code : ℕ → ℕ → Bool
code n l = nat_le 2 l && nat_lt l (2 * (n + 1))

-- each of the codes is
abbrev pub codes : ℕ → List ℕ → Bool
codes n ls = list_all (code n) ls

-- what lies from one end to the next is within the literal cells, and is a clause over the variables 1 to n
abbrev pub lies : ℕ → List ℕ → ℕ → ℕ → Bool
lies n literals from end =
    (nat_le from end && nat_le end (length literals)) && (nat_le (end - from) 1024 && codes n (cut literals from end))

-- the ends ascend within the literal cells, and each clause is one over the variables 1 to n
abbrev pub fits : ℕ → List ℕ → ℕ → List ℕ → Bool
fits n literals from [] = true
fits n literals from (end ∷ ends) = lies n literals from end && fits n literals end ends

-- so many clauses lie in the cells; cells that do not fit hold none
abbrev pub clauses_in : ℕ → ℕ → List ℕ → List ℕ → List (List ℕ)
clauses_in n count literals ends =
    cond (nat_le count (length ends) && fits n literals 0 (take count ends)) (cuts literals 0 (take count ends)) []

-- the levels and the quantifiers of a prefix, 0 at place 0
abbrev pub levels_in : Prefix → List ℕ
levels_in p = take (p.n + 1) (levels_of p.bindings)

abbrev pub quantifiers_in : Prefix → List ℕ
quantifiers_in p = take (p.n + 1) (quantifiers_of p.bindings)

-- the formula of an outline whose clauses lie in the cells
abbrev pub meant : Outline → List ℕ → List ℕ → Meaning
meant o literals ends = record {
  n = o.prefix.n;
  levels = levels_in o.prefix;
  quantifiers = quantifiers_in o.prefix;
  clauses = clauses_in o.prefix.n o.clauses literals ends;
}
