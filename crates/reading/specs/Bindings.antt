-- The levels and the quantifiers that bindings give.
use Rattle.std.specs.Prelude.{ℕ, List, map}
use Rattle.reading.specs.declared.binding.Binding.{Binding}

abbrev pub levels_of : List Binding → List ℕ
levels_of bs = map (λ b. b.level) bs

abbrev pub quantifiers_of : List Binding → List ℕ
quantifiers_of bs = map (λ b. b.quantifier) bs

-- the binding of a variable that no block binds
abbrev pub no_binding : Binding
no_binding = record { level = 0; quantifier = 0 }
