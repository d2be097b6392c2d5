-- The kind of line that each kind of map byte stands for.
use Rattle.dockets.specs.Reading.{Kind, axioms, resolutions, reductions, symmetries}
use Rattle.dockets.specs.declared.kind.Kind.{Kind as MapKind}
use Rattle.dockets.specs.declared.kind.Kind.TheVariants.{Axiom, Resolution, Reduction, Symmetry}

abbrev pub of_kind : MapKind → Kind
of_kind Axiom = axioms
of_kind Resolution = resolutions
of_kind Reduction = reductions
of_kind Symmetry = symmetries
