-- A cell shelf keeps to the bounds of a shelf.
use Rattle.std.specs.Prelude.{◌≡◌, ℕ, List, [], ◌∷◌, length, refl}
use Rattle.std.proofs.Common.{ap, arith, length-append, length-take}
use Rattle.laws.specs.Store.{weights}
use Rattle.shelf.specs.Shelved.{Sound}
use Rattle.cells.specs.Layout.{flat, parse}
use Rattle.cells.specs.Meant.{cell_store, meant}
use Rattle.cells.specs.declared.cell_shelf.CellShelf.{CellShelf}

-- lines weigh as much as they have cells
pub flat_weighs : (n : ℕ) (Cs : List (List ℕ)) → length (flat Cs) ≡ weights (cell_store n) Cs
flat_weighs n [] = refl
flat_weighs n (C ∷ Cs) = omega (arith, flat_weighs n Cs, length-append C (flat Cs))

pub meant_sound : (s : CellShelf) → Sound (meant s)
meant_sound s = record {
  base_low = omega arith;
  base_high = omega arith;
  rate_high = omega arith;
  few = omega (arith, s.few, s.counted);
  light = omega (arith, flat_weighs (length s.cells.now) (parse s.count s.cells.now), ap length s.laid, length-take s.used s.cells.now, s.within);
  proper = s.proper;
}
