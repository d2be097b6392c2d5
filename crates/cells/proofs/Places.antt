-- Where a line lies: at its start are its length and then its codes.
use Rattle.std.proofs.Common.{◌≡◌, ℕ, suc, Bor, Option, None, Some, MatchOption, option_copied, subst, ◌+◌, ◌<◌, ◌≤◌, List, [], ◌∷◌, ◌++◌, length, get_or, take, drop, sym, refl, ap, ◌∙◌, append_assoc, arith, length-drop, length-take, take-append-drop, drop-cons, drop-drop}
use Rattle.std.proofs.lemmas.List.{take_at, drop_at, get_or-take, get_or-drop, drop-take}
use Rattle.cells.specs.Layout.{flat, parse, start, Lies}
use Rattle.cells.specs.declared.cell_shelf.CellShelf.{CellShelf}
use Rattle.cells.proofs.Lines.{flat_append}

-- from the start of line p on
from_start : (Cs : List (List ℕ)) (more : List ℕ) (p : ℕ) → p < length Cs → drop (start Cs p) (flat Cs ++ more) ≡ length (get_or Cs p []) ∷ (get_or Cs p [] ++ (flat (drop (suc p) Cs) ++ more))
from_start Cs more p h =
    let split : flat Cs ≡ flat (take p Cs) ++ flat (drop p Cs) = ap flat (sym (take-append-drop p Cs)) ∙ flat_append (take p Cs) (drop p Cs) in
    let here : flat (drop p Cs) ≡ length (get_or Cs p []) ∷ (get_or Cs p [] ++ flat (drop (suc p) Cs)) = ap flat (drop-cons Cs p [] h) in
    ap (λ z. drop (start Cs p) (z ++ more)) split
    ∙ ap (drop (start Cs p)) (append_assoc (flat (take p Cs)) (flat (drop p Cs)) more)
    ∙ drop_at (flat (take p Cs)) (flat (drop p Cs) ++ more) (start Cs p) refl
    ∙ ap (λ z. z ++ more) here
    ∙ ap (λ z. length (get_or Cs p []) ∷ z) (append_assoc (get_or Cs p []) (flat (drop (suc p) Cs)) more)

module _ (s : CellShelf) (p : ℕ) (there : p < s.count) where
  abbrev lines : List (List ℕ)
  lines = parse s.count s.cells.now

  abbrev C : List ℕ
  C = get_or lines p []

  abbrev past : List ℕ
  past = drop s.used s.cells.now

  -- a line that is kept lies where the index says
  pub kept_lies : Lies s.cells.now (get_or s.starts p 0) C
  kept_lies =
      let whole : s.cells.now ≡ flat lines ++ past = sym (take-append-drop s.used s.cells.now) ∙ ap (λ z. z ++ past) (sym s.laid) in
      ap (λ k. take (1 + length C) (drop k s.cells.now)) (s.indexed p there)
      ∙ ap (λ z. take (1 + length C) (drop (start lines p) z)) whole
      ∙ ap (take (1 + length C)) (from_start lines past p (omega (arith, s.counted)))
      ∙ take_at (length C ∷ C) _ (1 + length C) (omega arith)

module _ (cells : List ℕ) (at : ℕ) (C : List ℕ) (lies : Lies cells at C) where
  -- it ends within the cells
  pub ends : at + (1 + length C) ≤ length cells
  ends = omega (arith, ap length lies, length-take (1 + length C) (drop at cells), length-drop at cells)

  -- its length stands first
  pub size : get_or cells at 0 ≡ length C
  size =
      let on : at ≡ at + 0 = omega arith in
      ap (λ k. get_or cells k 0) on ∙ sym (get_or-drop at cells 0 0) ∙ sym (get_or-take (1 + length C) (drop at cells) 0 0 (omega arith)) ∙ ap (λ z. get_or z 0 0) lies

  -- and then its codes
  pub codes : take (length C) (drop (at + 1) cells) ≡ C
  codes = ap (take (length C)) (sym (drop-drop 1 at cells)) ∙ sym (drop-take 1 (length C) (drop at cells)) ∙ ap (drop 1) lies

-- the part of the index that is in use has a place for each line that is kept
pub index_length : (s : CellShelf) → length (take s.count s.starts) ≡ length (parse s.count s.cells.now)
index_length s = omega (arith, length-take s.count s.starts, s.long, s.few, s.counted)

-- and there it is where the line lies
pub index_lies : (s : CellShelf) (p at : ℕ) → p < s.count → at ≡ get_or (take s.count s.starts) p 0 → Lies s.cells.now at (get_or (parse s.count s.cells.now) p [])
index_lies s p at there e =
    subst (λ k. Lies s.cells.now k (get_or (parse s.count s.cells.now) p [])) (sym (e ∙ get_or-take s.count s.starts p 0 there)) (kept_lies s p there)

-- so what is read there is where the line lies; nothing is read where none is kept
pub start_found :
    (s : CellShelf) (p : ℕ) (o : Option (Bor ℕ)) →
    MatchOption o (length (take s.count s.starts) ≤ p) (λ x. (p < length (take s.count s.starts)) × ((d : ℕ) → x.now ≡ get_or (take s.count s.starts) p d)) →
    MatchOption (option_copied o) (length (parse s.count s.cells.now) ≤ p)
    (λ at. (p < length (parse s.count s.cells.now)) × Lies s.cells.now at (get_or (parse s.count s.cells.now) p []))
start_found s p None none = omega (arith, none, index_length s)
start_found s p (Some x) (lt, read) = (omega (arith, lt, index_length s), index_lies s p x.now (omega (arith, lt, length-take s.count s.starts)) (read 0))
