-- The facts that a cell shelf holds, gathered, and what keeps them: a write past the lines, and one line more.
use Rattle.std.proofs.Common.{◌≡◌, ℕ, ◌+◌, ◌<◌, ◌≤◌, ◌⊎◌, List, [], ◌∷◌, ◌++◌, length, get_or, take, set, sym, ap, ◌∙◌, inl, inr, ⊎_elim, arith, length-set, length-take}
use lib.Seq.{take-append-le}
use Rattle.std.proofs.lemmas.List.{length_push, get_or-set_other, get_or-set_same, take_at}
use Rattle.std.proofs.lemmas.Bool.{cases_lt}
use Rattle.std.specs.List.{AllByRecursion}
use Rattle.laws.proofs.Lines.{all_append}
use Rattle.shelf.specs.Proper.{Proper}
use Rattle.cells.specs.Layout.{flat, parse, start, Lies}
use Rattle.cells.specs.declared.cell_shelf.CellShelf.{CellShelf}
use Rattle.cells.proofs.Lines.{parse_front, flat_push}
use Rattle.cells.proofs.Places.{ends}

pub record Standing (cells : List ℕ) (used count : ℕ) (starts : List ℕ) : Type 0 where
  pub within : used ≤ length cells
  pub few : count ≤ 8192
  pub long : length starts ≡ 8192
  pub laid : flat (parse count cells) ≡ take used cells
  pub counted : length (parse count cells) ≡ count
  pub indexed : (p : ℕ) → p < count → get_or starts p 0 ≡ start (parse count cells) p
  pub proper : AllByRecursion Proper (parse count cells)

standing : (s : CellShelf) → Standing s.cells.now s.used s.count s.starts
standing s = record { within = s.within; few = s.few; long = s.long; laid = s.laid; counted = s.counted; indexed = s.indexed; proper = s.proper }

-- cells that are the same up to the end of the lines hold the same lines
same_lines : (cells cells' : List ℕ) (used count : ℕ) (starts : List ℕ) → Standing cells used count starts → take used cells' ≡ take used cells → parse count cells' ≡ parse count cells
same_lines cells cells' used count starts f same = parse_front cells' used count (parse count cells) (f.laid ∙ sym same) f.counted

-- so all that holds of the shelf still holds
past : (s : CellShelf) (cells' : List ℕ) → take s.used cells' ≡ take s.used s.cells.now → length cells' ≡ length s.cells.now → Standing cells' s.used s.count s.starts
past s cells' same long =
    let f = standing s in
    let e = same_lines s.cells.now cells' s.used s.count s.starts f same in
    record {
      within = rw long f.within;
      few = f.few;
      long = f.long;
      laid = rw e (f.laid ∙ sym same);
      counted = rw e f.counted;
      indexed = rw e f.indexed;
      proper = rw e f.proper;
    }

module _ (cells : List ℕ) (used count : ℕ) (starts : List ℕ) (f : Standing cells used count starts) (C : List ℕ) (lies : Lies cells used C) where
  abbrev lines : List (List ℕ)
  lines = parse count cells

  laid_push : flat (lines ++ C ∷ []) ≡ take (used + (1 + length C)) cells
  laid_push = flat_push cells used lines C f.laid lies

  parse_push : parse (count + 1) cells ≡ lines ++ C ∷ []
  parse_push = parse_front cells (used + (1 + length C)) (count + 1) (lines ++ C ∷ []) laid_push (omega (arith, length_push lines C, f.counted))

  -- an earlier line, or the new one
  cases_line : (p : ℕ) → p < count + 1 → (p < length lines) ⊎ (length lines ≡ p)
  cases_line p h = ⊎_elim (λ lt. inl (omega (arith, f.counted))) (λ le. inr (omega (arith, f.counted))) (cases_lt p count)

  starts_push : (p : ℕ) → (p < length lines) ⊎ (length lines ≡ p) → count < 8192 → get_or (set starts count used) p 0 ≡ start (lines ++ C ∷ []) p
  starts_push p (inl lt) room =
      let le : p ≤ length lines = omega arith in
      let other : p ≡ count → ⊥ = λ e. omega (arith, f.counted) in
      get_or-set_other starts count p used 0 other ∙ f.indexed p (omega (arith, f.counted)) ∙ ap (λ z. length (flat z)) (sym (take-append-le p lines (C ∷ []) le))
  starts_push p (inr e) room =
      let here : p ≡ count = omega (arith, f.counted) in
      let ends : length (flat lines) ≡ used = omega (arith, ap length f.laid, length-take used cells, f.within) in
      ap (λ k. get_or (set starts count used) k 0) here ∙ get_or-set_same starts count used 0 (omega (arith, f.long))
      ∙ sym (ap (λ z. length (flat z)) (take_at lines (C ∷ []) p e) ∙ ends)

  push : (end : ℕ) → end ≡ used + (1 + length C) → count < 8192 → Proper C → Standing cells end (count + 1) (set starts count used)
  push end e room proper =
      record {
        within = rw e (ends cells used C lies);
        few = omega arith;
        long = length-set starts count used ∙ f.long;
        laid = rw (e, parse_push) laid_push;
        counted = rw parse_push (omega (arith, length_push lines C, f.counted));
        indexed = λ p h. rw parse_push (starts_push p (cases_line p h) room);
        proper = rw parse_push (all_append Proper lines (C ∷ []) f.proper (proper, tt));
      }

-- a line written past the others, with the end and the start of it noted, is one of them
module _ (s : CellShelf) (cells' C : List ℕ) (before : take s.used cells' ≡ take s.used s.cells.now) (long : length cells' ≡ length s.cells.now) (lies : Lies cells' s.used C) where
  pub grown : (end : ℕ) → end ≡ s.used + (1 + length C) → s.count < 8192 → Proper C → Standing cells' end (s.count + 1) (set s.starts s.count s.used)
  grown = push cells' s.used s.count s.starts (past s cells' before long) C lies

  pub grown_lines : parse (s.count + 1) cells' ≡ parse s.count s.cells.now ++ C ∷ []
  grown_lines =
      parse_push cells' s.used s.count s.starts (past s cells' before long) C lies
      ∙ ap (λ Cs. Cs ++ C ∷ []) (same_lines s.cells.now cells' s.used s.count s.starts (standing s) before)
