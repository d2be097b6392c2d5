-- One row more: its clause is the last, and those before are as they were.
use borrow.Rule.Slice.PartMut.{put_mid}
use Rattle.std.proofs.Common.{rules, ◌≡◌, ℕ, zero, suc, ◌+◌, ◌-◌, ◌*◌, ◌/◌, ◌<◌, ◌≤◌, List, [], ◌∷◌, ◌++◌, map, length, take, drop, set, sym, ap, ap₂, ◌∙◌, arith, length-take, length-drop}
use Rattle.std.proofs.lemmas.List.{map-append, take_more_set, take_at, drop_at, drop-append-le, drop-take, drop-drop}
use Rattle.std.proofs.lemmas.Slice.{overwrites, take-put_mid_below}
use Rattle.std.specs.List.{AllByRecursion}
use Rattle.std.specs.Simd.{first_chunks}
use Rattle.laws.proofs.Lines.{all_append}
use Rattle.laws.specs.Store.{weights}
use Rattle.sets.specs.Members.{members}
use Rattle.rows.specs.Bearing.{weights_rows, chunks_length, rows_length}
use Rattle.rows.specs.Held.{shelf_in}
use Rattle.rows.specs.Rows.{NoTautology, rows_in, clauses_in}
use Rattle.rows.specs.declared.row_shelf.RowShelf.{RowShelf}

-- as many clauses as rows are counted, and they weigh as much
pub counted : (s : RowShelf) → length (shelf_in s).kept ≡ s.count
counted s = rows_length s.words.now s.count s.within

pub weighs : (s : RowShelf) → weights (shelf_in s).store (shelf_in s).kept ≡ s.count
weighs s = weights_rows (length s.words.now / 16) (shelf_in s).kept ∙ counted s

-- past the sixteen words before it, a row that is written is written sixteen words earlier
over_rest : (a : ℕ) (words row : List ℕ) → 16 + a ≤ length words → drop 16 (put_mid (16 + a) 16 words row) ≡ put_mid a 16 (drop 16 words) row
over_rest a words row within =
    drop-append-le 16 (take (16 + a) words) (row ++ drop 16 (drop (16 + a) words)) (omega (arith, length-take (16 + a) words))
    ∙ ap₂ ◌++◌ (drop-take 16 a words) (ap (λ xs. row ++ drop 16 xs) (sym (drop-drop a 16 words)))

-- a row that is written over its words is that row, and the others are as they were
row_over :
    (m n : ℕ) (words row : List ℕ) → n < m → 16 * m ≤ length words → length row ≡ 16 →
    first_chunks 16 m (put_mid (16 * n) 16 words row) ≡ set (first_chunks 16 m words) n row
row_over zero n words row h within long = elim h [ ]
row_over (suc m) zero words row h within long =
    ap₂ ◌∷◌ (take_at row (drop 16 words) 16 long) (ap (first_chunks 16 m) (drop_at row (drop 16 words) 16 long))
row_over (suc m) (suc n) words row h within long =
    let next : 16 * suc n ≡ 16 + 16 * n = omega arith in
    ap₂ ◌∷◌ (take-put_mid_below (16 * suc n) 16 words row 16 (omega arith) (omega arith))
    (ap (λ a. first_chunks 16 m (drop 16 (put_mid a 16 words row))) next ∙ ap (first_chunks 16 m) (over_rest (16 * n) words row (omega arith))
    ∙ row_over m n (drop 16 words) row (omega arith) (omega (arith, length-drop 16 words)) long)

module _ (words row : List ℕ) (n : ℕ) (room : n < length words / 16) (long : length row ≡ 16) where
  abbrev written : List ℕ
  written = put_mid (16 * n) (16 * n + 16 - 16 * n) words row

  -- the words are as many as before
  pub length_written : length written ≡ length words
  length_written = search (rules, overwrites)

  -- and their rows are the same but for the one written
  rows_written : rows_in written ≡ set (rows_in words) n row
  rows_written =
      ap (λ l. first_chunks 16 (l / 16) written) length_written
      ∙ (let sixteen : 16 * n + 16 - 16 * n ≡ 16 = omega arith in ap (λ k. first_chunks 16 (length words / 16) (put_mid (16 * n) k words row)) sixteen)
      ∙ row_over (length words / 16) n words row room (omega arith) long

  first_rows : take (n + 1) (rows_in written) ≡ take n (rows_in words) ++ row ∷ []
  first_rows = ap (take (n + 1)) rows_written ∙ take_more_set (rows_in words) n row (omega (arith, chunks_length 16 (length words / 16) words))

  pub row_more : clauses_in (rows_in written) (n + 1) ≡ clauses_in (rows_in words) n ++ members row ∷ []
  row_more = ap (map members) first_rows ∙ map-append members (take n (rows_in words)) (row ∷ [])

  pub proper_more : AllByRecursion NoTautology (take n (rows_in words)) → NoTautology row → AllByRecursion NoTautology (take (n + 1) (rows_in written))
  proper_more before here = rw first_rows (all_append NoTautology (take n (rows_in words)) (row ∷ []) before (here, tt))
