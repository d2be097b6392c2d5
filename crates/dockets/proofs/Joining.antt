-- Lines one after the other: where each of them stands, that no line is a front of another, and one more line read.
use Rattle.std.proofs.Common.{◌≡◌, ℕ, zero, suc, ◌+◌, ◌<◌, ◌≤◌, List, [], ◌∷◌, ◌++◌, length, get_or, take, drop, sym, refl, ap, ◌∙◌, append_assoc, arith, length-append, length-drop, take-append-drop, take_all, drop-drop, take-add}
use mathlib.Core.List.{append_cancel_left}
use lib.Seq.{drop-append-add}
use Rattle.std.specs.List.{AllByRecursion}
use Rattle.std.proofs.ByRecursion.{All-get_or}
use Rattle.std.proofs.lemmas.List.{flat_map_more, take_more}
use Rattle.dockets.specs.Encoding.{Entry, axiom_entry, resolution_entry, reduction_entry, symmetry_entry, encoded, encoded_all, Writable}
use Rattle.dockets.specs.Reading.{Hold, line_checks, entry_at, length_at}
use Rattle.dockets.specs.Theorems.{WrittenSo}
use Rattle.dockets.proofs.ReadsBack.{Reads, reads}
use Rattle.dockets.proofs.WrittenSo.{encoding}

-- a line is never empty
pub some_bytes : (entry : Entry) → 3 ≤ length (encoded entry)
unfolding encoded
some_bytes (axiom_entry j) = omega arith
some_bytes (resolution_entry p q v) = omega arith
some_bytes (reduction_entry p v) = omega arith
some_bytes (symmetry_entry p pairs) = omega arith

-- an entry whose bytes are a front of another's is that entry
pub prefix_free : (x y : Entry) (a b : List ℕ) → Writable x → Writable y → encoded x ++ a ≡ encoded y ++ b → (x ≡ y) × (a ≡ b)
prefix_free x y a b v w e =
    let same : x ≡ y = sym (reads (encoded x ++ a) 0 x a refl v).entry_is ∙ (reads (encoded x ++ a) 0 y b e w).entry_is in
    (same, append_cancel_left (encoded x) a b (e ∙ ap (λ z. encoded z ++ b) (sym same)))

-- entries whose bytes are a front of those of others are a front of those
pub front_of : (xs ys : List Entry) (a : List ℕ) → AllByRecursion Writable xs → AllByRecursion Writable ys → encoded_all xs ++ a ≡ encoded_all ys
    → (zs : List Entry) × (ys ≡ xs ++ zs) × (a ≡ encoded_all zs)
front_of [] ys a v w e = (ys, refl, e)
front_of (x ∷ xs) [] a v w e =
    absurd (omega (arith, some_bytes x, length-append (encoded x) (encoded_all xs), length-append (encoded x ++ encoded_all xs) a, ap length e))
front_of (x ∷ xs) (y ∷ ys) a (v, vs) (w, ws) e =
    let p = prefix_free x y (encoded_all xs ++ a) (encoded_all ys) v w (sym (append_assoc (encoded x) (encoded_all xs) a) ∙ e) in
    let (zs, is, more) = front_of xs ys a vs ws p.1 in
    (zs, λ i. sym p.0 i ∷ is i, more)

pub same_entries : (xs ys : List Entry) → AllByRecursion Writable xs → AllByRecursion Writable ys → encoded_all xs ≡ encoded_all ys → xs ≡ ys
same_entries [] [] v w e = refl
same_entries [] (y ∷ ys) v w e = absurd (omega (arith, some_bytes y, length-append (encoded y) (encoded_all ys), ap length e))
same_entries (x ∷ xs) [] v w e = absurd (omega (arith, some_bytes x, length-append (encoded x) (encoded_all xs), ap length e))
same_entries (x ∷ xs) (y ∷ ys) (v, vs) (w, ws) e =
    let p = prefix_free x y (encoded_all xs) (encoded_all ys) v w e in
    let more = same_entries xs ys vs ws p.1 in
    λ i. p.0 i ∷ more i

-- the offset of line i
abbrev pub offset : List Entry → ℕ → ℕ
offset entries i = length (encoded_all (take i entries))

pub offset_more : (entries : List Entry) (i : ℕ) (d : Entry) → i < length entries → offset entries (i + 1) ≡ offset entries i + length (encoded (get_or entries i d))
offset_more entries i d h =
    ap (λ es. length (encoded_all es)) (take_more entries i d h)
    ∙ (ap length (sym (flat_map_more encoded [] (take i entries) (get_or entries i d)))
    ∙ length-append (encoded_all (take i entries)) (encoded (get_or entries i d)))

pub offset_all : (entries : List Entry) → offset entries (length entries) ≡ length (encoded_all entries)
offset_all entries = ap (λ es. length (encoded_all es)) (take_all (length entries) entries (omega arith))

-- line i stands at its offset
pub line_stands : (entries : List Entry) (rest : List ℕ) (i : ℕ) (d : Entry) → i < length entries
    → drop (offset entries i) (encoded_all entries ++ rest) ≡ encoded (get_or entries i d) ++ (encoded_all (drop (suc i) entries) ++ rest)
line_stands [] rest i d h = absurd (omega arith)
line_stands (x ∷ xs) rest zero d h = append_assoc (encoded x) (encoded_all xs) rest
line_stands (x ∷ xs) rest (suc i) d h =
    (λ k. drop (length-append (encoded x) (encoded_all (take i xs)) k) (append_assoc (encoded x) (encoded_all xs) rest k))
    ∙ (drop-append-add (encoded x) (encoded_all xs ++ rest) (offset xs i) ∙ line_stands xs rest i d (omega arith))

-- and is read there, and the next line stands where it ends
module _ (before : List ℕ) (entries : List Entry) (behind : List ℕ) (all : AllByRecursion Writable entries) (i : ℕ) (d : Entry) (h : i < length entries) where
  pub line_read : Reads (before ++ (encoded_all entries ++ behind)) (length before + offset entries i) (get_or entries i d)
  line_read =
      reads (before ++ (encoded_all entries ++ behind)) (length before + offset entries i) (get_or entries i d) (encoded_all (drop (suc i) entries) ++ behind)
      (drop-append-add before (encoded_all entries ++ behind) (offset entries i) ∙ line_stands entries behind i d h) (All-get_or Writable entries i d h all)

  pub next_line : length before + offset entries i + length_at (before ++ (encoded_all entries ++ behind)) (length before + offset entries i) ≡ length before + offset entries (i + 1)
  next_line = omega (arith, line_read.length_is, offset_more entries i d h)

-- one line off a docket of bytes
module _ (docket : List ℕ) (bytes : AllByRecursion (λ b. b < 256) docket) (at : ℕ) (holds : Hold (line_checks docket at)) where
  abbrev written : WrittenSo docket at
  written = encoding docket bytes at holds

  pub split : drop at docket ≡ encoded (entry_at docket at) ++ drop (at + length_at docket at) docket
  split =
      sym (take-append-drop (length_at docket at) (drop at docket))
      ∙ (λ i. written.bytes i ++ drop-drop (length_at docket at) at docket i)

  pub line_long : length_at docket at ≡ length (encoded (entry_at docket at))
  line_long = (reads docket at (entry_at docket at) (drop (at + length_at docket at) docket) split written.writable).length_is

  pub line_ends : at + length_at docket at ≤ length docket
  line_ends =
      let s = simp (length-drop, length-append) at (ap length split) in
      omega (arith, line_long, holds.0)

  -- the bytes read so far are those of the entries read so far
  pub front_more : (entries : List Entry) → take at docket ≡ encoded_all entries → take (at + length_at docket at) docket ≡ encoded_all (entries ++ entry_at docket at ∷ [])
  front_more entries e =
      take-add at (length_at docket at) docket ∙ ((λ i. e i ++ written.bytes i) ∙ flat_map_more encoded [] entries (entry_at docket at))
