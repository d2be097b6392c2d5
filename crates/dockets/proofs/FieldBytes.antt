-- Fields and pairs among bytes: what is written of them is what is read.
use Rattle.std.proofs.Common.{◌≡◌, ℕ, zero, suc, ◌+◌, ◌*◌, ◌<◌, List, [], ◌∷◌, ◌++◌, length, get_or, drop, sym, refl, ap, ◌∙◌, arith, get_or-drop}
use Rattle.std.specs.List.{flat_map}
use Rattle.std.proofs.lemmas.List.FromFn.{fill_by_all, length-map-range_with_len}
use Rattle.cards.specs.Pairs.{variable_at, image_at}
use Rattle.dockets.specs.Encoding.{field, pair}
use Rattle.dockets.specs.Reading.{field_at, pairs_at}

-- a field of the bytes from a place on
pub field_from : (docket : List ℕ) (at : ℕ) (rest : List ℕ) → drop at docket ≡ rest → (k j : ℕ) → at + k ≡ j → field_at docket j ≡ field_at rest k
field_from docket at rest e k j i =
    let high : get_or docket j 0 ≡ get_or rest k 0 = ap (λ b. get_or docket b 0) (sym i) ∙ (sym (get_or-drop at docket k 0) ∙ ap (λ l. get_or l k 0) e) in
    let on : j + 1 ≡ at + (k + 1) = omega arith in
    let low : get_or docket (j + 1) 0 ≡ get_or rest (k + 1) 0 =
    ap (λ b. get_or docket b 0) on ∙ (sym (get_or-drop at docket (k + 1) 0) ∙ ap (λ l. get_or l (k + 1) 0) e) in
    omega arith

-- the bytes of some pairs: four a pair, and pair k where four times k bytes are before it

pub length_pairs : (pairs : List (ℕ × ℕ)) → length (flat_map pair pairs) ≡ 4 * length pairs
length_pairs [] = refl
length_pairs (p ∷ pairs) = let e = length_pairs pairs in omega arith

pub length_pairs_at : (docket : List ℕ) (place : ℕ) → length (flat_map pair (pairs_at docket place)) ≡ 4 * field_at docket place
length_pairs_at docket place = length_pairs (pairs_at docket place) ∙ ap (λ n. 4 * n) (length-map-range_with_len _ 0 (field_at docket place))

module _ (behind : List ℕ) where
  pub variable_read : (pairs : List (ℕ × ℕ)) (k : ℕ) → k < length pairs → field_at (flat_map pair pairs ++ behind) (4 * k) ≡ variable_at pairs k
  variable_read [] k h = absurd (omega arith)
  variable_read (p ∷ pairs) zero h = omega arith
  variable_read (p ∷ pairs) (suc k) h =
      field_from (flat_map pair (p ∷ pairs) ++ behind) 4 (flat_map pair pairs ++ behind) refl (4 * k) (4 * suc k) (omega arith)
      ∙ variable_read pairs k (omega arith)

  pub image_read : (pairs : List (ℕ × ℕ)) (k : ℕ) → k < length pairs → field_at (flat_map pair pairs ++ behind) (4 * k + 2) ≡ image_at pairs k
  image_read [] k h = absurd (omega arith)
  image_read (p ∷ pairs) zero h = omega arith
  image_read (p ∷ pairs) (suc k) h =
      field_from (flat_map pair (p ∷ pairs) ++ behind) 4 (flat_map pair pairs ++ behind) refl (4 * k + 2) (4 * suc k + 2) (omega arith)
      ∙ image_read pairs k (omega arith)

  -- a count and its pairs, at a place of a docket
  module _ (docket : List ℕ) (place : ℕ) (pairs : List (ℕ × ℕ)) (e : drop place docket ≡ field (length pairs) ++ (flat_map pair pairs ++ behind)) where
    abbrev rest : List ℕ
    rest = field (length pairs) ++ (flat_map pair pairs ++ behind)

    pub count_read : field_at docket place ≡ length pairs
    count_read = let g = field_from docket place rest e 0 place (omega arith) in omega arith

    variable : (k : ℕ) → k < length pairs → field_at docket (place + 2 + 4 * k) ≡ variable_at pairs k
    variable k h =
        field_from docket place rest e (2 + 4 * k) (place + 2 + 4 * k) (omega arith)
        ∙ (field_from rest 2 (flat_map pair pairs ++ behind) refl (4 * k) (2 + 4 * k) (omega arith) ∙ variable_read pairs k h)

    image : (k : ℕ) → k < length pairs → field_at docket (place + 4 + 4 * k) ≡ image_at pairs k
    image k h =
        field_from docket place rest e (4 + 4 * k) (place + 4 + 4 * k) (omega arith)
        ∙ (field_from rest 2 (flat_map pair pairs ++ behind) refl (4 * k + 2) (4 + 4 * k) (omega arith) ∙ image_read pairs k h)

    pub pairs_read : pairs_at docket place ≡ pairs
    pairs_read =
        sym (fill_by_all (λ k. (field_at docket (place + 2 + 4 * k), field_at docket (place + 4 + 4 * k))) pairs (field_at docket place) (0, 0) (sym count_read)
        (λ k h i. (sym (variable k (omega (arith, count_read))) i, sym (image k (omega (arith, count_read))) i)))
