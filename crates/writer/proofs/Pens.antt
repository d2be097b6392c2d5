-- Bytes put one after the other: what several puts come to.
use Rattle.std.proofs.Common.{◌≡◌, ℕ, zero, suc, ◌+◌, ◌-◌, ◌^◌, ◌<◌, ◌≤◌, min, Bool, true, false, List, [], ◌∷◌, ◌++◌, length, get_or, take, set, filter, sym, refl, ap, ◌∙◌, ⊎_elim, sub-one, arith, length-append, length-set}
use Rattle.std.specs.List.{range_with_len, flat_map}
use Rattle.std.proofs.lemmas.List.{set_past, take_more, take_all, flat_map_more, append-nil}
use Rattle.std.proofs.lemmas.Grind.{flat_map-append}
use Rattle.std.proofs.lemmas.List.Elements.{filter-append}
use Rattle.std.proofs.lemmas.Bool.{cases_lt}
use Rattle.writer.specs.declared.pen.Pen.{Pen}
use Rattle.writer.specs.Pen.{stamp, Put}
use Rattle.writer.proofs.Descents.{counting_one_push}

-- bytes past the end change nothing
pub stamp_past : (at : ℕ) (bs out : List ℕ) → length out ≤ at → stamp at bs out ≡ out
stamp_past at [] out h = refl
stamp_past at (b ∷ bs) out h = rw (set_past out at b h) (stamp_past (at + 1) bs out (omega arith))

-- bytes behind bytes, at the place where those end, or anywhere past the end of the buffer
pub stamp_append : (at next : ℕ) (bs cs out : List ℕ) → next ≡ min (at + length bs) (2 ^ 64 - 1) → length out < 2 ^ 63 →
    stamp at (bs ++ cs) out ≡ stamp next cs (stamp at bs out)
stamp_append at next [] cs out e h =
    ⊎_elim (λ k. let same : next ≡ at = omega arith in rw same refl)
    (λ k. stamp_past at cs out (omega arith) ∙ sym (stamp_past next cs out (omega arith))) (cases_lt at (2 ^ 64))
stamp_append at next (b ∷ bs) cs out e h = stamp_append (at + 1) next bs cs (set out at b) (omega arith) (rw length-set h)

pub put_then : {bs cs : List ℕ} {o p q : Pen} → Put bs o p → Put cs p q → Put (bs ++ cs) o q
put_then {bs} {cs} {o} {p} {q} f g =
    record {
      same = g.same ∙ f.same;
      room = f.room;
      held = g.held ∙ (ap (stamp p.at cs) f.held ∙ sym (stamp_append o.at p.at bs cs o.out.now f.place f.room));
      place = rw length-append (omega arith);
    }

pub put_as : {bs cs : List ℕ} {o p : Pen} → bs ≡ cs → Put bs o p → Put cs o p
put_as e f = rw e at f

-- a loop that puts the text of one element after the other
pub put_more : {X : Type 0} (f : X → List ℕ) (xs : List X) (i : ℕ) (d : X) {o p q : Pen} → i < length xs →
    Put (flat_map f (take i xs)) o p → Put (f (get_or xs i d)) p q → Put (flat_map f (take (i + 1) xs)) o q
put_more f xs i d h s t = put_as (sym (ap (flat_map f) (take_more xs i d h) ∙ sym (flat_map_more f [] (take i xs) (get_or xs i d)))) (put_then s t)

pub put_every : {X : Type 0} (f : X → List ℕ) (xs : List X) (i : ℕ) {o p : Pen} → length xs ≤ i →
    Put (flat_map f (take i xs)) o p → Put (flat_map f xs) o p
put_every f xs i h s = put_as (ap (flat_map f) (take_all i xs h)) s

-- the same over the numbers 1 to k, and over those of them that pass a test
counted : (f : ℕ → List ℕ) (k : ℕ) → 1 ≤ k → flat_map f (range_with_len 1 (k - 1)) ++ f k ≡ flat_map f (range_with_len 1 k)
counted f zero h = absurd (omega arith)
counted f (suc j) h = rw sub-one (flat_map_more f [] (range_with_len 1 j) (suc j) ∙ ap (flat_map f) (sym (counting_one_push j)))

pub put_count : (f : ℕ → List ℕ) (k : ℕ) {o p q : Pen} → 1 ≤ k → Put (flat_map f (range_with_len 1 (k - 1))) o p → Put (f k) p q →
    Put (flat_map f (range_with_len 1 k)) o q
put_count f k h s t = put_as (counted f k h) (put_then s t)

counted_kept : (p : ℕ → Bool) (f : ℕ → List ℕ) (k : ℕ) → 1 ≤ k →
    flat_map f (filter p (range_with_len 1 (k - 1))) ++ flat_map f (filter p (k ∷ [])) ≡ flat_map f (filter p (range_with_len 1 k))
counted_kept p f zero h = absurd (omega arith)
counted_kept p f (suc j) h =
    rw sub-one
    (sym (flat_map-append f (filter p (range_with_len 1 j)) (filter p (suc j ∷ [])))
    ∙ ap (flat_map f) (sym (ap (filter p) (counting_one_push j) ∙ filter-append p (range_with_len 1 j) (suc j ∷ []))))

pub put_kept : (p : ℕ → Bool) (f : ℕ → List ℕ) (k : ℕ) {o q r : Pen} → 1 ≤ k → p k ≡ true →
    Put (flat_map f (filter p (range_with_len 1 (k - 1)))) o q → Put (f k) q r → Put (flat_map f (filter p (range_with_len 1 k))) o r
put_kept p f k h e s t = put_as (counted_kept p f k h) (put_then s (put_as (rw e (sym (append-nil (f k)))) t))

pub put_left : (p : ℕ → Bool) (f : ℕ → List ℕ) (k : ℕ) {o q : Pen} → 1 ≤ k → p k ≡ false →
    Put (flat_map f (filter p (range_with_len 1 (k - 1)))) o q → Put (flat_map f (filter p (range_with_len 1 k))) o q
put_left p f k h e s = put_as (rw e at (counted_kept p f k h)) (put_as (sym (append-nil _)) s)
