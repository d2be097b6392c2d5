-- What is in a set of literals, and that its list is ascending.
use Rattle.std.proofs.Common.{◌≡◌, ℕ, zero, suc, ◌+◌, ◌-◌, ◌/◌, ◌<◌, ◌≤◌, Bool, true, false, cond, not, List, [], ◌∷◌, ◌++◌, length, filter, sym, refl, ap, ◌∙◌, subst, inl, inr, ⊎_elim, append-nil, arith}
use Rattle.std.specs.List.{range_with_len}
use Rattle.std.proofs.lemmas.List.FromFn.{length-range_with_len}
use Rattle.std.proofs.lemmas.List.Elements.{filter-append}
use Rattle.std.proofs.lemmas.List.Filters.{length-filter_both}
use Rattle.std.proofs.lemmas.Bool.{cond_both, cases_eq, cases_Bool, both_ways}
use Rattle.calculus.specs.Sets.{◌∈◌, has}
use Rattle.calculus.specs.Meaning.{Code}
use Rattle.laws.specs.Clauses.{Ascending}
use Rattle.laws.specs.Claims.{insert}
use Rattle.laws.proofs.Sets.{has_true, has_from, in_insert, from_insert}
use Rattle.laws.proofs.Ascending.{asc_insert, asc_same}
use Rattle.laws.proofs.Order.{in_counting, from_counting, in_kept, from_kept}
use Rattle.sets.specs.Members.{has_bit, first_members, members}
use Rattle.sets.specs.Steps.{with_bit}
use Rattle.sets.proofs.Bits.{set_same, set_other}

asc_kept : (p : ℕ → Bool) (a n : ℕ) → Ascending (filter p (range_with_len a n))
asc_kept p a zero = tt
asc_kept p a (suc n) =
    cond_both (p a) (a ∷ filter p (range_with_len (a + 1) n)) (filter p (range_with_len (a + 1) n)) Ascending
    (λ e. (λ k i. omega (arith, from_counting (a + 1) n k (from_kept p (range_with_len (a + 1) n) k i).0), asc_kept p (a + 1) n)) (λ e. asc_kept p (a + 1) n)

counting_more : (a n : ℕ) → range_with_len a (suc n) ≡ range_with_len a n ++ (a + n) ∷ []
counting_more a zero = ap (λ x. x ∷ []) (omega arith)
counting_more a (suc n) = ap (λ xs. a ∷ xs) (counting_more (a + 1) n ∙ ap (λ x. range_with_len (a + 1) n ++ x ∷ []) (omega arith))

module _ (words : List ℕ) where
  pub in_members : (l : ℕ) → Code 512 l → has_bit words l ≡ true → l ∈ members words
  unfolding first_members
  in_members l c h = in_kept (has_bit words) (range_with_len 2 1024) l (in_counting 2 1024 l c.0 c.1) h

  pub from_members : (l : ℕ) → l ∈ members words → Code 512 l × (has_bit words l ≡ true)
  unfolding first_members
  from_members l i = let r : _ × _ = from_kept (has_bit words) (range_with_len 2 1024) l i in (from_counting 2 1024 l r.0, r.1)

  pub asc_members : Ascending (members words)
  unfolding first_members
  asc_members = asc_kept (has_bit words) 2 1024

  -- the test of a literal
  pub has_literal : (l : ℕ) → Code 512 l → has_bit words l ≡ has l (members words)
  has_literal l c =
      ⊎_elim (λ h. h ∙ sym (has_from l (members words) (in_members l c h)))
      (λ h. ⊎_elim (λ m. absurd (both_ways (has_bit words l) h (from_members l (has_true l (members words) m)).1)) (λ m. h ∙ sym m) (cases_Bool (has l (members words))))
      (cases_Bool (has_bit words l))

  -- no other number is in the set
  pub has_none : (l : ℕ) → (Code 512 l → ⊥) → false ≡ has l (members words)
  has_none l n = ⊎_elim (λ m. absurd (n (from_members l (has_true l (members words) m)).0)) (λ m. sym m) (cases_Bool (has l (members words)))

  -- the first literals, one by one

  pub first_none : first_members words 0 ≡ []
  unfolding first_members
  first_none = refl

  first_more : (k : ℕ) → first_members words (suc k) ≡ first_members words k ++ cond (has_bit words (2 + k)) ((2 + k) ∷ []) []
  unfolding first_members
  first_more k = ap (filter (has_bit words)) (counting_more 2 k) ∙ filter-append (has_bit words) (range_with_len 2 k) ((2 + k) ∷ [])

  pub first_in : (k : ℕ) → has_bit words (2 + k) ≡ true → first_members words (suc k) ≡ first_members words k ++ (2 + k) ∷ []
  first_in k e = first_more k ∙ ap (λ b. first_members words k ++ cond b ((2 + k) ∷ []) []) e

  pub first_out : (k : ℕ) → has_bit words (2 + k) ≡ false → first_members words (suc k) ≡ first_members words k
  first_out k e = first_more k ∙ ap (λ b. first_members words k ++ cond b ((2 + k) ∷ []) []) e ∙ append-nil (first_members words k)

  pub first_few : (k : ℕ) → length (first_members words k) ≤ k
  unfolding first_members
  first_few k = omega (arith, length-filter_both (has_bit words) (λ l. not (has_bit words l)) (λ l. refl) (range_with_len 2 k), length-range_with_len 2 k)

-- a literal put into the set
pub inserted : (words : List ℕ) (l : ℕ) → length words ≡ 16 → Code 512 l → members (with_bit words l) ≡ insert l (members words)
inserted words l long c =
    asc_same (members (with_bit words l)) (insert l (members words)) (asc_members (with_bit words l)) (asc_insert l (members words) (asc_members words)) (λ k. (to k, fro k))
  where
    inside : (l - 2) / 64 < length words
    inside = omega (arith, long, c.1)

    new : l ∈ members (with_bit words l)
    new = in_members (with_bit words l) l c (set_same words l inside)

    -- every other literal has the bit that it had
    same : (k : ℕ) → Code 512 k → (k ≡ l → ⊥) → has_bit (with_bit words l) k ≡ has_bit words k
    same k d n = set_other words l inside k (λ e. n (omega (arith, c.0, d.0)))

    to : (k : ℕ) → k ∈ members (with_bit words l) → k ∈ insert l (members words)
    to k i =
        let r : _ × _ = from_members (with_bit words l) k i in
        in_insert l k (members words) (⊎_elim (λ e. inl e) (λ n. inr (in_members words k r.0 (sym (same k r.0 n) ∙ r.1))) (cases_eq k l))

    fro : (k : ℕ) → k ∈ insert l (members words) → k ∈ members (with_bit words l)
    fro k i =
        ⊎_elim (λ e. subst (λ z. z ∈ members (with_bit words l)) (sym e) new)
        (λ n. let r : _ × _ = from_members words k (⊎_elim (λ e. absurd (n e)) (λ m. m) (from_insert l k (members words) i)) in
        in_members (with_bit words l) k r.0 (same k r.0 n ∙ r.1))
        (cases_eq k l)
