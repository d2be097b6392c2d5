-- How many literals a set has: at most 1,024, and at most 512 where no variable stands with both signs.
use Rattle.std.proofs.Common.{◌≡◌, ℕ, zero, suc, ◌+◌, ◌*◌, ◌<◌, ◌≤◌, true, ◌⊎◌, List, length, ap, ◌∙◌, subst, inl, inr, ⊎_elim, arith}
use Rattle.std.specs.List.{AllByRecursion}
use Rattle.std.proofs.lemmas.List.{length_push}
use Rattle.std.proofs.lemmas.Bool.{cases_Bool}
use Rattle.calculus.specs.Sets.{◌∈◌}
use Rattle.calculus.specs.Literals.{neg, Tautological}
use Rattle.calculus.specs.Meaning.{Code}
use Rattle.laws.specs.Clauses.{Ascending}
use Rattle.laws.proofs.Sets.{neg_is}
use Rattle.sets.specs.Members.{has_bit, first_members, members}
use Rattle.sets.proofs.Elements.{in_members, first_none, first_in, first_out, first_few}
use Rattle.sets.proofs.Sorted.{words_of, members_of}

module _ (words : List ℕ) where
  pub few_members : length (members words) ≤ 1024
  few_members = first_few words 1024

  size : ℕ → ℕ
  size k = length (first_members words k)

  -- one literal more
  size_more : (k : ℕ) → ((has_bit words (2 + k) ≡ true) × (size (suc k) ≡ size k + 1)) ⊎ (size (suc k) ≡ size k)
  unfolding size
  size_more k =
      ⊎_elim
      (λ e. inl (e, ap length (first_in words k e) ∙ length_push (first_members words k) (2 + k)))
      (λ e. inr (ap length (first_out words k e))) (cases_Bool (has_bit words (2 + k)))

  both : (k : ℕ) → k < 512 → has_bit words (2 + 2 * k) ≡ true → has_bit words (2 + suc (2 * k)) ≡ true → Tautological (members words)
  both k h a b = (
    2 + 2 * k,
    in_members words (2 + 2 * k) (omega arith, omega arith) a,
    subst (λ l. l ∈ members words) (let e : 2 + suc (2 * k) ≡ neg (2 + 2 * k) = omega (arith, neg_is (2 + 2 * k)) in e)
        (in_members words (2 + suc (2 * k)) (omega arith, omega arith) b),
  )

  half : (Tautological (members words) → ⊥) → (k : ℕ) → k ≤ 512 → size (2 * k) ≤ k
  unfolding size
  half free zero h = omega (arith, ap length (first_none words))
  half free (suc k) h =
      let below : size (2 * k) ≤ k = half free k (omega arith) in
      let next : size (2 * suc k) ≡ size (suc (suc (2 * k))) = ap size (let e : 2 * suc k ≡ suc (suc (2 * k)) = omega arith in e) in
      ⊎_elim
      (λ a. ⊎_elim (λ b. absurd (free (both k (omega arith) a.0 b.0))) (λ b. omega (arith, next, a.1, b)) (size_more (suc (2 * k))))
      (λ a. ⊎_elim (λ b. omega (arith, next, a, b.1)) (λ b. omega (arith, next, a, b)) (size_more (suc (2 * k))))
      (size_more (2 * k))

  pub half_members : (Tautological (members words) → ⊥) → length (members words) ≤ 512
  unfolding size
  half_members free = half free 512 (omega arith)

-- the same of ascending lists of literals
pub few_codes : (C : List ℕ) → Ascending C → AllByRecursion (Code 512) C → length C ≤ 1024
few_codes C a c = subst (λ D. length D ≤ 1024) (members_of C a c) (few_members (words_of C))

pub half_codes : (C : List ℕ) → Ascending C → AllByRecursion (Code 512) C → (Tautological C → ⊥) → length C ≤ 512
half_codes C a c free = subst (λ D. length D ≤ 512) (members_of C a c) (half_members (words_of C) (λ t. free (subst Tautological (members_of C a c) t)))
