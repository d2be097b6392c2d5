-- What the clause of each rule holds, and that neither reduction nor a card makes it tautological.
use Rattle.std.proofs.Common.{◌≡◌, ℕ, ◌⊎◌, ◌↔◌, List, [], ◌++◌, map, sym, ap, ◌∙◌, subst, inl, inr, ⊎_elim}
use Rattle.calculus.specs.Sets.{◌∈◌}
use Rattle.calculus.specs.Literals.{neg, Tautological}
use Rattle.laws.specs.Cards.{Card, act, Image}
use Rattle.laws.specs.Clauses.{Reduced}
use Rattle.laws.specs.Claims.{sorted, without, reduced}
use Rattle.laws.proofs.Sets.{in_left, in_right, in_append, in_sorted, from_sorted, in_without, from_without, from_map}
use Rattle.laws.proofs.Ascending.{asc_sorted, asc_same}
use Rattle.laws.proofs.Rules.{sorted_same, reduced_is}
use Rattle.laws.proofs.Exchange.{act_negates, act_apart}
use Rattle.shelf.specs.Proper.{Proper, proper_out}

sorted_left : (xs ys : List ℕ) → sorted (sorted xs ++ ys) ≡ sorted (xs ++ ys)
sorted_left xs ys = asc_same (sorted (sorted xs ++ ys)) (sorted (xs ++ ys)) (asc_sorted (sorted xs ++ ys)) (asc_sorted (xs ++ ys)) (λ l. (to l, fro l))
  where
    to : (l : ℕ) → l ∈ sorted (sorted xs ++ ys) → l ∈ sorted (xs ++ ys)
    to l i =
        in_sorted l (xs ++ ys)
        (⊎_elim (λ m. in_left l xs ys (from_sorted l xs m)) (λ m. in_right l xs ys m) (in_append l (sorted xs) ys (from_sorted l (sorted xs ++ ys) i)))

    fro : (l : ℕ) → l ∈ sorted (xs ++ ys) → l ∈ sorted (sorted xs ++ ys)
    fro l i =
        in_sorted l (sorted xs ++ ys)
        (⊎_elim (λ m. in_left l (sorted xs) ys (in_sorted l xs m)) (λ m. in_right l (sorted xs) ys m) (in_append l xs ys (from_sorted l (xs ++ ys) i)))

-- one list after another, from nothing
pub joined_list : (none first both xs ys : List ℕ) → none ≡ [] → first ≡ sorted (none ++ xs) → both ≡ sorted (first ++ ys) → both ≡ sorted (xs ++ ys)
joined_list none first both xs ys e f g =
    g ∙ ap (λ zs. sorted (zs ++ ys)) (f ∙ ap (λ zs. sorted (zs ++ xs)) e) ∙ sorted_left xs ys

module _ (a b : ℕ) (P Q C : List ℕ) (is : C ≡ sorted (without a P ++ without b Q)) where
  pub joined_is : (l : ℕ) → (l ∈ C) ↔ (((l ∈ P) × (l ≡ a → ⊥)) ⊎ ((l ∈ Q) × (l ≡ b → ⊥)))
  joined_is l = (to, fro)
    where
      to : l ∈ C → ((l ∈ P) × (l ≡ a → ⊥)) ⊎ ((l ∈ Q) × (l ≡ b → ⊥))
      to i =
          ⊎_elim (λ k. inl (from_without a l P k)) (λ k. inr (from_without b l Q k))
          (in_append l (without a P) (without b Q) (from_sorted l (without a P ++ without b Q) (subst (λ D. l ∈ D) is i)))

      both : (l ∈ without a P) ⊎ (l ∈ without b Q) → l ∈ (without a P ++ without b Q)
      both (inl i) = in_left l (without a P) (without b Q) i
      both (inr i) = in_right l (without a P) (without b Q) i

      fro : ((l ∈ P) × (l ≡ a → ⊥)) ⊎ ((l ∈ Q) × (l ≡ b → ⊥)) → l ∈ C
      fro h =
          subst (λ D. l ∈ D) (sym is)
          (in_sorted l (without a P ++ without b Q) (both (⊎_elim (λ k. inl (in_without a l P k.0 k.1)) (λ k. inr (in_without b l Q k.0 k.1)) h)))

module _ (P C : List ℕ) where
  pub reduction_rule : (v : ℕ) → C ≡ reduced P v → Reduced P v C
  reduction_rule v e = subst (Reduced P v) (sym e) (reduced_is P v)

  pub image_rule : (card : Card) → C ≡ sorted (map (act card) P) → Image card P C
  image_rule card e = subst (Image card P) (sym e) (sorted_same (map (act card) P))

  -- a part of a clause holds no variable with both signs
  pub reduction_free : (v : ℕ) → ∥ Proper P ∥₁ → Reduced P v C → Tautological C → ⊥
  reduction_free v proper rule t = (proper_out proper).tautology_free (t.0, ((rule t.0).0 t.1).0, ((rule (neg t.0)).0 t.2).0)

  -- nor does an image: literals whose images are each other's negations are so too
  pub image_free : (card : Card) → ∥ Proper P ∥₁ → Image card P C → Tautological C → ⊥
  image_free card proper rule t =
      let x = from_map (act card) t.0 P ((rule t.0).0 t.1) in
      let y = from_map (act card) (neg t.0) P ((rule (neg t.0)).0 t.2) in
      let e : y.0 ≡ neg x.0 = act_apart card y.0 (neg x.0) (sym y.2 ∙ ap neg x.2 ∙ sym (act_negates card x.0)) in
      (proper_out proper).tautology_free (x.0, x.1, subst (λ l. l ∈ P) e y.1)
