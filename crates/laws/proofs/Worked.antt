-- Cards that move the variables 1 and 2, and what they do to the small formulas.
use Rattle.std.proofs.Common.{◌≡◌, ℕ, zero, suc, ◌*◌, ◌≤◌, ◌⊎◌, get_or, refl, ap, inl, inr, arith, lit<, lit≤}
use Rattle.std.proofs.lemmas.List.FromFn.{length-map-range_with_len, get_or-map-range_with_len}
use Rattle.calculus.specs.Literals.{var}
use Rattle.calculus.specs.Meaning.{Variable, Code}
use Rattle.calculus.specs.Examples.{pair}
use Rattle.calculus.specs.Truth.{won, truth}
use Rattle.calculus.proofs.Examples.{pair_formed}
use Rattle.laws.specs.Cards.{Card}
use Rattle.laws.specs.Claims.{claim}
use Rattle.laws.specs.Refuting.{lost_part}
use Rattle.laws.specs.Runs.{run_from}
use Rattle.laws.specs.Worked.{moving, Trio, Works}
use Rattle.laws.proofs.Deciding.{admissible_is, carries_is}

-- codes over 1 and 2, not over the same variable
module _ (a b : ℕ) (code_a : Code 2 a) (code_b : Code 2 b) (apart : var a ≡ var b → ⊥) where
  -- what each place holds
  place : (v : ℕ) → Variable 512 v →
      ((v ≡ 1) × (get_or (moving a b) v 0 ≡ a)) ⊎ (((v ≡ 2) × (get_or (moving a b) v 0 ≡ b)) ⊎ ((3 ≤ v) × (get_or (moving a b) v 0 ≡ 2 * v)))
  place zero h = absurd (omega (arith, h.0))
  place (suc zero) h = inl (refl, refl)
  place (suc (suc zero)) h = inr (inl (refl, refl))
  place (suc (suc (suc k))) h =
      inr (inr (omega arith, get_or-map-range_with_len (λ v. 2 * v) 3 510 k (suc (suc (suc k))) 0 (omega (arith, h.1)) (omega arith)))

  abbrev card : Card
  card = record {
    images = moving a b;
    long = ap (λ k. suc (suc (suc k))) (length-map-range_with_len (λ v. 2 * v) 3 510);
    none = refl;
    codes = λ v h. (omega (arith, place v h, code_a.0, code_b.0, h.0), omega (arith, place v h, code_a.1, code_b.1, h.1));
    apart = λ v w h k e. omega (arith, place v h, place w k, code_a.0, code_a.1, code_b.0, code_b.1, apart);
  }

abbrev cards : Trio
cards = record {
  negating = card 3 5 (lit≤ tt, lit< tt) (lit≤ tt, lit< tt) (λ e. omega arith);
  negating_is = refl;
  exchanging = card 4 2 (lit≤ tt, lit< tt) (lit≤ tt, lit< tt) (λ e. omega arith);
  exchanging_is = refl;
  halfway = card 3 4 (lit≤ tt, lit< tt) (lit≤ tt, lit< tt) (λ e. omega arith);
  halfway_is = refl;
}

pub works : Works
unfolding truth won claim run_from lost_part
works = (
  cards,
  record {
    formed = pair_formed;
    pair_false = refl;
    moves = refl;
    is_symmetry = record { admissible = (admissible_is pair cards.negating).0 refl; carries = (carries_is pair cards.negating).0 refl };
    by_axiom = refl;
    by_reduction = refl;
    by_symmetry = refl;
    by_resolution = refl;
    closed = refl;
    no_clause = refl;
    tautological = refl;
    parents_exchanged = refl;
    by_existential = refl;
    not_admissible = refl;
    no_symmetry = refl;
    turned_true = refl;
    outermost = refl;
    refuted = refl;
    no_room = refl;
    found = refl;
  },
)
