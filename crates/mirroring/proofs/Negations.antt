-- The pairs of variables and their negations make a card, which negates these variables.
use Rattle.std.proofs.Common.{◌≡◌, ℕ, zero, suc, ◌+◌, ◌*◌, ◌<◌, ◌≤◌, true, List, length, get_or, take, is_ok, Ok, Err, Result, refl, ap, ◌∙◌, arith, length-take-le, get_or-take, MatchResult}
use Rattle.calculus.specs.Meaning.{Variable}
use Rattle.laws.specs.Cards.{Card, image_of}
use Rattle.cards.specs.Pairs.{variable_at, image_at, Lawful, Makes}
use Rattle.mirroring.specs.Negation.{Negates, Negations}

module _ (all : List (ℕ × ℕ)) (n : ℕ) (few : n ≤ 512) (long : length all ≡ 512) (each : Negations 512 all) where
  abbrev pairs : List (ℕ × ℕ)
  pairs = take n all

  count : length pairs ≡ n
  count = length-take-le n all (omega arith)

  at : (k : ℕ) → k < n → get_or pairs k (0, 0) ≡ (k + 1, 2 * (k + 1) + 1)
  at k h = get_or-take n all k (0, 0) h ∙ each k (omega arith)

  variable_is : (k : ℕ) → k < n → variable_at pairs k ≡ k + 1
  variable_is k h = ap (λ (p : ℕ × ℕ). p.0) (at k h)

  image_is : (k : ℕ) → k < n → image_at pairs k ≡ 2 * (k + 1) + 1
  image_is k h = ap (λ (p : ℕ × ℕ). p.1) (at k h)

  pub lawful : Lawful pairs
  lawful = record {
    few = omega (arith, count);
    fit = λ k h.
        let l : k < n = omega (arith, count) in
        let v = variable_is k l in
        let x = image_is k l in (
          ((omega arith, omega arith), λ j i. omega (arith, variable_is j (omega arith))),
          ((omega arith, omega arith), λ j i e. omega (arith, image_is j (omega arith))),
        );
    named = λ k h.
        let l : k < n = omega (arith, count) in
        (k, h, omega (arith, variable_is k l, image_is k l));
  }

  moved : (card : Card) → Makes pairs card → (v : ℕ) → Variable n v → image_of card v ≡ 2 * v + 1
  moved card made zero b = absurd (omega (arith, b.0))
  moved card made (suc k) b =
      let h : k < n = omega (arith, b.1) in
      let l : k < length pairs = omega (arith, count) in
      let e : suc k ≡ variable_at pairs k = omega (arith, variable_is k h) in
      let i : image_at pairs k ≡ 2 * suc k + 1 = omega (arith, image_is k h) in
      ap (image_of card) e ∙ (made.moves k l ∙ i)

  pub negates : (card : Card) → Makes pairs card → Negates n card
  negates card made = (moved card made, λ v h. made.keeps v (λ (k, l, e). omega (arith, count, variable_is k (omega (arith, count)))))

-- a result that is no error
pub ok_only : {T E : Type 0} (r : Result T E) (P : T → Type 0) (Q : E → Type 0) → MatchResult r P Q → ((e : E) → Q e → ⊥) → is_ok r ≡ true
ok_only (Ok x) P Q h no_fault = refl
ok_only (Err e) P Q h no_fault = absurd (no_fault e h)
