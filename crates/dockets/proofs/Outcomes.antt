-- Every place of every docket has one outcome: each check can be decided.
use Rattle.std.proofs.Common.{◌≡◌, ℕ, suc, ◌+◌, ◌*◌, ◌<◌, ◌≤◌, ◌⊎◌, List, [], ◌∷◌, length, get_or, refl, inl, inr, ⊎_elim, arith}
use Rattle.std.proofs.lemmas.Bool.{cases_eq, cases_lt}
use Rattle.calculus.specs.Literals.{var}
use Rattle.cards.specs.Pairs.{variable_at, image_at, VariableFits, ImageFits}
use Rattle.cards.proofs.Marks.{Decides, all_or_first}
use Rattle.cards.proofs.Reading.{cases_named}
use Rattle.dockets.specs.Reading.{Whole, pairs_at, field_at, pair_checks, naming_check, pairs_checks, naming_checks, card_checks, Kind, axioms, resolutions, reductions, symmetries, unknown, kind_of, field_checks, line_checks}
use Rattle.dockets.specs.Theorems.{PlacesHaveOneOutcome}
use Rattle.dockets.proofs.MapBytes.{known}
use Rattle.dockets.proofs.Checks.{Decided, decided_append, each_decided, some_outcome, never_both, one_fault}

-- ways to decide

cases_le : (a b : ℕ) → (a ≤ b) ⊎ (a ≤ b → ⊥)
cases_le a b = ⊎_elim (λ h. inr (λ i. omega arith)) (λ h. inl h) (cases_lt b a)

both : {P Q : Type 0} → P ⊎ (P → ⊥) → Q ⊎ (Q → ⊥) → (P × Q) ⊎ (P × Q → ⊥)
both (inl p) (inl q) = inl (p, q)
both (inl p) (inr not_so) = inr (λ (a, b). not_so b)
both (inr not_so) q = inr (λ (a, b). not_so a)

not_that : {P : Type 0} → P ⊎ (P → ⊥) → (P → ⊥) ⊎ ((P → ⊥) → ⊥)
not_that (inl p) = inr (λ f. f p)
not_that (inr not_so) = inl not_so

all_below : (P : ℕ → Type 0) → Decides P → (n : ℕ) → ((k : ℕ) → k < n → P k) ⊎ (((k : ℕ) → k < n → P k) → ⊥)
all_below P decides n = ⊎_elim (λ all. inl all) (λ (k, h, below, not_so). inr (λ all. not_so (all k h))) (all_or_first P decides n)

-- the pairs

module _ (pairs : List (ℕ × ℕ)) (k : ℕ) where
  variable_decided : VariableFits pairs k ⊎ (VariableFits pairs k → ⊥)
  variable_decided =
      both (both (cases_le 1 (variable_at pairs k)) (cases_le (variable_at pairs k) 512))
      (all_below (λ j. variable_at pairs j < variable_at pairs k) (λ j. cases_le (suc (variable_at pairs j)) (variable_at pairs k)) k)

  image_decided : ImageFits pairs k ⊎ (ImageFits pairs k → ⊥)
  image_decided =
      both (both (cases_le 2 (image_at pairs k)) (cases_le (suc (image_at pairs k)) 1026))
      (all_below (λ j. var (image_at pairs j) ≡ var (image_at pairs k) → ⊥) (λ j. not_that (cases_eq (var (image_at pairs j)) (var (image_at pairs k)))) k)

unknown_decided : (kind : Kind) → (kind ≡ unknown) ⊎ (kind ≡ unknown → ⊥)
unknown_decided axioms = inr (known axioms tt)
unknown_decided resolutions = inr (known resolutions tt)
unknown_decided reductions = inr (known reductions tt)
unknown_decided symmetries = inr (known symmetries tt)
unknown_decided unknown = inl refl

module _ (docket : List ℕ) where
  whole : (byte : ℕ) → Whole docket byte ⊎ (Whole docket byte → ⊥)
  whole byte = cases_le (byte + 2) (length docket)

  pair_decided : (place k : ℕ) → Decided (pair_checks docket place k)
  pair_decided place k =
      (whole (place + 2 + 4 * k), (variable_decided (pairs_at docket place) k, (whole (place + 4 + 4 * k), (image_decided (pairs_at docket place) k, tt))))

  naming_decided : (place k : ℕ) → Decided (naming_check docket place k ∷ [])
  naming_decided place k = (cases_named (pairs_at docket place) (var (image_at (pairs_at docket place) k)), tt)

  card_decided : (place : ℕ) → Decided (card_checks docket place)
  card_decided place = (
    whole place,
    (
      cases_le (field_at docket place) 512,
      decided_append (pairs_checks docket place 0 (field_at docket place)) (naming_checks docket place 0 (field_at docket place))
          (each_decided (pair_checks docket place) (pair_decided place) 0 (field_at docket place))
          (each_decided (λ k. naming_check docket place k ∷ []) (naming_decided place) 0 (field_at docket place)),
    ),
  )

  fields_decided : (at : ℕ) (kind : Kind) → Decided (field_checks docket at kind)
  fields_decided at axioms = (whole (at + 1), tt)
  fields_decided at resolutions = (whole (at + 1), (whole (at + 3), (whole (at + 5), tt)))
  fields_decided at reductions = (whole (at + 1), (whole (at + 3), tt))
  fields_decided at symmetries = (whole (at + 1), card_decided (at + 3))
  fields_decided at unknown = tt

  line_decided : (at : ℕ) → Decided (line_checks docket at)
  line_decided at =
      (cases_le (suc at) (length docket), (not_that (unknown_decided (kind_of (get_or docket at 0))), fields_decided at (kind_of (get_or docket at 0))))

pub outcomes : PlacesHaveOneOutcome
outcomes docket at = record {
  some = some_outcome (line_checks docket at) (line_decided docket at);
  never_both = never_both (line_checks docket at);
  one_fault = one_fault (line_checks docket at);
}
