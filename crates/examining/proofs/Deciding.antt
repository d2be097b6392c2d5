-- One entry claims one line, and one claim has one answer.
use Rattle.std.proofs.Common.{◌≡◌, ℕ, cond, eqb, length, get_or, Ok, Err, sym, refl, ap, ◌∙◌, arith}
use mathlib.Core.HLevel.{is_prop→PathP, Π_prop, ×_prop}
use base.Stored.{Coded-set, coded_ℕ}
use native.Mathlib.Bridge.{le_prop}
use Rattle.calculus.specs.Literals.{var}
use Rattle.calculus.specs.Meaning.{Variable, Code}
use Rattle.laws.specs.Cards.{Card}
use Rattle.laws.specs.Claims.{Answer, keeps, refused}
use Rattle.laws.specs.Lines.{Line, symmetry}
use Rattle.cards.proofs.Outcomes.{outcomes}
use Rattle.case.specs.Answers.{refusal_number}
use Rattle.case.specs.Claimed.{Claimed}
use Rattle.case.specs.Standing.{Standing}
use Rattle.case.specs.declared.refusal.Refusal.{Refusal}
use Rattle.case.specs.declared.refusal.Refusal.TheVariants.{Closed, Absent, Tautology, Pivot, Reduction, Level, Asymmetry, Full}
use Rattle.dockets.specs.Encoding.{Entry, axiom_entry, resolution_entry, reduction_entry, symmetry_entry}
use Rattle.examining.specs.Entries.{Claims}

eq_prop : (x y : ℕ) → IsProp (x ≡ y)
eq_prop x y = Coded-set coded_ℕ x y

-- cards with the same images are the same
pub same_card : (card other : Card) → card.images ≡ other.images → card ≡ other
same_card card other e = λ i. record {
  images = e i;
  long = is_prop→PathP (λ j. length (e j) ≡ 513) (λ j. eq_prop _ _) card.long other.long i;
  none = is_prop→PathP (λ j. get_or (e j) 0 0 ≡ 0) (λ j. eq_prop _ _) card.none other.none i;
  codes = is_prop→PathP (λ j. (v : ℕ) → Variable 512 v → Code 512 (get_or (e j) v 0)) (λ j. Π_prop (λ v. Π_prop (λ h. ×_prop le_prop le_prop))) card.codes other.codes i;
  apart = is_prop→PathP (λ j. (v w : ℕ) → Variable 512 v → Variable 512 w → var (get_or (e j) v 0) ≡ var (get_or (e j) w 0) → v ≡ w)
      (λ j. Π_prop (λ v. Π_prop (λ w. Π_prop (λ h. Π_prop (λ k. Π_prop (λ d. eq_prop v w)))))) card.apart other.apart i;
}

pub one_line : (entry : Entry) (line other : Line) → Claims entry line → Claims entry other → line ≡ other
one_line (axiom_entry j) line other a b = a ∙ sym b
one_line (resolution_entry p q v) line other a b = a ∙ sym b
one_line (reduction_entry p v) line other a b = a ∙ sym b
one_line (symmetry_entry p pairs) line other (card, makes, a) (card', makes', b) =
    a ∙ (ap (symmetry p) (same_card card card' ((outcomes pairs).one_card card card' makes makes')) ∙ sym b)

-- the refusal with a number
refusal_with : ℕ → Refusal
refusal_with k =
    cond (eqb k 31) Closed (cond (eqb k 32) Absent (cond (eqb k 33) Tautology (cond (eqb k 34) Pivot (cond (eqb k 35) Reduction (cond (eqb k 36) Level (cond (eqb k 37) Asymmetry Full))))))

numbered : (e : Refusal) → refusal_with (refusal_number e) ≡ e
unfolding refusal_with
numbered Closed = refl
numbered Absent = refl
numbered Tautology = refl
numbered Pivot = refl
numbered Reduction = refl
numbered Level = refl
numbered Asymmetry = refl
numbered Full = refl

number_of : Answer → ℕ
number_of (keeps C) = 0
number_of (refused k) = k

module _ (s : Standing) (line : Line) where
  pub one_granted : (p q : ℕ) (t u : Standing) → Claimed s line (Ok p) t → Claimed s line (Ok q) u → t ≡ u
  one_granted p q t u (a, b, e) (c, d, f) = e ∙ sym f

  pub one_refusal : (e f : Refusal) (t u : Standing) → Claimed s line (Err e) t → Claimed s line (Err f) u → e ≡ f
  unfolding number_of
  one_refusal e f t u (a, b) (c, d) = sym (numbered e) ∙ (ap refusal_with (ap number_of (sym a ∙ c)) ∙ numbered f)

  pub granted_or_refused : (p : ℕ) (e : Refusal) (t u : Standing) → Claimed s line (Ok p) t → Claimed s line (Err e) u → ⊥
  granted_or_refused p e t u (a, b, c) (d, f) = let z : ◌≡◌ {A = ℕ} 0 1 = cc in omega arith
