-- A clause is the list of the members of its set.
use Rattle.std.proofs.Common.{◌≡◌, ℕ, true, List, is_some, Some, None, Option, refl, ap, ◌∙◌, subst, MatchOption}
use Rattle.std.specs.List.{AllByRecursion}
use Rattle.calculus.specs.Literals.{Tautological}
use Rattle.calculus.specs.Meaning.{Code}
use Rattle.laws.specs.Claims.{sorted}
use Rattle.laws.proofs.Ascending.{sorted_asc}
use Rattle.shelf.specs.Proper.{Proper, proper_out}
use Rattle.sets.specs.Members.{members}
use Rattle.sets.specs.declared.set.LiteralSet.{LiteralSet}

-- o is what is answered for the set of these codes
abbrev pub Made : List ℕ → Option LiteralSet → Type 0
Made codes o = MatchOption o (AllByRecursion (Code 512) codes → ⊥) (λ s. AllByRecursion (Code 512) codes × (members s.words ≡ sorted codes))

some_set : (C : List ℕ) (o : Option LiteralSet) → Proper C → Made C o → is_some o ≡ true
some_set C (Some s) p m = refl
some_set C None p m = absurd (m p.codes)

module _ (C codes : List ℕ) (o : Option LiteralSet) (proper : ∥ Proper C ∥₁) (same : codes ≡ C) (made : Made codes o) where
  -- a clause has a set
  pub has_set : is_some o ≡ true
  has_set = some_set C o (proper_out proper) (subst (λ D. Made D o) same made)

  -- and lists its members
  pub set_codes : (s : LiteralSet) → o ≡ Some s → members s.words ≡ C
  set_codes s e = (subst (Made codes) e made).1 ∙ ap sorted same ∙ sorted_asc C (proper_out proper).ascending

  -- of which none comes with its negation
  pub set_proper : (s : LiteralSet) → o ≡ Some s → Tautological (members s.words) → ⊥
  set_proper s e t = (proper_out proper).tautology_free (subst Tautological (set_codes s e) t)
