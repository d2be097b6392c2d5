-- A fold over ends, as `try_fold` runs it, that breaks off at the first clause that does not lie: whether it came through tells whether all lie.
use Rattle.std.proofs.Common.{◌≡◌, ℕ, Bool, true, false, ◌&&◌, List, [], ◌∷◌, Some, None, Option, MatchOption, is_some, sym, refl, ap, ◌∙◌, subst}
use Rattle.std.specs.Iterator.{Yields, AlwaysYields, TryFoldTurn, TryFoldsItems}
use Rattle.std.specs.ControlFlow.{continue_value}
use Rattle.std.specs.List.{FoldsTo}
use Rattle.std.specs.Bool.{then_some}
use Rattle.std.specs.Fn.{Called}
use Rattle.std.specs.declared.ops.ControlFlow.{ControlFlow}
use Rattle.std.specs.declared.ops.ControlFlow.TheVariants.{Continue, Break}
use Rattle.std.proofs.lemmas.Iterator.{YieldsList}
use denote.Param.Members.{Mut}
use Rattle.text.specs.Cells.{lies, fits}

passed : (b : Bool) (x y : ℕ) → Some y ≡ then_some b x → (b ≡ true) × (y ≡ x)
passed true x y e = (refl, cc)
passed false x y e = absurd (cc)

failed : (b : Bool) (x : ℕ) → None ≡ then_some b x → b ≡ false
failed true x e = absurd (cc)
failed false x e = refl

-- a turn goes on with a value, and breaks off where there is none
abbrev pub Turns : {E : Type 0} → Option ℕ → ControlFlow E ℕ → Type 0
Turns w c = w ≡ continue_value c

module _ {S A F : Type 0} (steps : S → Option A → S → Type 0) (read : A → ℕ) (g : Mut F (ℕ × (A × Unit {0})) (Option ℕ)) (f : F) (n : ℕ) (literals : List ℕ) where
  -- a call answers the end that it is given, if the clause up to it lies
  abbrev pub TellsLying : Type 0
  TellsLying = (from : ℕ) (x : A) (w : Option ℕ) (q : F) → Called g f (from, (x, tt)) w q → (q ≡ f) × (w ≡ then_some (lies n literals from (read x)) (read x))

  module _ {E : Type 0} (resumes : E → Option ℕ → Type 0) where
    -- what is answered behind the items at which the fold went on: the last end, or none, where the call at one item more broke off
    abbrev Closes : Option A → F → ℕ → Option ℕ → Type 0
    Closes item q last r =
        MatchOption item (Turns {E = E} r (Continue last))
        (λ x. (w : Option ℕ) × (h : F) × (e : E) × Called g q (last, (x, tt)) w h × Turns w (Break e) × resumes e r)

    module _ (none : (e : E) (r : Option ℕ) → resumes e r → r ≡ None) (tells : TellsLying) where
      came_through : (went : List A) (ends : List ℕ) (from last : ℕ) (s t u : S) (item : Option A) (q : F) (r : Option ℕ) →
          AlwaysYields steps read s ends → Yields steps s went t → steps t item u →
          FoldsTo {P = F × ℕ} (TryFoldTurn g (Turns {E = E})) (f, from) went (q, last) → Closes item q last r → is_some r ≡ fits n literals from ends
      came_through [] [] from last s t u None q r all here next folds closes = ap is_some closes
      came_through [] [] from last s t u (Some x) q r all here next folds closes = absurd (all x u (subst (λ j. steps j (Some x) u) (sym here) next))
      came_through [] (end ∷ ends) from last s t u None q r all here next folds closes = absurd (all.0 u (subst (λ j. steps j None u) (sym here) next))
      came_through [] (end ∷ ends) from last s t u (Some x) q r all here next folds closes =
          let is : read x ≡ end = (all.1 x u (subst (λ j. steps j (Some x) u) (sym here) next)).0 in
          let call = tells from x closes.0 closes.1 (subst (λ (k : F × ℕ). Called g k.0 (k.1, (x, tt)) closes.0 closes.1) (sym folds) closes.3) in
          let fails = ap (lies n literals from) (sym is) ∙ failed (lies n literals from (read x)) (read x) (sym closes.4 ∙ call.1) in
          ap is_some (none closes.2 r closes.5) ∙ ap (λ b. b && fits n literals end ends) (sym fails)
      came_through (x ∷ went) [] from last s t u item q r all here next folds closes = absurd (all x here.0 here.1)
      came_through (x ∷ went) (end ∷ ends) from last s t u item q r all here next folds closes =
          let is = all.1 x here.0 here.1 in
          let call = tells from x folds.1.0 folds.0.0 folds.1.1 in
          let passes = passed (lies n literals from (read x)) (read x) folds.0.1 (sym folds.1.2 ∙ call.1) in
          let rest = subst (λ (k : F × ℕ). FoldsTo {P = F × ℕ} (TryFoldTurn g (Turns {E = E})) k went (q, last)) {x = folds.0} {y = (f, end)} (λ i. (call.0 i, (passes.1 ∙ is.0) i)) folds.2 in
          came_through went ends end last here.0 t u item q r is.1 here.2 next rest closes ∙
          ap (λ b. b && fits n literals end ends) (sym (ap (lies n literals from) (sym is.0) ∙ passes.0))

pub folds_while_lying : {S A F E : Type 0} {steps : S → Option A → S → Type 0} {read : A → ℕ} {g : Mut F (ℕ × (A × Unit {0})) (Option ℕ)} {f : F} {resumes : E → Option ℕ → Type 0}
    (n : ℕ) (literals ends : List ℕ) (from : ℕ) (r : Option ℕ) (s u : S) → ((e : E) (r : Option ℕ) → resumes e r → r ≡ None) →
    TryFoldsItems steps g Turns resumes s f from r u → YieldsList steps read s ends → TellsLying steps read g f n literals → is_some r ≡ fits n literals from ends
folds_while_lying {steps = steps} {read} {g} {f} {resumes} n literals ends from r s u none ran all tells =
    came_through steps read g f n literals resumes none tells ran.0 ends from ran.3 s ran.4.0 u ran.1 ran.2 r all.runs ran.4.1 ran.4.2 ran.5 ran.6
