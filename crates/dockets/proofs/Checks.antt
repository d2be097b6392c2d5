-- Lists of checks: all hold or one is the first that fails; one list behind another, and a list for each number.
use Rattle.std.proofs.Common.{◌≡◌, ℕ, zero, suc, ◌+◌, ◌<◌, ◌≤◌, ◌⊎◌, List, [], ◌∷◌, ◌++◌, sym, refl, ◌∙◌, subst, inl, inr, ⊎_elim, arith}
use Rattle.std.proofs.lemmas.Bool.{cases_eq}
use Rattle.dockets.specs.Reading.{Check, Hold, FailsAt, each}
use Rattle.dockets.specs.declared.fault.LineFault.{LineFault}

-- each check holds or does not
abbrev pub Decided : List Check → Type 0
Decided [] = Unit {0}
Decided ((rule, byte, P) ∷ checks) = (P ⊎ (P → ⊥)) × Decided checks

pub decided_append : (some more : List Check) → Decided some → Decided more → Decided (some ++ more)
decided_append [] more d e = e
decided_append (check ∷ some) more (here, d) e = (here, decided_append some more d e)

pub hold_append : (some more : List Check) → Hold some → Hold more → Hold (some ++ more)
hold_append [] more h i = i
hold_append (check ∷ some) more (here, h) i = (here, hold_append some more h i)

pub hold_parts : (some more : List Check) → Hold (some ++ more) → Hold some × Hold more
hold_parts [] more h = (tt, h)
hold_parts (check ∷ some) more (here, h) = let (a, b) = hold_parts some more h in ((here, a), b)

pub fails_first : (e : LineFault) (some more : List Check) → FailsAt e some → FailsAt e (some ++ more)
fails_first e [] more f = absurd f
fails_first e (check ∷ some) more (inl f) = inl f
fails_first e (check ∷ some) more (inr (here, f)) = inr (here, fails_first e some more f)

pub fails_then : (e : LineFault) (some more : List Check) → Hold some → FailsAt e more → FailsAt e (some ++ more)
fails_then e [] more h f = f
fails_then e (check ∷ some) more (here, h) f = inr (here, fails_then e some more h f)

pub some_outcome : (checks : List Check) → Decided checks → Hold checks ⊎ ((fault : LineFault) × FailsAt fault checks)
some_outcome [] d = inl tt
some_outcome ((rule, byte, P) ∷ checks) (inr not_so, d) = inr (record { rule = rule; byte = byte }, inl (refl, refl, not_so))
some_outcome ((rule, byte, P) ∷ checks) (inl so, d) =
    ⊎_elim (λ h. inl (so, h)) (λ (fault, f). inr (fault, inr (so, f))) (some_outcome checks d)

pub never_both : (checks : List Check) (fault : LineFault) → Hold checks → FailsAt fault checks → ⊥
never_both [] fault h f = f
never_both (check ∷ checks) fault (here, h) (inl (a, b, not_so)) = not_so here
never_both (check ∷ checks) fault (here, h) (inr (so, f)) = never_both checks fault h f

pub one_fault : (checks : List Check) (fault other : LineFault) → FailsAt fault checks → FailsAt other checks → fault ≡ other
one_fault [] fault other f g = absurd f
one_fault (check ∷ checks) fault other (inl (a, b, not_so)) (inl (c, d, nor)) = λ i. record { rule = (a ∙ sym c) i; byte = (b ∙ sym d) i }
one_fault (check ∷ checks) fault other (inl (a, b, not_so)) (inr (so, g)) = absurd (not_so so)
one_fault (check ∷ checks) fault other (inr (so, f)) (inl (c, d, nor)) = absurd (nor so)
one_fault (check ∷ checks) fault other (inr (so, f)) (inr (too, g)) = one_fault checks fault other f g

module _ (checks : ℕ → List Check) where
  pub each_decided : ((k : ℕ) → Decided (checks k)) → (k n : ℕ) → Decided (each checks k n)
  each_decided d k zero = tt
  each_decided d k (suc n) = decided_append (checks k) (each checks (suc k) n) (d k) (each_decided d (suc k) n)

  hold_from : (k n : ℕ) → ((j : ℕ) → j < k + n → Hold (checks j)) → Hold (each checks k n)
  hold_from k zero hold = tt
  hold_from k (suc n) hold = hold_append (checks k) (each checks (suc k) n) (hold k (omega arith)) (hold_from (suc k) n (λ j h. hold j (omega arith)))

  pub each_holds : (n : ℕ) → ((j : ℕ) → j < n → Hold (checks j)) → Hold (each checks 0 n)
  each_holds n hold = hold_from 0 n (λ j h. hold j (omega arith))

  held_from : (k n : ℕ) → Hold (each checks k n) → (j : ℕ) → k ≤ j → j < k + n → Hold (checks j)
  held_from k zero held j h l = absurd (omega arith)
  held_from k (suc n) held j h l =
      let (here, more) = hold_parts (checks k) (each checks (suc k) n) held in
      ⊎_elim (λ e. subst (λ i. Hold (checks i)) (sym e) here) (λ e. held_from (suc k) n more j (omega arith) (omega arith)) (cases_eq j k)

  pub each_held : (n : ℕ) → Hold (each checks 0 n) → (j : ℕ) → j < n → Hold (checks j)
  each_held n held j l = held_from 0 n held j (omega arith) (omega arith)

  module _ (e : LineFault) (j : ℕ) (hold : (i : ℕ) → i < j → Hold (checks i)) (f : FailsAt e (checks j)) where
    fails_from : (k n : ℕ) → k ≤ j → j < k + n → FailsAt e (each checks k n)
    fails_from k zero a b = absurd (omega arith)
    fails_from k (suc n) a b =
        ⊎_elim (λ i. fails_first e (checks k) (each checks (suc k) n) (subst (λ m. FailsAt e (checks m)) i f))
        (λ ne. fails_then e (checks k) (each checks (suc k) n) (hold k (omega arith)) (fails_from (suc k) n (omega arith) (omega arith))) (cases_eq j k)

    pub one_fails : (n : ℕ) → j < n → FailsAt e (each checks 0 n)
    one_fails n h = fails_from 0 n (omega arith) (omega arith)
