-- A list of calls made on a case that was just opened, one after the other.
use Rattle.std.proofs.Common.{◌≡◌, ℕ, ◌+◌, ◌-◌, ◌<◌, ◌≤◌, ◌⊎◌, List, [], ◌∷◌, ◌++◌, map, length, get_or, take, drop, set, sym, refl, ap, ◌∙◌, subst, subst₂, ⊎_elim, inl, inr, arith, length-set, length-drop}
use Rattle.std.proofs.lemmas.Bool.{cases_eq}
use Rattle.std.proofs.lemmas.List.{take_all, take_more, take_more_set, at_drop_more, drop-drop, drop-set-lt}
use Rattle.calculus.specs.Meaning.{Meaning, Formed}
use Rattle.laws.specs.Store.{Store}
use Rattle.case.specs.Answers.{meant_call, meant_reply}
use Rattle.case.specs.Claimed.{CallRight}
use Rattle.case.specs.Promise.{RunRight}
use Rattle.case.specs.Standing.{Standing}
use Rattle.case.specs.declared.call.Call.{Call}
use Rattle.case.specs.declared.call.Reply.{Reply}
use Rattle.case.proofs.Steps.{Led, led_more, led_next, led_promise}

-- the first i calls have been made, and their replies stand in their places; these calls and so many places are left
pub record Made (S : Store) (m : Meaning) (calls : List Call) (i : ℕ) (left : List Call) (places : ℕ) (before after : List Reply) (s : Standing) : Type 0 where
  pub led : Led S m (map meant_call (take i calls)) (map meant_reply (take i after)) s
  pub rest : drop i after ≡ drop i before
  pub long : length after ≡ length before
  pub called : i ≤ length calls
  pub left_is : left ≡ drop i calls
  pub places_are : places + i ≡ length after

module _ (S : Store) (m : Meaning) (calls : List Call) (before : List Reply) where
  -- no call yet
  pub made_none :
      (i : ℕ) (left : List Call) (places : ℕ) (s : Standing) → Led S m [] [] s → i ≡ 0 → left ≡ calls → places ≡ length before →
      Made S m calls i left places before before s
  made_none i left places s led e f h =
      subst (λ k. Made S m calls k left places before before s) (sym e)
      (record { led = led; rest = refl; long = refl; called = omega arith; left_is = f; places_are = omega arith })

  module _ (i : ℕ) (left : List Call) (places : ℕ) (after : List Reply) (s : Standing) (made : Made S m calls i left places before after s) where
    -- the first of the calls that are left
    module _ (c : Call) (rest : List Call) (first : left ≡ c ∷ rest) where
      here : drop i calls ≡ c ∷ rest
      here = sym made.left_is ∙ first

      more : i < length calls
      more = omega (arith, length-drop i calls, ap length here)

      next : take (i + 1) calls ≡ take i calls ++ (c ∷ [])
      next =
          take_more calls i c more
          ∙ ap (λ d. take i calls ++ (d ∷ [])) (sym (at_drop_more (λ xs. get_or xs 0 c) calls i c more) ∙ ap (λ xs. get_or xs 0 c) here)

      -- one call more
      pub made_more :
          (j place count : ℕ) (reply : Reply) (t : Standing) → j ≡ i + 1 → place ≡ i → count + 1 ≡ places → CallRight s (meant_call c) (meant_reply reply) t →
          Made S m calls j rest count before (set after place reply) t
      made_more j place count reply t e f h right =
          subst₂ (λ k p. Made S m calls k rest count before (set after p reply) t) (sym e) (sym f) (record {
            led = subst (λ rs. Led S m (map meant_call (take (i + 1) calls)) (map meant_reply rs) t) (sym (take_more_set after i reply free))
                (led_next S m (take i calls) (take (i + 1) calls) c (take i after) reply t next
                (led_more S m (map meant_call (take i calls)) (map meant_reply (take i after)) s made.led (meant_call c) (meant_reply reply) t right));
            rest = drop-set-lt (i + 1) after i reply (omega arith) ∙ (sym (drop-drop 1 i after) ∙ (ap (drop 1) made.rest ∙ drop-drop 1 i before));
            long = length-set after i reply ∙ made.long;
            called = omega (arith, more);
            left_is = ap (drop 1) (sym here) ∙ drop-drop 1 i calls;
            places_are = omega (arith, made.places_are, length-set after i reply);
          })
        where
          free : i < length after
          free = omega (arith, made.places_are)

    -- no call is left, or no place
    module _ (end : (length calls ≤ i) ⊎ (length after ≤ i)) where
      calls_made : take i calls ≡ take (length before) calls
      calls_made =
          ⊎_elim (λ e. take_all i calls e ∙ sym (take_all (length before) calls (omega (arith, made.places_are, made.long))))
          (λ e. ap (λ n. take n calls) (let k : i ≡ length before = omega (arith, made.long, made.places_are) in k)) end

      replies_made : take i after ≡ take (length calls) after
      replies_made =
          ⊎_elim (λ e. ap (λ n. take n after) (let k : i ≡ length calls = omega (arith, made.called) in k))
          (λ e. take_all i after e ∙ sym (take_all (length calls) after (omega (arith, made.called)))) end

      pub made_led : Led S m (map meant_call (take (length before) calls)) (map meant_reply (take (length calls) after)) s
      made_led = subst₂ (λ cs rs. Led S m (map meant_call cs) (map meant_reply rs) s) calls_made replies_made made.led

      pub made_rest : drop (length calls) after ≡ drop (length calls) before
      made_rest =
          let on : i + (length calls - i) ≡ length calls = omega (arith, made.called) in
          ap (λ n. drop n after) (sym on) ∙ (sym (drop-drop (length calls - i) i after) ∙ (ap (drop (length calls - i)) made.rest ∙ (drop-drop (length calls - i) i before ∙ ap (λ n. drop n before) on)))

    -- where a place is left, no call is
    pub made_end : (0 < places → length left ≡ 0) → (length calls ≤ i) ⊎ (length after ≤ i)
    made_end h =
        ⊎_elim (λ e. inr (omega (arith, made.places_are)))
        (λ n. inl (let k : length left ≡ 0 = h (omega arith) in omega (arith, length-drop i calls, ap length made.left_is))) (cases_eq places 0)

-- at the end, what a run promises holds
pub made_right :
    (S T : Store) (m n : Meaning) → S ≡ T → m ≡ n → Formed n → (calls : List Call) (i : ℕ) (left : List Call) (places : ℕ) (before after : List Reply) (s : Standing) →
    Made S m calls i left places before after s → (0 < places → length left ≡ 0) → RunRight T n calls before after s
made_right S T m n same equal formed calls i left places before after s made none =
    let end : (length calls ≤ i) ⊎ (length after ≤ i) = made_end S m calls before i left places after s made none in
    let led : Led T n (map meant_call (take (length before) calls)) (map meant_reply (take (length calls) after)) s =
    subst₂ (λ U k. Led U k (map meant_call (take (length before) calls)) (map meant_reply (take (length calls) after)) s) same equal
    (made_led S m calls before i left places after s made end) in
    record {
      formula = led.formula;
      numbers = led.store;
      promise = led_promise T n (map meant_call (take (length before) calls)) (map meant_reply (take (length calls) after)) s led formed;
      reached = led.after;
      rest = made_rest S m calls before i left places after s made end;
    }
