-- The longest front of a list that is a clause: there is one, and of a clause it is the whole.
use Rattle.std.proofs.Common.{◌≡◌, ℕ, ◌+◌, ◌<◌, ◌≤◌, ◌⊎◌, List, length, get_or, take, sym, ap, ◌∙◌, subst, ⊎_elim, arith, length-take}
use Rattle.std.proofs.lemmas.List.{take_all, length-take-le}
use Rattle.std.proofs.lemmas.Bool.{cases_lt}
use Rattle.calculus.specs.Literals.{var}
use Rattle.shelf.specs.Proper.{Proper, LongestFront}
use Rattle.shelf.proofs.Climbing.{Climbs, last_code, climbs_proper, proper_climbs, climbs_less, climbs_last}

-- a clause is its own longest front
pub front_whole : (C F : List ℕ) → LongestFront C F → Proper C → F ≡ C
front_whole C F f p =
    let all : take (length C) C ≡ C = take_all (length C) C (omega arith) in
    let long : length (take (length C) C) ≤ length F = f.longest (length C) (subst Proper (sym all) p) in
    sym f.front ∙ take_all (length F) C (omega (arith, ap length all))

-- so that is as long
pub front_length : (C F : List ℕ) → LongestFront C F → Proper C → length F ≡ length C
front_length C F f p = ap length (front_whole C F f p)

no_longer : (C F G : List ℕ) → LongestFront C F → LongestFront C G → length G ≤ length F
no_longer C F G f g = omega (arith, f.longest (length G) (subst Proper (sym g.front) g.proper), ap length g.front)

-- a list has one longest front
pub front_one : (C F G : List ℕ) → LongestFront C F → LongestFront C G → F ≡ G
front_one C F G f g =
    let e : length F ≡ length G = omega (arith, no_longer C F G f g, no_longer C G F g f) in sym f.front ∙ (ap (λ k. take k C) e ∙ g.front)

front_at : (C : List ℕ) (i : ℕ) → i ≤ length C → Climbs 1 (take i C) → ((k : ℕ) → Climbs 1 (take k C) → length (take k C) ≤ i) → LongestFront C (take i C)
front_at C i le h most =
    let long : length (take i C) ≡ i = length-take-le i C le in
    record {
      front = ap (λ k. take k C) long;
      proper = climbs_proper (take i C) h;
      longest = λ k p. omega (arith, most k (proper_climbs (take k C) p));
    }

-- the codes before the first that does not climb
pub front_stops :
    (C : List ℕ) (i last : ℕ) → i < length C → Climbs 1 (take i C) × (last ≡ var (last_code 1 (take i C))) →
    (var (get_or C i 0) ≤ last) ⊎ ((last < var (get_or C i 0)) × (512 < var (get_or C i 0))) → LongestFront C (take i C)
front_stops C i last lt h ends =
    front_at C i (omega arith) h.0
    (λ k p. ⊎_elim (λ past. absurd (stuck (climbs_last 1 i C lt (climbs_less 1 (i + 1) k C (omega arith) p)))) (λ le. omega (arith, length-take k C)) (cases_lt i k))
  where
    stuck : (var (last_code 1 (take i C)) < var (get_or C i 0)) × (get_or C i 0 < 1026) → ⊥
    stuck (up, low) = ⊎_elim (λ e. omega (arith, h.1)) (λ high. omega (arith, high.1)) ends

-- all codes, where all climb
pub front_all : (C : List ℕ) (i : ℕ) → length C ≤ i → Climbs 1 (take i C) → LongestFront C (take (length C) C)
front_all C i le h = front_at C (length C) (omega arith) (climbs_less 1 (length C) i C le h) (λ k p. omega (arith, length-take k C))
