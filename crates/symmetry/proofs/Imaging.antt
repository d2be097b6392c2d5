-- The set of the images of a clause's literals, one after the other.
use Rattle.std.proofs.Common.{◌≡◌, ℕ, ◌+◌, ◌<◌, ◌≤◌, Bool, true, ◌↔◌, List, map, length, take, sym, ap, ◌∙◌, subst, arith}
use Rattle.std.proofs.lemmas.List.{length-map, get_or-map, take_all}
use Rattle.calculus.specs.Meaning.{Meaning, Formed, Code, clause_of, literal_of}
use Rattle.laws.specs.Cards.{Card, act}
use Rattle.laws.specs.Claims.{insert, sorted}
use Rattle.sets.specs.Members.{members}
use Rattle.sets.proofs.Sorted.{sorted_more, clause_code}
use Rattle.cards.proofs.Actions.{act_code}

module _ (m : Meaning) (card : Card) (j : ℕ) (ms : List ℕ) (i : ℕ) where
  abbrev images : List ℕ
  images = map (act card) (clause_of m j)

  -- x is the image of the literal at place i, and is put into the set
  pub image_more :
      (words' : List ℕ) (x : ℕ) (b : Bool) → Formed m → i < length (clause_of m j) → x ≡ act card (literal_of m j i) → ((b ≡ true) ↔ Code 512 x) →
      (b ≡ true → members words' ≡ insert x ms) → ms ≡ sorted (take i images) → members words' ≡ sorted (take (i + 1) images)
  image_more words' x b formed h at code added so_far =
      sorted_more images words' ms i x (omega (arith, length-map (clause_of m j) (act card))) (at ∙ sym (get_or-map (act card) (clause_of m j) i 0 0 h)) so_far
      (added (code.1 (subst (Code 512) (sym at) (act_code card (literal_of m j i) (clause_code m formed j i h)))))

  pub image_all : length (clause_of m j) ≤ i → ms ≡ sorted (take i images) → ms ≡ sorted images
  image_all h so_far = so_far ∙ ap sorted (take_all i images (omega (arith, length-map (clause_of m j) (act card))))
