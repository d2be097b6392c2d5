-- Sets compared word by word.
use Rattle.std.proofs.Common.{◌≡◌, ℕ, true, ◌+◌, ◌*◌, ◌^◌, ◌<◌, Bool, eqb, ◌↔◌, List, length, get_or, sym, ap, ◌∙◌, mod-eq_of_lt, arith, ext_get_or}
use lib.Pointwise.{pointwise}
use Rattle.std.proofs.lemmas.Bool.Decides.{Decides-eqb, Decides-like}
use Rattle.std.proofs.lemmas.Slice.Eq.{slice_eq-Decides}
use Rattle.calculus.specs.Sets.{has}
use Rattle.calculus.specs.Meaning.{Code}
use Rattle.sets.specs.Members.{bit, members}
use Rattle.sets.specs.declared.set.LiteralSet.{LiteralSet}
use Rattle.sets.proofs.Bits.{bit_below, same_test, same_bits, bit_at}
use Rattle.sets.proofs.Elements.{has_literal}

-- the literals make the words
words_from : (v w : List ℕ) → length v ≡ 16 → length w ≡ 16 → ((i : ℕ) → get_or v i 0 < 2 ^ 64) → ((i : ℕ) → get_or w i 0 < 2 ^ 64)
    → members v ≡ members w → v ≡ w
words_from v w a b small_v small_w e =
    ext_get_or 0 v w (a ∙ sym b)
    (λ i h. sym (mod-eq_of_lt (small_v i))
    ∙ same_bits (get_or v i 0) (get_or w i 0) 64 (λ j lt. same_test _ _ (bit_below (get_or v i 0) j) (bit_below (get_or w i 0) j) (at i (omega arith) j lt))
    ∙ mod-eq_of_lt (small_w i))
  where
    at : (i : ℕ) → i < 16 → (j : ℕ) → j < 64 → eqb (bit (get_or v i 0) j) 1 ≡ eqb (bit (get_or w i 0) j) 1
    at i h j lt =
        let c : Code 512 (2 + (64 * i + j)) = (omega arith, omega arith) in
        sym (bit_at v i j lt) ∙ has_literal v (2 + (64 * i + j)) c ∙ ap (has (2 + (64 * i + j))) e ∙ sym (has_literal w (2 + (64 * i + j)) c) ∙ bit_at w i j lt

-- so sets are the same exactly if their words are
pub same_literals : (v w : LiteralSet) (r : Bool) → r ≡ pointwise eqb v.words w.words → (r ≡ true) ↔ (members v.words ≡ members w.words)
same_literals v w r e =
    Decides-like _ (ap members) (words_from v.words w.words v.long w.long v.small w.small) (slice_eq-Decides Decides-eqb v.words w.words r e)
