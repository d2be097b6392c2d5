-- The literals of a set written into cells, one by one, and what callers find where the cells suffice.
use Rattle.std.proofs.Common.{◌≡◌, ℕ, zero, suc, ◌+◌, ◌*◌, ◌<◌, ◌≤◌, true, false, List, [], ◌∷◌, ◌++◌, length, get_or, take, drop, set, sym, refl, ap, ◌∙◌, ap₂, arith}
use Rattle.std.proofs.lemmas.List.{take_all, take_at, drop_at, length_push}
use Rattle.std.proofs.lemmas.Bool.{eq-eqb, ne_eqb}
use Rattle.sets.specs.Members.{bit, has_bit, first_members, members}
use Rattle.sets.specs.Laid.{laid}
use Rattle.sets.specs.Steps.{Written}
use Rattle.sets.proofs.Bits.{zero_bit, bit_at}
use Rattle.sets.proofs.Elements.{first_in, first_out, first_few}

laid_none : (cells : List ℕ) → laid [] cells ≡ cells
unfolding laid
laid_none [] = refl
laid_none (c ∷ cells) = refl

-- one element more; past the cells it is not written
laid_more : (xs cells : List ℕ) (x : ℕ) → laid (xs ++ x ∷ []) cells ≡ set (laid xs cells) (length xs) x
unfolding laid
laid_more [] [] x = refl
laid_more [] (c ∷ cells) x = ap (λ zs. x ∷ zs) (laid_none cells)
laid_more (y ∷ ys) [] x = refl
laid_more (y ∷ ys) (c ∷ cells) x = ap (λ zs. y ∷ zs) (laid_more ys cells x)

module _ (xs cells : List ℕ) (room : length xs ≤ length cells) where
  -- where the cells suffice, they begin with the list
  pub laid_front : take (length xs) (laid xs cells) ≡ xs
  unfolding laid
  laid_front = ap (λ ys. take (length xs) (ys ++ drop (length xs) cells)) (take_all (length cells) xs room) ∙ take_at xs (drop (length xs) cells) (length xs) refl

  -- and the others are as they were
  pub laid_rest : drop (length xs) (laid xs cells) ≡ drop (length xs) cells
  unfolding laid
  laid_rest = ap (λ ys. drop (length xs) (ys ++ drop (length xs) cells)) (take_all (length cells) xs room) ∙ drop_at xs (drop (length xs) cells) (length xs) refl

-- what a caller has after `codes`, where the cells suffice: the literals, then the cells as they were
pub listed : (words cells out : List ℕ) (r : ℕ) → r ≡ length (members words) → out ≡ laid (members words) cells → length (members words) ≤ length cells
    → (take r out ≡ members words) × (drop r out ≡ drop r cells)
listed words cells out r e f room = (
  ap₂ take e f ∙ laid_front (members words) cells room,
  ap₂ drop e f ∙ laid_rest (members words) cells room ∙ ap (λ (n : ℕ). drop n cells) (sym e),
)

module _ (words cells : List ℕ) where
  pub written_none : Written words cells 0 0 cells
  unfolding first_members
  written_none = record { count = refl; held = sym (laid_none cells) }

  pub moved : (k k' n n' : ℕ) (out out' : List ℕ) → k ≡ k' → n' ≡ n → out' ≡ out → Written words cells k n out → Written words cells k' n' out'
  moved k k' n n' out out' e f g w = record {
    count = f ∙ w.count ∙ ap (λ (x : ℕ). length (first_members words x)) e;
    held = g ∙ w.held ∙ ap (λ (x : ℕ). laid (first_members words x) cells) e;
  }

  written_in : (k n : ℕ) (out : List ℕ) → has_bit words (2 + k) ≡ true → Written words cells k n out → Written words cells (suc k) (n + 1) (set out n (2 + k))
  written_in k n out e w = record {
    count = ap (λ (x : ℕ). x + 1) w.count ∙ sym (length_push (first_members words k) (2 + k)) ∙ ap length (sym (first_in words k e));
    held =
        ap₂ (λ xs (x : ℕ). set xs x (2 + k)) w.held w.count ∙ sym (laid_more (first_members words k) cells (2 + k)) ∙ ap (λ xs. laid xs cells) (sym (first_in words k e));
  }

  written_out : (k n : ℕ) (out : List ℕ) → has_bit words (2 + k) ≡ false → Written words cells k n out → Written words cells (suc k) n out
  written_out k n out e w = record { count = w.count ∙ ap length (sym (first_out words k e)); held = w.held ∙ ap (λ xs. laid xs cells) (sym (first_out words k e)) }

  -- bit b of word i is set
  pub bit_in : (i b n n' code : ℕ) (out out' : List ℕ) → b < 64 → bit (get_or words i 0) b ≡ 1 → code ≡ 64 * i + 2 + b → n' ≡ n + 1 → out' ≡ set out n code
      → Written words cells (64 * i + b) n out → Written words cells (64 * i + (b + 1)) n' out'
  bit_in i b n n' code out out' h e d f g w =
      moved (suc (64 * i + b)) (64 * i + (b + 1)) (n + 1) n' (set out n (2 + (64 * i + b))) out' (omega arith) f (g ∙ ap (set out n) (let z : code ≡ 2 + (64 * i + b) = omega arith in z))
      (written_in (64 * i + b) n out (bit_at words i b h ∙ eq-eqb (bit (get_or words i 0) b) 1 e) w)

  -- bit b of word i is not set
  pub bit_out : (i b n n' : ℕ) (out out' : List ℕ) → b < 64 → (bit (get_or words i 0) b ≡ 1 → ⊥) → n' ≡ n → out' ≡ out
      → Written words cells (64 * i + b) n out → Written words cells (64 * i + (b + 1)) n' out'
  bit_out i b n n' out out' h e f g w =
      moved (suc (64 * i + b)) (64 * i + (b + 1)) n n' out out' (omega arith) f g
      (written_out (64 * i + b) n out (bit_at words i b h ∙ ne_eqb (bit (get_or words i 0) b) 1 e) w)

  -- no bit of a word that is 0 is set
  zero_bits : (i n : ℕ) (out : List ℕ) → get_or words i 0 ≡ 0 → Written words cells (64 * i) n out → (b : ℕ) → b ≤ 64 → Written words cells (64 * i + b) n out
  zero_bits i n out e w zero h = moved (64 * i) (64 * i + 0) n n out out (omega arith) refl refl w
  zero_bits i n out e w (suc b) h =
      moved (64 * i + (b + 1)) (64 * i + suc b) n n out out (omega arith) refl refl
      (bit_out i b n n out out (omega arith) (λ o. omega (arith, ap (λ (x : ℕ). bit x b) e ∙ zero_bit b)) refl refl (zero_bits i n out e w b (omega arith)))

  pub zero_word : (i n n' : ℕ) (out out' : List ℕ) → get_or words i 0 ≡ 0 → n' ≡ n → out' ≡ out → Written words cells (64 * i) n out → Written words cells (64 * (i + 1)) n' out'
  zero_word i n n' out out' e f g w = moved (64 * i + 64) (64 * (i + 1)) n n' out out' (omega arith) f g (zero_bits i n out e w 64 (omega arith))

  -- among the k first literals at most k are in the set
  pub few : (k n : ℕ) (out : List ℕ) → Written words cells k n out → n ≤ k
  few k n out w = omega (arith, w.count, first_few words k)
