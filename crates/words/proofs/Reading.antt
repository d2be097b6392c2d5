-- The first word of what is left of a text: behind the blanks in front, as far as no blank comes.
use Rattle.std.proofs.Common.{◌≡◌, ℕ, suc, ◌+◌, ◌-◌, ◌<◌, Bool, true, false, not, List, [], ◌∷◌, ◌++◌, map, length, take, drop, sym, refl, ap, ◌∙◌, subst, ⊎_elim, add-zero, one-add, arith}
use Rattle.std.specs.List.{prefix_len}
use Rattle.std.proofs.lemmas.List.{append-nil, append_assoc, drop-drop}
use Rattle.std.proofs.lemmas.List.Folds.{length-prefix_len}
use Rattle.std.proofs.lemmas.Bool.{cases_Bool, cond-true, cond-false}
use Rattle.words.specs.declared.token.Token.{Token}
use Rattle.words.specs.Rest.{lexemes_from}
use Rattle.words.specs.Tokens.{token_of}
use Rattle.words.specs.Words.{blank, ended, words_from, lexeme}

abbrev solid : ℕ → Bool
solid b = not (blank b)

module _ (at : ℕ) (w : List ℕ) (b : ℕ) (bs : List ℕ) where
  -- a blank ends the word before it
  pub at_blank : blank b ≡ true → words_from at w (b ∷ bs) ≡ ended at w ++ words_from (at + 1) [] bs
  at_blank e = cond-true (blank b) _ _ e

  -- any other byte goes on with it
  pub at_solid : blank b ≡ false → words_from at w (b ∷ bs) ≡ words_from (at + 1) (w ++ (b ∷ [])) bs
  at_solid e = cond-false (blank b) _ _ e

leading_yes : (p : ℕ → Bool) (b : ℕ) (bs : List ℕ) → p b ≡ true → suc (prefix_len p bs) ≡ prefix_len p (b ∷ bs)
leading_yes p b bs e = sym (cond-true (p b) _ _ e ∙ one-add _)

leading_no : (p : ℕ → Bool) (b : ℕ) (bs : List ℕ) → p b ≡ false → 0 ≡ prefix_len p (b ∷ bs)
leading_no p b bs e = sym (cond-false (p b) _ _ e)

-- blanks in front are passed over
pub skipped : (at : ℕ) (s : List ℕ) → words_from at [] s ≡ words_from (at + prefix_len blank s) [] (drop (prefix_len blank s) s)
skipped at [] = refl
skipped at (b ∷ bs) =
    let F = λ (k : ℕ). words_from (at + k) [] (drop k (b ∷ bs)) in
    ⊎_elim
    (λ e. at_blank at [] b bs e
    ∙ skipped (at + 1) bs
    ∙ ap (λ k. words_from k [] (drop (prefix_len blank bs) bs)) (let h : at + 1 + prefix_len blank bs ≡ at + suc (prefix_len blank bs) = omega arith in h)
    ∙ ap F (leading_yes blank b bs e))
    (λ e. ap (λ k. words_from k [] (b ∷ bs)) (sym (add-zero at)) ∙ ap F (leading_no blank b bs e))
    (cases_Bool (blank b))

-- a word goes on as far as no blank comes
pub gathered : (at : ℕ) (w s : List ℕ)
    → words_from at w s ≡ ended (at + prefix_len solid s) (w ++ take (prefix_len solid s) s) ++ words_from (at + prefix_len solid s) [] (drop (prefix_len solid s) s)
gathered at w [] = rw (add-zero, append-nil w, append-nil (ended at w))
gathered at w (b ∷ bs) =
    let F = λ (k : ℕ). ended (at + k) (w ++ take k (b ∷ bs)) ++ words_from (at + k) [] (drop k (b ∷ bs)) in
    let n = prefix_len solid bs in
    let up : at + 1 + n ≡ at + suc n = omega arith in
    ⊎_elim
    (λ e. at_blank at w b bs e
    ∙ (rw (append-nil w, add-zero at) (ap (λ x. ended at w ++ x) (sym (at_blank at [] b bs e))))
    ∙ ap F (leading_no solid b bs (ap not e)))
    (λ e. at_solid at w b bs e
    ∙ gathered (at + 1) (w ++ (b ∷ [])) bs
    ∙ (rw (append_assoc w (b ∷ []) (take n bs), up))
    ∙ ap F (leading_yes solid b bs (ap not e)))
    (cases_Bool (blank b))

-- behind the blanks in front stands a word, or nothing
stops : (s : List ℕ) → prefix_len solid (drop (prefix_len blank s) s) ≡ 0 → drop (prefix_len blank s) s ≡ []
stops [] h = refl
stops (b ∷ bs) h =
    let G = λ (k : ℕ). prefix_len solid (drop k (b ∷ bs)) ≡ 0 → drop k (b ∷ bs) ≡ [] in
    ⊎_elim
    (λ e. subst G (leading_yes blank b bs e) (stops bs) h)
    (λ e. subst G (leading_no blank b bs e) (λ z. absurd (omega (arith, leading_yes solid b bs (ap not e)))) h)
    (cases_Bool (blank b))

pub ended_some : (at n : ℕ) (w : List ℕ) → length w ≡ n → 0 < n → ended (at + n) w ≡ (at, w) ∷ []
ended_some at n [] e h = absurd (omega arith)
ended_some at n (b ∷ bs) e h =
    let back : (at + n) - length (b ∷ bs) ≡ at = omega arith in ap (λ k. (k, b ∷ bs) ∷ []) back

module _ (text : List ℕ) (at : ℕ) {k n : ℕ} (k_is : k ≡ prefix_len blank (drop at text)) (n_is : n ≡ prefix_len solid (drop (at + k) text)) where
  front_is : drop k (drop at text) ≡ drop (at + k) text
  front_is = drop-drop k at text

  behind_blanks : words_from at [] (drop at text) ≡ words_from (at + k) [] (drop (at + k) text)
  behind_blanks =
      let s = drop at text in
      skipped at s ∙ ap (λ j. words_from (at + j) [] (drop j s)) (sym k_is) ∙ ap (words_from (at + k) []) front_is

  -- no word is left
  pub read_none : n ≡ 0 → lexemes_from at text ≡ []
  read_none z =
      let s = drop at text in
      let front : drop (prefix_len blank s) s ≡ drop (at + k) text = ap (λ j. drop j s) (sym k_is) ∙ front_is in
      ap (map lexeme) (behind_blanks ∙ ap (words_from (at + k) []) (sym front ∙ stops s (ap (prefix_len solid) front ∙ sym n_is ∙ z)))

  -- the next word
  pub read_some : {token : Token} → token ≡ token_of (take n (drop (at + k) text)) → (n ≡ 0 → ⊥)
      → lexemes_from at text ≡ record { place = at + k; token = token } ∷ lexemes_from (at + k + n) text
  read_some {token} token_is nz =
      let front = drop (at + k) text in
      let word : words_from (at + k) [] front ≡ ended (at + k + n) (take n front) ++ words_from (at + k + n) [] (drop n front)
      = rw n_is (gathered (at + k) [] front) in
      let long : length (take n front) ≡ n = rw n_is (length-prefix_len solid front) in
      ap (map lexeme) (behind_blanks ∙ word)
      ∙ rw (token_is, drop-drop n (at + k) text, ended_some (at + k) n (take n front) long (omega arith))
