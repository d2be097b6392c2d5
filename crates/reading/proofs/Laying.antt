-- Clauses laid into cells, one number more at a time.
use Rattle.std.proofs.Common.{◌≡◌, ℕ, suc, ◌+◌, ◌-◌, ◌<◌, List, [], ◌∷◌, ◌++◌, map, reverse, length, get_or, set, replicate, sum_by, sym, refl, ap, ◌∙◌, ⊎_elim, arith}
use Rattle.std.proofs.lemmas.Bool.{cases_lt}
use Rattle.std.proofs.lemmas.List.{get_or-replicate, get_or_past, length-replicate, append-nil, append_assoc, length-append, length_push, length-map, length-reverse, reverse-append, set_at, flat_map_more}
use Rattle.std.proofs.lemmas.List.Sums.{sum_by-cons}
use Rattle.grammar.specs.Lawful.{literal_count}
use Rattle.reading.specs.Laid.{padded, all_codes, running}
use Rattle.reading.specs.Stands.{in_order}

-- one number more, in the first cell that is not used
pub padded_push : (size : ℕ) (xs : List ℕ) (x : ℕ) → length xs < size → set (padded size xs) (length xs) x ≡ padded size (xs ++ (x ∷ []))
padded_push size xs x h =
    let rest : size - length xs ≡ suc (size - length (xs ++ (x ∷ []))) = omega (arith, length_push xs x) in
    rw rest (set_at xs 0 (replicate (size - length (xs ++ (x ∷ []))) 0) x (length xs) refl ∙ sym (append_assoc xs (x ∷ []) (replicate (size - length (xs ++ (x ∷ []))) 0)))

pub reverse-cons : {X : Type 0} (x : X) (xs : List X) → reverse (x ∷ xs) ≡ reverse xs ++ (x ∷ [])
reverse-cons x xs = reverse-append (x ∷ []) xs

pub in_order_cons : (C : List ℕ) (Cs : List (List ℕ)) → in_order (C ∷ Cs) ≡ in_order Cs ++ (reverse C ∷ [])
in_order_cons C Cs = reverse-cons (reverse C) (map reverse Cs)

pub length_in_order : (Cs : List (List ℕ)) → length (in_order Cs) ≡ length Cs
length_in_order Cs = length-reverse (map reverse Cs) ∙ length-map Cs reverse

all_codes_push : (Cs : List (List ℕ)) (C : List ℕ) → all_codes (Cs ++ (C ∷ [])) ≡ all_codes Cs ++ C
all_codes_push Cs C = sym (flat_map_more (λ D. D) [] Cs C)

running_push : (k : ℕ) (Cs : List (List ℕ)) (C : List ℕ) → running k (Cs ++ (C ∷ [])) ≡ running k Cs ++ ((k + length (all_codes Cs) + length C) ∷ [])
running_push k [] C = ap (λ x. (x + length C) ∷ []) (sym (omega arith))
running_push k (D ∷ Cs) C =
    ap (λ xs. (k + length D) ∷ xs)
    (running_push (k + length D) Cs C ∙ ap (λ x. running (k + length D) Cs ++ (x ∷ [])) (simp length-append (omega arith)))

pub length_running : (k : ℕ) (Cs : List (List ℕ)) → length (running k Cs) ≡ length Cs
length_running k [] = refl
length_running k (C ∷ Cs) = ap suc (length_running (k + length C) Cs)

pub length_codes : (Cs : List (List ℕ)) → length (all_codes (in_order Cs)) ≡ sum_by length Cs
length_codes [] = refl
length_codes (C ∷ Cs) =
    rw (in_order_cons C Cs, all_codes_push (in_order Cs) (reverse C), length-append (all_codes (in_order Cs)) (reverse C), length-reverse C, length_codes Cs) (omega (arith, sum_by-cons length C Cs))

-- the codes of a draft's clauses with one literal more
pub codes_push : (Cs : List (List ℕ)) (l : ℕ) (C : List ℕ) →
    all_codes (in_order Cs) ++ reverse (l ∷ C) ≡ (all_codes (in_order Cs) ++ reverse C) ++ (l ∷ [])
codes_push Cs l C = ap (λ xs. all_codes (in_order Cs) ++ xs) (reverse-cons l C) ∙ sym (append_assoc (all_codes (in_order Cs)) (reverse C) (l ∷ []))

pub codes_count : (Cs : List (List ℕ)) (C : List ℕ) → length (all_codes (in_order Cs) ++ reverse C) ≡ literal_count Cs C
codes_count Cs C = rw (length-append (all_codes (in_order Cs)) (reverse C), length-reverse C, length_codes Cs) refl

-- the codes, and the running counts, once the clause has ended
pub codes_ended : (C : List ℕ) (Cs : List (List ℕ)) → all_codes (in_order (C ∷ Cs)) ++ reverse [] ≡ all_codes (in_order Cs) ++ reverse C
codes_ended C Cs = append-nil (all_codes (in_order (C ∷ Cs))) ∙ ap all_codes (in_order_cons C Cs) ∙ all_codes_push (in_order Cs) (reverse C)

pub ends_push : (C : List ℕ) (Cs : List (List ℕ)) → running 0 (in_order (C ∷ Cs)) ≡ running 0 (in_order Cs) ++ (literal_count Cs C ∷ [])
ends_push C Cs =
    ap (running 0) (in_order_cons C Cs) ∙ running_push 0 (in_order Cs) (reverse C) ∙
    ap (λ x. running 0 (in_order Cs) ++ (x ∷ [])) (omega (arith, length_codes Cs, length-reverse C))

-- what stands at a place of zeros
pub zero_at : (n i : ℕ) → ◌≡◌ {A = ℕ} (get_or (replicate n 0) i 0) 0
zero_at n i =
    ⊎_elim (λ h. get_or-replicate n i 0 0 h) (λ h. get_or_past (replicate n 0) i 0 (simp length-replicate h)) (cases_lt i n)
