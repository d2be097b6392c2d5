-- Lines laid flat are read back, and what lies past them does not matter.
use Rattle.std.proofs.Common.{◌≡◌, ℕ, ◌+◌, List, [], ◌∷◌, ◌++◌, length, take, drop, sym, refl, ap, ◌∙◌, append_assoc, append-nil, take-append-drop, take-add}
use Rattle.std.proofs.lemmas.List.{take_at, drop_at}
use Rattle.cells.specs.Layout.{flat, parse, Lies}

parse_flat : (Cs : List (List ℕ)) (rest : List ℕ) → parse (length Cs) (flat Cs ++ rest) ≡ Cs
parse_flat [] rest = refl
parse_flat (C ∷ Cs) rest =
    let e : (C ++ flat Cs) ++ rest ≡ C ++ (flat Cs ++ rest) = append_assoc C (flat Cs) rest in
    let front : take (length C) ((C ++ flat Cs) ++ rest) ≡ C = ap (take (length C)) e ∙ take_at C (flat Cs ++ rest) (length C) refl in
    let back : drop (length C) ((C ++ flat Cs) ++ rest) ≡ flat Cs ++ rest = ap (drop (length C)) e ∙ drop_at C (flat Cs ++ rest) (length C) refl in
    rw (front, back, parse_flat Cs rest)

-- cells that begin with the lines are read as those lines
pub parse_front : (cells : List ℕ) (used count : ℕ) (Cs : List (List ℕ)) → flat Cs ≡ take used cells → length Cs ≡ count → parse count cells ≡ Cs
parse_front cells used count Cs laid counted =
    let whole : cells ≡ flat Cs ++ drop used cells = sym (take-append-drop used cells) ∙ ap (λ z. z ++ drop used cells) (sym laid) in
    ap (parse count) whole ∙ ap (λ k. parse k (flat Cs ++ drop used cells)) (sym counted) ∙ parse_flat Cs (drop used cells)

pub flat_append : (Cs Ds : List (List ℕ)) → flat (Cs ++ Ds) ≡ flat Cs ++ flat Ds
flat_append [] Ds = refl
flat_append (C ∷ Cs) Ds = ap (λ z. length C ∷ z) (ap (λ z. C ++ z) (flat_append Cs Ds) ∙ sym (append_assoc C (flat Cs) (flat Ds)))

-- a line that lies behind the others is laid flat with them
pub flat_push : (cells : List ℕ) (used : ℕ) (Cs : List (List ℕ)) (C : List ℕ) → flat Cs ≡ take used cells → Lies cells used C → flat (Cs ++ C ∷ []) ≡ take (used + (1 + length C)) cells
flat_push cells used Cs C laid lies =
    flat_append Cs (C ∷ []) ∙ rw (append-nil C, laid, take-add used (1 + length C) cells, lies)
