-- A line written at a place, first its length and then its codes, lies there.
use Rattle.std.proofs.Common.{◌≡◌, ℕ, ◌+◌, ◌<◌, List, [], ◌∷◌, ◌++◌, length, take, drop, set, ap, ◌∙◌, append_assoc, arith, length-take-le}
use Rattle.std.proofs.lemmas.List.{take_more_set, take_at, drop_at}
use Rattle.cells.specs.Layout.{Lies}

pub written_lies : (cells C written rest : List ℕ) (at : ℕ) → at < length cells → written ≡ C → Lies (take (at + 1) (set cells at (length C)) ++ (written ++ rest)) at C
written_lies cells C written rest at lt e =
    ap (λ z. take (1 + length C) (drop at (take (at + 1) (set cells at (length C)) ++ (z ++ rest)))) e
    ∙ ap (λ z. take (1 + length C) (drop at (z ++ (C ++ rest)))) (take_more_set cells at (length C) lt)
    ∙ ap (λ z. take (1 + length C) (drop at z)) (append_assoc (take at cells) (length C ∷ []) (C ++ rest))
    ∙ ap (take (1 + length C)) (drop_at (take at cells) (length C ∷ (C ++ rest)) at (length-take-le at cells (omega arith)))
    ∙ take_at (length C ∷ C) rest (1 + length C) (omega arith)
