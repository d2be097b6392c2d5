-- Clauses that are laid one behind the other, with their running counts, are cut out again.
use Rattle.std.proofs.Common.{◌≡◌, ℕ, ◌+◌, ◌-◌, ◌*◌, ◌≤◌, true, ◌&&◌, ltb, leb, List, [], ◌∷◌, ◌++◌, length, take, drop, sym, refl, ap, ◌∙◌, arith}
use Rattle.std.specs.List.{AllByRecursion}
use Rattle.std.proofs.lemmas.List.{append_assoc, length-append, take_at, drop_at}
use Rattle.std.proofs.lemmas.Bool.{and_from, le-leb, lt-ltb, cond-true}
use Rattle.calculus.specs.Meaning.{Code, Clause}
use Rattle.reading.specs.Laid.{padded, all_codes, running}
use Rattle.reading.proofs.Laying.{length_running}
use Rattle.text.specs.Cells.{cut, cuts, code, codes, lies, fits, clauses_in}

codes_pass : (n : ℕ) (C : List ℕ) → AllByRecursion (Code n) C → codes n C ≡ true
codes_pass n [] h = refl
codes_pass n (l ∷ C) h =
    and_from (code n l) (codes n C) (and_from (leb 2 l) (ltb l (2 * (n + 1))) (le-leb 2 l h.0.0) (lt-ltb l (2 * (n + 1)) h.0.1)) (codes_pass n C h.1)

module _ (n : ℕ) (front C back : List ℕ) where
  abbrev laid : List ℕ
  laid = front ++ (C ++ back)

  cut_here : cut laid (length front) (length front + length C) ≡ C
  cut_here =
      let size : length front + length C - length front ≡ length C = omega arith in
      ap (λ k. take k (drop (length front) laid)) size ∙ ap (take (length C)) (drop_at front (C ++ back) (length front) refl) ∙ take_at C back (length C) refl

  lies_here : Clause n C → lies n laid (length front) (length front + length C) ≡ true
  lies_here h =
      let long : length laid ≡ length front + (length C + length back) = length-append front (C ++ back) ∙ ap (λ k. length front + k) (length-append C back) in
      let ascends : length front ≤ length front + length C = omega arith in
      let within : length front + length C ≤ length laid = omega (arith, long) in
      let short : length front + length C - length front ≤ 1024 = omega (arith, h.0) in
      and_from _ _ (and_from _ _ (le-leb _ _ ascends) (le-leb _ _ within)) (and_from _ _ (le-leb _ _ short) (ap (codes n) cut_here ∙ codes_pass n C h.1))

-- the same of all clauses behind some front
module _ (n : ℕ) (back : List ℕ) where
  abbrev cells : List ℕ → List (List ℕ) → List ℕ
  cells front Cs = front ++ (all_codes Cs ++ back)

  shift : (front C : List ℕ) (Cs : List (List ℕ)) → cells front (C ∷ Cs) ≡ cells (front ++ C) Cs
  shift front C Cs = ap (λ xs. front ++ xs) (append_assoc C (all_codes Cs) back) ∙ sym (append_assoc front C (all_codes Cs ++ back))

  grouped : (front C : List ℕ) (Cs : List (List ℕ)) → cells front (C ∷ Cs) ≡ laid n front C (all_codes Cs ++ back)
  grouped front C Cs = ap (λ xs. front ++ xs) (append_assoc C (all_codes Cs) back)

  cuts_all : (front : List ℕ) (Cs : List (List ℕ)) → cuts (cells front Cs) (length front) (running (length front) Cs) ≡ Cs
  cuts_all front [] = refl
  cuts_all front (C ∷ Cs) =
      ap (λ x. x ∷ cuts (cells front (C ∷ Cs)) (length front + length C) (running (length front + length C) Cs))
      (ap (λ xs. cut xs (length front) (length front + length C)) (grouped front C Cs) ∙ cut_here n front C (all_codes Cs ++ back)) ∙
      ap (λ xs. C ∷ xs)
      (
      ap (λ xs. cuts xs (length front + length C) (running (length front + length C) Cs)) (shift front C Cs) ∙
      ap (λ k. cuts (cells (front ++ C) Cs) k (running k Cs)) (sym (length-append front C)) ∙ cuts_all (front ++ C) Cs
      )

  fits_all : (front : List ℕ) (Cs : List (List ℕ)) → AllByRecursion (Clause n) Cs → fits n (cells front Cs) (length front) (running (length front) Cs) ≡ true
  fits_all front [] h = refl
  fits_all front (C ∷ Cs) h =
      and_from _ _
      (ap (λ xs. lies n xs (length front) (length front + length C)) (grouped front C Cs) ∙ lies_here n front C (all_codes Cs ++ back) h.0)
      (
      ap (λ xs. fits n xs (length front + length C) (running (length front + length C) Cs)) (shift front C Cs) ∙
      ap (λ k. fits n (cells (front ++ C) Cs) k (running k Cs)) (sym (length-append front C)) ∙ fits_all (front ++ C) Cs h.1
      )

-- cells that hold the codes and the running counts hold the clauses
pub clauses_held : (n m : ℕ) (literals ends : List ℕ) (Cs : List (List ℕ)) → AllByRecursion (Clause n) Cs → m ≡ length Cs → m ≤ length ends →
    literals ≡ padded (length literals) (all_codes Cs) → ends ≡ padded (length ends) (running 0 Cs) → clauses_in n m literals ends ≡ Cs
clauses_held n m literals ends Cs h count room codes_are ends_are =
    let front : take m ends ≡ running 0 Cs = ap (take m) ends_are ∙ take_at (running 0 Cs) _ m (length_running 0 Cs ∙ sym count) in
    cond-true (leb m (length ends) && fits n literals 0 (take m ends)) (cuts literals 0 (take m ends)) []
    (and_from (leb m (length ends)) (fits n literals 0 (take m ends)) (le-leb m (length ends) room)
    (ap (fits n literals 0) front ∙ ap (λ xs. fits n xs 0 (running 0 Cs)) codes_are ∙ fits_all n _ [] Cs h)) ∙
    ap (cuts literals 0) front ∙ ap (λ xs. cuts xs 0 (running 0 Cs)) codes_are ∙ cuts_all n _ [] Cs
