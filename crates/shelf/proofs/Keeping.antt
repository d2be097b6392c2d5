-- What a shelf answers is determined: keeping by the test for room, looking by the number of the line.
use Rattle.std.proofs.Common.{◌≡◌, ℕ, ◌≤◌, true, false, cond, ltb, List, [], ◌∷◌, ◌++◌, length, take, drop, Ok, Err, Result, sym, ap, ◌∙◌, subst, ⊎_elim}
use Rattle.std.proofs.lemmas.Bool.{cond-true, cond-false, cases_Bool, lt-ltb, le-ltb, cases_lt}
use Rattle.std.proofs.lemmas.List.{take_at, get_or_past}
use Rattle.laws.specs.Derivations.{line_of}
use Rattle.laws.specs.Store.{Room}
use Rattle.laws.specs.Claims.{room}
use Rattle.laws.proofs.Deciding.{room_is}
use Rattle.laws.proofs.Formedness.{all_in}
use Rattle.laws.proofs.Sets.{get_or_in}
use Rattle.shelf.specs.Proper.{Proper}
use Rattle.shelf.specs.Shelved.{Shelved, Sound, holding, Keeps, Looks}
use Rattle.shelf.specs.declared.fault.ShelfFault.{ShelfFault}
use Rattle.shelf.specs.declared.fault.ShelfFault.TheVariants.{Absent, Full}
use Rattle.shelf.proofs.Climbing.{climbs_proper, proper_short}

module _ (s : Shelved) (C : List ℕ) where
  no_room : (Room s.store s.kept C → ⊥) → room s.store s.kept C ≡ false
  no_room n = ⊎_elim (λ e. absurd (n ((room_is s.store s.kept C).0 e))) (λ e. e) (cases_Bool (room s.store s.kept C))

  -- what is answered, and what the shelf holds then
  pub keeps_is :
      (r : Result ℕ ShelfFault) (t : Shelved) → Keeps s C r t →
      (r ≡ cond (room s.store s.kept C) (Ok (length s.kept)) (Err Full)) ×
      (t ≡ cond (room s.store s.kept C) (holding s (s.kept ++ (C ∷ []))) s)
  keeps_is (Ok p) t (here, e, f) =
      let b : room s.store s.kept C ≡ true = (room_is s.store s.kept C).1 here in
      (ap Ok e ∙ sym (cond-true _ _ _ b), f ∙ sym (cond-true _ _ _ b))
  keeps_is (Err x) t (none, e, f) =
      let b : room s.store s.kept C ≡ false = no_room none in (ap Err e ∙ sym (cond-false _ _ _ b), f ∙ sym (cond-false _ _ _ b))

  -- keeping a clause ends in one way
  pub keeps_one : (r r' : Result ℕ ShelfFault) (t t' : Shelved) → Keeps s C r t → Keeps s C r' t' → (r ≡ r') × (t ≡ t')
  keeps_one r r' t t' k k' = ((keeps_is r t k).0 ∙ sym (keeps_is r' t' k').0, (keeps_is r t k).1 ∙ sym (keeps_is r' t' k').1)

module _ (s : Shelved) (p : ℕ) where
  -- what is answered, and what the place holds then
  pub looks_is :
      (r : Result ℕ ShelfFault) (place copied : List ℕ) → Looks s p r place copied →
      (r ≡ cond (ltb p (length s.kept)) (Ok (length (line_of s.kept p))) (Err Absent)) ×
      (copied ≡ cond (ltb p (length s.kept)) (line_of s.kept p ++ drop (length (line_of s.kept p)) place) place)
  looks_is (Ok k) place copied (here, e, f) =
      let b : ltb p (length s.kept) ≡ true = lt-ltb p (length s.kept) here in
      (ap Ok e ∙ sym (cond-true _ _ _ b), f ∙ (ap (λ n. line_of s.kept p ++ drop n place) e ∙ sym (cond-true _ _ _ b)))
  looks_is (Err x) place copied (none, e, f) =
      let b : ltb p (length s.kept) ≡ false = le-ltb p (length s.kept) none in (ap Err e ∙ sym (cond-false _ _ _ b), f ∙ sym (cond-false _ _ _ b))

  -- looking at a line ends in one way
  pub looks_one :
      (r r' : Result ℕ ShelfFault) (place copied copied' : List ℕ) → Looks s p r place copied → Looks s p r' place copied' → (r ≡ r') × (copied ≡ copied')
  looks_one r r' place copied copied' k k' =
      ((looks_is r place copied k).0 ∙ sym (looks_is r' place copied' k').0, (looks_is r place copied k).1 ∙ sym (looks_is r' place copied' k').1)

  -- the line's clause stands at the front of the place
  pub looked_front : (k : ℕ) (place copied : List ℕ) → Looks s p (Ok k) place copied → take k copied ≡ line_of s.kept p
  looked_front k place copied (here, e, f) = ap (take k) f ∙ take_at (line_of s.kept p) (drop k place) k (sym e)

  -- a line is a clause, the empty one where it is not kept
  pub line_proper : Sound s → Proper (line_of s.kept p)
  line_proper sound =
      ⊎_elim (λ lt. all_in Proper s.kept (line_of s.kept p) sound.proper (get_or_in s.kept p [] lt))
      (λ le. subst Proper (sym (get_or_past s.kept p [] le)) (climbs_proper [] tt)) (cases_lt p (length s.kept))

  -- so it has 512 literals at most
  pub line_short : Sound s → length (line_of s.kept p) ≤ 512
  line_short sound = proper_short (line_of s.kept p) (line_proper sound)
