-- A lawful draft of some words is a lawful draft of all but the last, and that word, which breaks no rule.
use Rattle.std.proofs.Common.{◌≡◌, ℕ, false, ◌&&◌, eqb, ltb, leb, ◌⊎◌, List, [], ◌∷◌, length, Some, None, sym, refl, ap, ◌∙◌, subst, inl, inr, ⊎_elim, arith}
use Rattle.std.proofs.lemmas.List.Sums.{sum_by-cons}
use Rattle.std.proofs.lemmas.Bool.{cases_eq, cond-false, or_from, or_left, or_right, and_from, and_right, eq-eqb, ne_eqb, not_from_true, le-ltb, le-leb, lt-leb}
use Rattle.words.specs.declared.token.Token.{Token}
use Rattle.words.specs.declared.token.Token.TheVariants.{Problem, Cnf, Exists, Forall, Number}
use Rattle.grammar.specs.Draft.{Block, Draft, nothing, problem, format, sized, binding, matrix, literal_word}
use Rattle.grammar.specs.Lawful.{Sizes, Header, latest, Opens, Blocks, literal_count, Clauses, Lawful}
use Rattle.grammar.specs.Next.{Next, sort, size, is_end, is_letter, is_natural, is_number, is_zero, after}
use Rattle.grammar.specs.Fault.{unbegun, unbound, in_clause, fault}
use Rattle.grammar.proofs.Sorts.{number_no_letter, literal_number, literal_size, literal_code}
use Rattle.grammar.proofs.Steps.{Clean, unbroken, none_unbound, not_end, fresh}

-- the draft e is a lawful one with one word more, which breaks no rule
pub record Last (S : Sizes) (e : Draft) : Type 0 where
  pub draft : Draft
  pub word : Token
  pub lawful : Lawful S draft
  pub follows : fault S draft (Some word) ≡ None
  pub makes : after draft (Some word) ≡ e

last_sized : (S : Sizes) (n : ℕ) → Lawful S (sized n) → Last S (sized n)
last_sized S n h = record {
  draft = format;
  word = Number n;
  lawful = tt;
  follows = unbroken S format (Some (Number n)) (record {
    spelling = refl;
    header = refl;
    size = not_from_true _ (and_from (leb 1 n) (leb n 512) (le-leb 1 n h.0) (le-leb n 512 h.1));
    binds = refl;
    tally = refl;
  });
  makes = refl;
}

-- a header
last_header : (S : Sizes) (n m : ℕ) → Header S n m → Last S (matrix n m [] [] [])
last_header S n m h = record {
  draft = sized n;
  word = Number m;
  lawful = (h.0, h.1);
  follows = unbroken S (sized n) (Some (Number m)) (record {
    spelling = refl;
    header = refl;
    size = not_from_true _ (and_from (leb m 2048) (leb m S.ends) (le-leb m 2048 h.2) (le-leb m S.ends h.3));
    binds = refl;
    tally = refl;
  });
  makes = refl;
}

-- a block that has ended
last_block : (S : Sizes) (n m : ℕ) (b : Block) (bs : List Block) → Header S n m → Blocks n (b ∷ bs) → Last S (matrix n m (b ∷ bs) [] [])
last_block S n m b bs h k = record {
  draft = binding n m bs b;
  word = Number 0;
  lawful = (h, k.0, k.1);
  follows = unbroken S (binding n m bs b) (Some (Number 0)) (record {
    spelling = refl;
    header = refl;
    size = refl;
    binds = ne_eqb (length b.variables) 0 (λ z. omega (arith, z, k.2));
    tally = refl;
  });
  makes = refl;
}

-- a block that has begun: its letter
module _ (S : Sizes) (n m : ℕ) (bs : List Block) (h : Header S n m) (k : Blocks n bs) where
  letter_follows : (t : Token) → sort (Some t) ≡ 3 → (size (Some t) ≡ latest bs → ⊥) → Clean S (matrix n m bs [] []) (Some t)
  letter_follows t e turns = record {
    spelling = rw e;
    header = refl;
    size = rw e;
    binds = rw e (or_from (eqb (size (Some t)) (latest bs)) false (ne_eqb (size (Some t)) (latest bs) turns) refl);
    tally = rw e;
  }

  by_letter : (t : Token) → sort (Some t) ≡ 3 → (size (Some t) ≡ latest bs → ⊥) → Last S (binding n m bs (record { quantifier = size (Some t); variables = [] }))
  by_letter t e turns = record {
    draft = matrix n m bs [] [];
    word = t;
    lawful = (h, k, fresh S n m bs);
    follows = unbroken S (matrix n m bs [] []) (Some t) (letter_follows t e turns);
    makes = rw e;
  }

  last_letter : (q : ℕ) → Opens n bs (record { quantifier = q; variables = [] }) → Last S (binding n m bs (record { quantifier = q; variables = [] }))
  last_letter q o = ⊎_elim
      (λ e. at_kind e Exists refl refl)
      (λ ne. at_kind (omega (arith, ne, o.low, o.high)) Forall refl refl)
      (cases_eq q 1)
    where
      at_kind : {j : ℕ} → q ≡ j → (t : Token) → sort (Some t) ≡ 3 → size (Some t) ≡ j → Last S (binding n m bs (record { quantifier = q; variables = [] }))
      at_kind e t s z =
          let same = z ∙ sym e in
          subst (λ x. Last S (binding n m bs (record { quantifier = x; variables = [] }))) same (by_letter t s (λ r. o.turns (sym same ∙ r)))

-- a block with some variables
last_variable :
    (S : Sizes) (n m : ℕ) (bs : List Block) (q v : ℕ) (vs : List ℕ) → Header S n m → Blocks n bs → Opens n bs (record { quantifier = q; variables = v ∷ vs }) →
    Last S (binding n m bs (record { quantifier = q; variables = v ∷ vs }))
last_variable S n m bs q v vs h k o =
    let nonzero = ne_eqb v 0 (λ z. omega (arith, z, o.binds.1.0)) in
    record {
      draft = binding n m bs (record { quantifier = q; variables = vs });
      word = Number v;
      lawful = (h, k, record { low = o.low; high = o.high; turns = o.turns; binds = o.binds.0 });
      follows = unbroken S (binding n m bs (record { quantifier = q; variables = vs })) (Some (Number v)) (record {
        spelling = refl;
        header = refl;
        size = refl;
        binds = cond-false (eqb v 0) _ _ nonzero ∙ or_from (ltb n v) _ (le-ltb n v o.binds.1.1) (not_from_true _ (eq-eqb _ 0 o.binds.2));
        tally = refl;
      });
      makes = cond-false (eqb v 0) _ _ nonzero;
    }

-- a clause that has ended
last_clause :
    (S : Sizes) (n m : ℕ) (bs : List Block) (C : List ℕ) (Cs : List (List ℕ)) → Header S n m → Blocks n bs → Clauses S n m bs (C ∷ Cs) [] →
    Last S (matrix n m bs (C ∷ Cs) [])
last_clause S n m bs C Cs h k c =
    let bound = c.bound (omega arith) in
    record {
      draft = matrix n m bs Cs C;
      word = Number 0;
      lawful = (
        h,
        k,
        record {
          bound = λ _. bound;
          ended = c.ended.1;
          open_clause = c.ended.0;
          few = omega (arith, c.few);
          one_more = λ _. omega (arith, c.few);
          short = omega (arith, sum_by-cons length C Cs, c.short);
          fits = omega (arith, sum_by-cons length C Cs, c.fits);
        },
      );
      follows = unbroken S (matrix n m bs Cs C) (Some (Number 0)) (record {
        spelling = refl;
        header = refl;
        size = refl;
        binds = or_from (unbegun Cs C && unbound bs n) false (and_right (unbegun Cs C) (unbound bs n) (none_unbound bs n bound)) refl;
        tally = lt-leb m (length Cs) (omega (arith, c.few));
      });
      makes = refl;
    }

-- a clause with some literals
last_literal :
    (S : Sizes) (n m : ℕ) (bs : List Block) (Cs : List (List ℕ)) (l : ℕ) (C : List ℕ) → Header S n m → Blocks n bs → Clauses S n m bs Cs (l ∷ C) →
    Last S (matrix n m bs Cs (l ∷ C))
last_literal S n m bs Cs l C h k c =
    let t : Next = Some (literal_word l) in
    let code = c.open_clause.1.0 in
    let bound = c.bound (omega arith) in
    let last_one = c.one_more (omega arith) in
    let number = literal_number l code.0 in
    let no_letter = number_no_letter t number in
    let variable = literal_size l in
    let nonzero : eqb (size t) 0 ≡ false = ne_eqb (size t) 0 (λ z. omega (arith, z, variable, code.0)) in
    record {
      draft = matrix n m bs Cs C;
      word = literal_word l;
      lawful = (
        h,
        k,
        record {
          bound = λ _. bound;
          ended = c.ended;
          open_clause = (omega (arith, c.open_clause.0), c.open_clause.1.1);
          few = c.few;
          one_more = λ _. last_one;
          short = omega (arith, c.short);
          fits = omega (arith, c.fits);
        },
      );
      follows = unbroken S (matrix n m bs Cs C) t (record {
        spelling = not_from_true _ (or_right (is_end t) _ (or_left (is_number t) _ number));
        header = refl;
        size = and_right (in_clause m Cs t) _
            (or_from (leb 1024 (length C)) _ (lt-leb 1024 (length C) (omega (arith, c.open_clause.0)))
            (or_from (leb 16384 (literal_count Cs C)) (leb S.cells (literal_count Cs C))
            (lt-leb 16384 (literal_count Cs C) (omega (arith, c.short))) (lt-leb S.cells (literal_count Cs C) (omega (arith, c.fits)))));
        binds = or_from _ _
            (and_right (unbegun Cs C) _ (cond-false (is_letter t) _ _ no_letter ∙ none_unbound bs n bound))
            (and_right (in_clause m Cs t) (ltb n (size t)) (le-ltb n (size t) (omega (arith, variable, code.1))));
        tally = cond-false (is_end t) _ _ (not_end (literal_word l)) ∙ and_right (is_number t) _ (lt-leb m (length Cs) last_one);
      });
      makes = cond-false (is_letter t) _ _ no_letter ∙ cond-false (is_zero t) _ _ (and_right (is_natural t) (eqb (size t) 0) nonzero) ∙ ap (λ x. matrix n m bs Cs (x ∷ C)) (literal_code l code.0);
    }

-- every lawful draft but the first has a last word
pub last : (S : Sizes) (e : Draft) → Lawful S e → (e ≡ nothing) ⊎ Last S e
last S nothing h = inl refl
last S problem h = inr (record { draft = nothing; word = Problem; lawful = tt; follows = refl; makes = refl })
last S format h = inr (record { draft = problem; word = Cnf; lawful = tt; follows = refl; makes = refl })
last S (sized n) h = inr (last_sized S n h)
last S (binding n m bs b) h = inr (in_block b.quantifier b.variables h.2)
  where
    in_block : (q : ℕ) (vs : List ℕ) → Opens n bs (record { quantifier = q; variables = vs }) → Last S (binding n m bs (record { quantifier = q; variables = vs }))
    in_block q [] o = last_letter S n m bs h.0 h.1 q o
    in_block q (v ∷ vs) o = last_variable S n m bs q v vs h.0 h.1 o
last S (matrix n m [] [] []) h = inr (last_header S n m h.0)
last S (matrix n m (b ∷ bs) [] []) h = inr (last_block S n m b bs h.0 h.1)
last S (matrix n m bs (C ∷ Cs) []) h = inr (last_clause S n m bs C Cs h.0 h.1 h.2)
last S (matrix n m bs Cs (l ∷ C)) h = inr (last_literal S n m bs Cs l C h.0 h.1 h.2)
