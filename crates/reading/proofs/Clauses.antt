-- Clauses behind the blocks: the state and the cells that stand for one literal more, or for one ended clause more.
use Rattle.std.proofs.Common.{◌≡◌, ℕ, ◌+◌, ◌*◌, ◌<◌, Bool, true, false, cond, List, [], ◌∷◌, ◌++◌, length, set, sym, refl, ap, ◌∙◌, subst, arith}
use Rattle.std.proofs.lemmas.List.{length-set}
use Rattle.std.proofs.lemmas.Bool.{ne_eqb}
use Rattle.std.proofs.lemmas.List.Sums.{sum_by-cons}
use Rattle.grammar.specs.Draft.{Block, Draft, matrix}
use Rattle.grammar.specs.Next.{Next, sort, size, is_letter, is_zero, code_of, after}
use Rattle.reading.specs.declared.state.Stage.TheVariants.{Matrix}
use Rattle.reading.specs.declared.state.State.{State}
use Rattle.reading.specs.Laid.{padded, running}
use Rattle.reading.specs.Stands.{Stands, stage_of, in_order}
use Rattle.reading.proofs.Stages.{in_matrix}
use Rattle.reading.proofs.Laying.{padded_push, length_in_order, length_running, codes_push, codes_count, codes_ended, ends_push}

-- the header and the prefix stay
pub record SamePrefix (s s' : State) : Type 0 where
  pub stage : s'.stage ≡ s.stage
  pub n : s'.n ≡ s.n
  pub m : s'.m ≡ s.m
  pub bindings : s'.bindings ≡ s.bindings
  pub latest_is : s'.latest ≡ s.latest

-- cells that hold xs and then zeros, with one number more
laid_more : (cells xs ys : List ℕ) (k x : ℕ) → cells ≡ padded (length cells) xs → k ≡ length xs → k < length cells → ys ≡ xs ++ (x ∷ []) →
    set cells k x ≡ padded (length (set cells k x)) ys
laid_more cells xs ys k x laid at within more =
    let long : length (set cells k x) ≡ length cells = length-set cells k x in
    ap (λ cs. set cs k x) laid ∙ ap (λ i. set (padded (length cells) xs) i x) at ∙ padded_push (length cells) xs x (subst (λ i. i < length cells) at within) ∙
    ap (λ zs. padded (length cells) zs) (sym more) ∙ ap (λ size. padded size ys) (sym long)

module _ (s s' : State) (ls es : List ℕ) (p : SamePrefix s s') (n m : ℕ) (bs : List Block) (Cs : List (List ℕ)) (C : List ℕ)
    (st : Stands (matrix n m bs Cs C) s ls es) where
  lengthened : (l : ℕ) → s.literals < length ls → s'.clauses ≡ s.clauses → s'.literals ≡ s.literals + 1 → s'.tail ≡ s.tail + 1 →
      Stands (matrix n m bs Cs (l ∷ C)) s' (set ls s.literals l) es
  lengthened l room clauses literals tail = record {
    stage = p.stage ∙ st.stage;
    n = p.n ∙ st.n;
    m = p.m ∙ st.m;
    levels = rw p.bindings st.levels;
    quantifiers = rw p.bindings st.quantifiers;
    blocks = rw p.latest_is st.blocks;
    latest = rw p.latest_is st.latest;
    clauses = clauses ∙ st.clauses;
    count = omega (arith, literals, st.count);
    open_count = omega (arith, tail, st.open_count);
    codes_laid = laid_more ls _ _ s.literals l st.codes_laid (st.count ∙ sym (codes_count Cs C)) room (codes_push Cs l C);
    ends_laid = st.ends_laid;
  }

  ended : s.clauses < length es → s'.clauses ≡ s.clauses + 1 → s'.literals ≡ s.literals → s'.tail ≡ 0 →
      Stands (matrix n m bs (C ∷ Cs) []) s' ls (set es s.clauses s.literals)
  ended room clauses literals tail = record {
    stage = p.stage ∙ st.stage;
    n = p.n ∙ st.n;
    m = p.m ∙ st.m;
    levels = rw p.bindings st.levels;
    quantifiers = rw p.bindings st.quantifiers;
    blocks = rw p.latest_is st.blocks;
    latest = rw p.latest_is st.latest;
    clauses = omega (arith, clauses, st.clauses);
    count = omega (arith, literals, st.count, sum_by-cons length C Cs);
    open_count = tail;
    codes_laid = st.codes_laid ∙ ap (λ xs. padded (length ls) xs) (sym (codes_ended C Cs));
    ends_laid =
        laid_more es _ _ s.clauses s.literals st.ends_laid (st.clauses ∙ sym (length_running 0 (in_order Cs) ∙ length_in_order Cs)) room
        (ends_push C Cs ∙ ap (λ x. running 0 (in_order Cs) ++ (x ∷ [])) (sym st.count));
  }

-- t is a number other than 0, and stands for the literal with the code l
pub record SaysLiteral (t : Next) (l : ℕ) : Type 0 where
  pub no_letter : is_letter t ≡ false
  pub no_zero : is_zero t ≡ false
  pub code : l ≡ code_of t

pub says_literal : (t : Next) (l v : ℕ) (negated : Bool) → sort t ≡ cond negated 5 4 → size t ≡ v → (v ≡ 0 → ⊥) → l ≡ cond negated (2 * v + 1) (2 * v) →
    SaysLiteral t l
says_literal t l v true e is some code = record { no_letter = rw e refl; no_zero = rw e refl; code = rw (e, is) code }
says_literal t l v false e is some code = record { no_letter = rw e refl; no_zero = rw (e, is) (ne_eqb v 0 some); code = rw (e, is) code }

module _ (s s' : State) (ls es : List ℕ) (p : SamePrefix s s') (t : Next) (d : Draft) (at : Matrix ≡ stage_of d) where
  pub with_literal : (l : ℕ) → SaysLiteral t l → s.literals < length ls →
      s'.clauses ≡ s.clauses → s'.literals ≡ s.literals + 1 → s'.tail ≡ s.tail + 1 →
      Stands d s ls es → Stands (after d t) s' (set ls s.literals l) es
  with_literal l says room clauses literals tail =
      in_matrix (λ d. Stands d s ls es → Stands (after d t) s' (set ls s.literals l) es)
      (λ n m bs Cs C st. rw (says.no_letter, says.no_zero, ← says.code) (lengthened s s' ls es p n m bs Cs C st l room clauses literals tail)) d at

  pub with_end : sort t ≡ 4 → size t ≡ 0 → s.clauses < length es →
      s'.clauses ≡ s.clauses + 1 → s'.literals ≡ s.literals → s'.tail ≡ 0 →
      Stands d s ls es → Stands (after d t) s' ls (set es s.clauses s.literals)
  with_end natural none room clauses literals tail =
      in_matrix (λ d. Stands d s ls es → Stands (after d t) s' ls (set es s.clauses s.literals))
      (λ n m bs Cs C st. rw (natural, none) (ended s s' ls es p n m bs Cs C st room clauses literals tail)) d at
