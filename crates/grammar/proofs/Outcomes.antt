-- Every text comes to one outcome.
use Rattle.std.proofs.Common.{◌≡◌, ℕ, ◌+◌, true, false, ◌&&◌, eqb, List, [], ◌∷◌, ◌++◌, map, length, Some, None, Option, sym, refl, ap, ◌∙◌, subst, ⊎_elim, append_assoc, append-nil, arith}
use Rattle.std.proofs.lemmas.List.{nil_from_length, map-append}
use Rattle.std.proofs.lemmas.Bool.{or_from, or_parts, and_from, and_cases, and_parts, and_right, not-false, not_from_true, eqb-true, eqb-false, eq-eqb, true≢false}
use Rattle.words.specs.declared.token.Lexeme.{Lexeme}
use Rattle.words.specs.Tokens.{token_of}
use Rattle.words.specs.Words.{lexemes}
use Rattle.calculus.specs.Meaning.{Meaning}
use Rattle.words.proofs.Spacing.{tokens_spelled}
use Rattle.grammar.specs.declared.rule.Rule.{Rule}
use Rattle.grammar.specs.Draft.{Block, Draft, nothing, problem, format, sized, binding, matrix, spell, formula_of}
use Rattle.grammar.specs.Lawful.{Sizes, AllBound, Lawful}
use Rattle.grammar.specs.Next.{after}
use Rattle.grammar.specs.Fault.{unbegun, unbound, fault}
use Rattle.grammar.specs.Outcome.{tokens, Reads, next_of, place_of, Outcome, formula, refused, ComesTo}
use Rattle.grammar.specs.Theorems.{OneOutcome, WordsDecide}
use Rattle.grammar.proofs.Steps.{rules_kept, unbroken, all_bound, none_unbound, step}
use Rattle.grammar.proofs.Walks.{walk, Walks, reached}

-- at the end of a draft with all its clauses, in which every variable is bound, no rule is broken
pub complete_unbroken : (S : Sizes) (n : ℕ) (bs : List Block) (Cs : List (List ℕ)) → AllBound n bs → fault S (matrix n (length Cs) bs Cs []) None ≡ None
complete_unbroken S n bs Cs bound = unbroken S (matrix n (length Cs) bs Cs []) None (record {
  spelling = refl;
  header = refl;
  size = refl;
  binds = or_from (unbegun Cs [] && unbound bs n) false (and_right (unbegun Cs []) (unbound bs n) (none_unbound bs n bound)) refl;
  tally = not_from_true _ (and_from (eqb (length Cs) (length Cs)) true (eq-eqb (length Cs) (length Cs) refl) refl);
})

-- the formula of a draft with all its clauses
abbrev pub meaning_of : Draft → Meaning
meaning_of nothing = formula_of 0 [] []
meaning_of problem = formula_of 0 [] []
meaning_of format = formula_of 0 [] []
meaning_of (sized n) = formula_of 0 [] []
meaning_of (binding n m bs b) = formula_of 0 [] []
meaning_of (matrix n m bs Cs C) = formula_of n bs Cs

-- a text that may end where it ends is a formula
pub read_whole : (S : Sizes) (text : List ℕ) (d : Draft) → Lawful S d → tokens (lexemes text) ≡ spell d → fault S d None ≡ None → Reads S text (meaning_of d)
read_whole S text nothing h e f = absurd (true≢false (rules_kept S nothing None f).header)
read_whole S text problem h e f = absurd (true≢false (rules_kept S problem None f).header)
read_whole S text format h e f = absurd (true≢false (rules_kept S format None f).header)
read_whole S text (sized n) h e f = absurd (true≢false (rules_kept S (sized n) None f).header)
read_whole S text (binding n m bs b) h e f = absurd (true≢false (rules_kept S (binding n m bs b) None f).tally)
read_whole S text (matrix n m bs Cs C) h e f =
    let c = rules_kept S (matrix n m bs Cs C) None f in
    let all = and_parts (eqb (length Cs) m) (eqb (length C) 0) (not-false _ c.tally) in
    let none_open = nil_from_length C (eqb-true (length C) 0 all.1) in
    let same : matrix n m bs Cs C ≡ matrix n (length Cs) bs Cs [] =
    ap (λ x. matrix n x bs Cs C) (sym (eqb-true (length Cs) m all.0)) ∙ ap (λ x. matrix n (length Cs) bs Cs x) none_open in
    record {
      n = n;
      blocks = bs;
      clauses = Cs;
      lawful = subst (Lawful S) same h;
      bound = ⊎_elim
          (λ begun. h.2.bound (omega (arith, eqb-false (length Cs + length C) 0 begun)))
          (λ u. all_bound bs n u)
          (and_cases (unbegun Cs C) (unbound bs n) (or_parts _ _ c.binds).0);
      spells = e ∙ ap spell same;
      formula = refl;
    }

-- a fault at the offset at, or what else the text comes to
abbrev verdict : Option Rule → ℕ → Outcome → Outcome
verdict (Some r) at o = refused r at
verdict None at o = o

by_verdict : (P : Outcome → Type 0) (f : Option Rule) (at : ℕ) (o : Outcome) → ((r : Rule) → f ≡ Some r → P (refused r at)) → (f ≡ None → P o) → P (verdict f at o)
by_verdict P (Some r) at o g h = g r refl
by_verdict P None at o g h = h refl

-- what a text comes to, with the draft d read and the words ls to come
abbrev pub outcome : Sizes → List ℕ → Draft → List Lexeme → Outcome
outcome S text d [] = verdict (fault S d None) (length text) (formula (meaning_of d))
outcome S text d (l ∷ ls) = verdict (fault S d (Some l.token)) l.place (outcome S text (after d (Some l.token)) ls)

-- the text does come to that
comes_to :
    (S : Sizes) (text : List ℕ) (d : Draft) (before behind : List Lexeme) → lexemes text ≡ before ++ behind → Lawful S d → tokens before ≡ spell d →
    ComesTo S text (outcome S text d behind)
comes_to S text d before [] parts h e =
    by_verdict (ComesTo S text) (fault S d None) (length text) (formula (meaning_of d))
    (λ r f. record { draft = d; before = before; behind = []; parts = parts; lawful = h; spells = e; breaks = f; place = refl })
    (λ f. read_whole S text d h (ap tokens (parts ∙ append-nil before) ∙ e) f)
comes_to S text d before (l ∷ ls) parts h e =
    by_verdict (ComesTo S text) (fault S d (Some l.token)) l.place (outcome S text (after d (Some l.token)) ls)
    (λ r f. record { draft = d; before = before; behind = l ∷ ls; parts = parts; lawful = h; spells = e; breaks = f; place = refl })
    (λ f. let s = step S d l.token h f in
    comes_to S text (after d (Some l.token)) (before ++ (l ∷ [])) ls (parts ∙ sym (append_assoc before (l ∷ []) ls)) s.0
    (map-append _ before (l ∷ []) ∙ ap (λ x. x ++ (l.token ∷ [])) e ∙ sym s.1))

-- words that break no rule are read
pub read_on :
    (S : Sizes) (text : List ℕ) (d : Draft) (before behind : List Lexeme) → Walks S d (tokens before) →
    outcome S text d (before ++ behind) ≡ outcome S text (walk d (tokens before)) behind
read_on S text d [] behind h = refl
read_on S text d (l ∷ ls) behind h =
    ap (λ f. verdict f l.place (outcome S text (after d (Some l.token)) (ls ++ behind))) h.0 ∙ read_on S text (after d (Some l.token)) ls behind h.1

-- the words of a lawful draft are read
from_draft :
    (S : Sizes) (text : List ℕ) (d : Draft) (before behind : List Lexeme) → lexemes text ≡ before ++ behind → Lawful S d → tokens before ≡ spell d →
    outcome S text nothing (lexemes text) ≡ outcome S text d behind
from_draft S text d before behind parts h e =
    let r = reached S d h in
    ap (outcome S text nothing) parts ∙ read_on S text nothing before behind (subst (Walks S nothing) (sym e) r.0) ∙
    ap (λ x. outcome S text x behind) (ap (walk nothing) e ∙ r.1)

-- where what comes next breaks a rule, the text is refused there
at_fault : (S : Sizes) (text : List ℕ) (d : Draft) (r : Rule) (behind : List Lexeme) → fault S d (next_of behind) ≡ Some r → outcome S text d behind ≡ refused r (place_of text behind)
at_fault S text d r [] f = ap (λ x. verdict x (length text) (formula (meaning_of d))) f
at_fault S text d r (l ∷ ls) f = ap (λ x. verdict x l.place (outcome S text (after d (Some l.token)) ls)) f

-- and to nothing else
pub only : (S : Sizes) (text : List ℕ) (o : Outcome) → ComesTo S text o → o ≡ outcome S text nothing (lexemes text)
only S text (formula m) r =
    ap formula r.formula ∙
    sym (from_draft S text (matrix r.n (length r.clauses) r.blocks r.clauses []) (lexemes text) [] (sym (append-nil (lexemes text))) r.lawful r.spells ∙
    ap (λ x. verdict x (length text) (formula (formula_of r.n r.blocks r.clauses))) (complete_unbroken S r.n r.blocks r.clauses r.bound))
only S text (refused rule at) r =
    ap (refused rule) r.place ∙
    sym (from_draft S text r.draft r.before r.behind r.parts r.lawful r.spells ∙ at_fault S text r.draft rule r.behind r.breaks)

pub one_outcome : OneOutcome
one_outcome S text = (outcome S text nothing (lexemes text), comes_to S text nothing [] (lexemes text) refl tt refl, only S text)

pub words_decide : WordsDecide
words_decide S text other e m r = record {
  n = r.n;
  blocks = r.blocks;
  clauses = r.clauses;
  lawful = r.lawful;
  bound = r.bound;
  spells = tokens_spelled other ∙ ap (map token_of) (sym e) ∙ sym (tokens_spelled text) ∙ r.spells;
  formula = r.formula;
}
