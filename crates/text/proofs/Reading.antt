-- Reading on, word by word, from the first word to the formula.
use Rattle.std.proofs.Common.{◌≡◌, ℕ, ◌+◌, ◌≤◌, eqb, List, [], ◌∷◌, ◌++◌, map, length, get_or, take, Some, None, Ok, Err, Option, sym, refl, ap, ◌∙◌, subst, arith}
use Rattle.std.specs.List.{range_with_len}
use Rattle.std.proofs.lemmas.List.{append_assoc, append-nil, map-append, get_or-take, length-map, length-take-le}
use Rattle.std.proofs.lemmas.Bool.{and_parts, not-false, eqb-true}
use Rattle.std.proofs.lemmas.List.FromFn.{fill_by_all}
use Rattle.words.specs.declared.token.Lexeme.{Lexeme}
use Rattle.words.specs.Words.{lexemes}
use Rattle.calculus.specs.Meaning.{Meaning, Prefix}
use Rattle.grammar.specs.declared.rule.Rule.{Rule}
use Rattle.grammar.specs.declared.rule.TextFault.{TextFault}
use Rattle.grammar.specs.Draft.{Block, Draft, nothing, problem, format, sized, binding, matrix, level_in, quantifier_in, formula_of}
use Rattle.grammar.specs.Lawful.{Sizes, Lawful}
use Rattle.grammar.specs.Next.{after}
use Rattle.grammar.specs.Fault.{fault}
use Rattle.grammar.specs.Outcome.{tokens, Reads, Faults}
use Rattle.grammar.proofs.Formedness.{reads_formed}
use Rattle.grammar.proofs.Outcomes.{meaning_of, read_whole}
use Rattle.grammar.proofs.Steps.{rules_kept, step}
use Rattle.reading.specs.declared.state.State.{State}
use Rattle.reading.specs.declared.binding.Binding.{Binding}
use Rattle.reading.specs.Bindings.{levels_of, quantifiers_of}
use Rattle.reading.specs.Laid.{padded, all_codes, running}
use Rattle.reading.specs.Stands.{Stands, in_order, ended, sizes}
use Rattle.reading.proofs.Laying.{length_in_order}
use Rattle.text.specs.Cells.{clauses_in}
use Rattle.text.specs.Going.{Going}
use Rattle.text.proofs.Cutting.{clauses_held}

pub starts : (text : List ℕ) (left : List Lexeme) (s : State) (ls es : List ℕ) → left ≡ lexemes text → Stands nothing s ls es → Going text left s ls es
starts text left s ls es all stands = record { draft = nothing; before = []; parts = sym all; lawful = tt; spells = refl; stands = stands }

-- one word more
pub goes_on : (text : List ℕ) (left left' : List Lexeme) (s s' : State) (ls es ls' es' : List ℕ) (l : Lexeme) (g : Going text left s ls es) →
    left ≡ l ∷ left' → length ls' ≡ length ls → length es' ≡ length es →
    fault (sizes ls es) g.draft (Some l.token) ≡ None → Stands (after g.draft (Some l.token)) s' ls' es' → Going text left' s' ls' es'
goes_on text left left' s s' ls es ls' es' l g next long long' kept stands =
    let more = step (sizes ls es) g.draft l.token g.lawful kept in
    let same : sizes ls es ≡ sizes ls' es' = cc in
    record {
      draft = after g.draft (Some l.token);
      before = g.before ++ (l ∷ []);
      parts = g.parts ∙ ap (λ ms. g.before ++ ms) next ∙ sym (append_assoc g.before (l ∷ []) left');
      lawful = subst (λ S. Lawful S (after g.draft (Some l.token))) same more.0;
      spells = map-append _ g.before (l ∷ []) ∙ ap (λ ts. ts ++ (l.token ∷ [])) g.spells ∙ sym more.1;
      stands = stands;
    }

-- the end of the text breaks a rule
pub stops : (text : List ℕ) (left : List Lexeme) (s : State) (ls es : List ℕ) (g : Going text left s ls es) → left ≡ [] →
    (rule : Rule) → fault (sizes ls es) g.draft None ≡ Some rule → (f : TextFault) → f ≡ record { rule = rule; byte = length text } →
    Faults (sizes ls es) text f.rule f.byte
stops text left s ls es g none rule breaks f is =
    rw is
    (record {
      draft = g.draft;
      before = g.before;
      behind = [];
      parts = g.parts ∙ ap (λ ms. g.before ++ ms) none;
      lawful = g.lawful;
      spells = g.spells;
      breaks = breaks;
      place = refl;
    })

-- the front of a table of levels or quantifiers is the list that the blocks give
front_is : (xs : List ℕ) (f : ℕ → ℕ) (n : ℕ) → n + 1 ≤ length xs → ((v : ℕ) → get_or xs v 0 ≡ f v) → take (n + 1) xs ≡ map f (range_with_len 0 (n + 1))
front_is xs f n long same =
    fill_by_all f (take (n + 1) xs) (n + 1) 0 (length-take-le (n + 1) xs long) (λ v h. get_or-take (n + 1) xs v 0 h ∙ same v)

same_meaning : {n n' : ℕ} {levels levels' quantifiers quantifiers' : List ℕ} {clauses clauses' : List (List ℕ)} →
    n ≡ n' → levels ≡ levels' → quantifiers ≡ quantifiers' → clauses ≡ clauses' →
    ◌≡◌ {A = Meaning} (record { n = n; levels = levels; quantifiers = quantifiers; clauses = clauses })
    (record { n = n'; levels = levels'; quantifiers = quantifiers'; clauses = clauses' })
same_meaning a b c d i = record { n = a i; levels = b i; quantifiers = c i; clauses = d i }

-- a state whose text ends there holds its formula, and so do the cells
pub record Held (m : Meaning) (s : State) (ls es : List ℕ) : Type 0 where
  pub prefix : Prefix s.n (take (s.n + 1) (levels_of s.bindings)) (take (s.n + 1) (quantifiers_of s.bindings))
  pub held : (record {
    n = s.n;
    levels = take (s.n + 1) (levels_of s.bindings);
    quantifiers = take (s.n + 1) (quantifiers_of s.bindings);
    clauses = clauses_in s.n s.m ls es;
  }) ≡ m
  pub codes : ls ≡ padded (length ls) (all_codes m.clauses)
  pub counts : es ≡ padded (length es) (running 0 m.clauses)

complete : (S : Sizes) (n m : ℕ) (bs : List Block) (Cs : List (List ℕ)) (C : List ℕ) → fault S (matrix n m bs Cs C) None ≡ None → (length Cs ≡ m) × (length C ≡ 0)
complete S n m bs Cs C f =
    let all = and_parts (eqb (length Cs) m) (eqb (length C) 0) (not-false _ (rules_kept S (matrix n m bs Cs C) None f).tally) in
    (eqb-true (length Cs) m all.0, eqb-true (length C) 0 all.1)

module _ (text : List ℕ) (s : State) (ls es : List ℕ) where
  holds_matrix : (n m : ℕ) (bs : List Block) (Cs : List (List ℕ)) → length Cs ≡ m → Lawful (sizes ls es) (matrix n m bs Cs []) → Stands (matrix n m bs Cs []) s ls es →
      Reads (sizes ls es) text (formula_of n bs Cs) → Held (formula_of n bs Cs) s ls es
  holds_matrix n m bs Cs all lawful st reads =
      let formed = reads_formed (sizes ls es) text (formula_of n bs Cs) reads in
      let long : (read : Binding → ℕ) → n + 1 ≤ length (map read s.bindings) = λ read. simp length-map (omega (arith, lawful.0.1, s.bounded)) in
      let levels : take (s.n + 1) (levels_of s.bindings) ≡ map (level_in bs) (range_with_len 0 (n + 1)) =
      ap (λ k. take (k + 1) (levels_of s.bindings)) st.n ∙ front_is (levels_of s.bindings) (level_in bs) n (long (λ b. b.level)) st.levels in
      let quantifiers : take (s.n + 1) (quantifiers_of s.bindings) ≡ map (quantifier_in bs) (range_with_len 0 (n + 1)) =
      ap (λ k. take (k + 1) (quantifiers_of s.bindings)) st.n ∙ front_is (quantifiers_of s.bindings) (quantifier_in bs) n (long (λ b. b.quantifier)) st.quantifiers in
      let codes = st.codes_laid ∙ ap (padded (length ls)) (append-nil (all_codes (in_order Cs))) in
      let clauses : clauses_in s.n s.m ls es ≡ in_order Cs =
      ap (λ k. clauses_in k s.m ls es) st.n ∙
      clauses_held n s.m ls es (in_order Cs) formed.clauses (st.m ∙ sym all ∙ sym (length_in_order Cs)) (omega (arith, lawful.0.3, st.m)) codes st.ends_laid in
      record { prefix = rw (levels, quantifiers, st.n) formed.prefix; held = same_meaning st.n levels quantifiers clauses; codes = codes; counts = st.ends_laid }

  pub holds : (d : Draft) → Lawful (sizes ls es) d → Stands d s ls es → fault (sizes ls es) d None ≡ None → Reads (sizes ls es) text (meaning_of d) → Held (meaning_of d) s ls es
  holds nothing lawful st f reads = absurd (let z : ◌≡◌ {A = ℕ} 0 1 = cc in omega arith)
  holds problem lawful st f reads = absurd (let z : ◌≡◌ {A = ℕ} 0 1 = cc in omega arith)
  holds format lawful st f reads = absurd (let z : ◌≡◌ {A = ℕ} 0 1 = cc in omega arith)
  holds (sized n) lawful st f reads = absurd (let z : ◌≡◌ {A = ℕ} 0 1 = cc in omega arith)
  holds (binding n m bs b) lawful st f reads = absurd (let z : ◌≡◌ {A = ℕ} 0 1 = cc in omega arith)
  holds (matrix n m bs Cs []) lawful st f reads = holds_matrix n m bs Cs (complete (sizes ls es) n m bs Cs [] f).0 lawful st reads
  holds (matrix n m bs Cs (l ∷ C)) lawful st f reads = absurd (omega (arith, (complete (sizes ls es) n m bs Cs (l ∷ C) f).1))

-- the text reads as that formula
pub reads : (text : List ℕ) (left : List Lexeme) (s : State) (ls es : List ℕ) (g : Going text left s ls es) → left ≡ [] →
    fault (sizes ls es) g.draft None ≡ None → Reads (sizes ls es) text (meaning_of g.draft)
reads text left s ls es g none f =
    read_whole (sizes ls es) text g.draft g.lawful (ap tokens (g.parts ∙ ap (λ ms. g.before ++ ms) none ∙ append-nil g.before) ∙ g.spells) f

pub no_fault : (f : Option Rule) (u : Unit {0}) → Ok u ≡ ended f → f ≡ None
no_fault None u e = refl
no_fault (Some rule) u e = absurd (let z : ◌≡◌ {A = ℕ} 0 1 = cc in omega arith)

pub some_fault : (f : Option Rule) (rule : Rule) → Err rule ≡ ended f → f ≡ Some rule
some_fault None rule e = absurd (let z : ◌≡◌ {A = ℕ} 0 1 = cc in omega arith)
some_fault (Some other) rule e = cc
