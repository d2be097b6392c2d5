-- A letter behind the blocks that have ended: which rule it breaks, and the state that stands for the block it opens.
use Rattle.std.proofs.Common.{◌≡◌, ℕ, ◌+◌, ◌<◌, ◌≤◌, true, List, [], ◌∷◌, length, Some, None, ◌∙◌, arith}
use Rattle.std.proofs.lemmas.Bool.Decides.{nat_tests}
use Rattle.grammar.specs.declared.rule.Rule.TheVariants.{Spelling, Binding}
use Rattle.grammar.specs.Draft.{Block, Draft, matrix, binding}
use Rattle.grammar.specs.Lawful.{Sizes, Lawful, latest}
use Rattle.grammar.specs.Next.{Next, sort, size, after}
use Rattle.grammar.specs.Fault.{fault}
use Rattle.reading.specs.declared.state.Stage.TheVariants.{Block as InBlock, Matrix}
use Rattle.reading.specs.declared.state.State.{State}
use Rattle.reading.specs.Stands.{Stands, stage_of, blocks_of, clauses_of, open_of}
use Rattle.reading.proofs.Counts.{few_blocks}
use Rattle.reading.proofs.Stages.{in_matrix}

-- how many words of clauses stand in a draft, but for zeros behind literals
abbrev pub begun : Draft → ℕ
begun d = length (clauses_of d) + length (open_of d)

module _ (S : Sizes) (d : Draft) (t : Next) (letter : sort t ≡ 3) (at : Matrix ≡ stage_of d) where
  pub late : 0 < begun d → fault S d t ≡ Some Spelling
  late = in_matrix (λ d. 0 < begun d → fault S d t ≡ Some Spelling) (λ n m bs Cs C h. grind (arith, nat_tests)) d at

  pub repeated : begun d ≡ 0 → size t ≡ latest (blocks_of d) → fault S d t ≡ Some Binding
  repeated = in_matrix (λ d. begun d ≡ 0 → size t ≡ latest (blocks_of d) → fault S d t ≡ Some Binding) (λ n m bs Cs C h e. grind (arith, nat_tests)) d at

  pub turning : begun d ≡ 0 → (size t ≡ latest (blocks_of d) → ⊥) → fault S d t ≡ None
  turning = in_matrix (λ d. begun d ≡ 0 → (size t ≡ latest (blocks_of d) → ⊥) → fault S d t ≡ None) (λ n m bs Cs C h e. grind (arith, nat_tests)) d at

  pub few : Lawful S d → length (blocks_of d) ≤ 512
  few = in_matrix (λ d. Lawful S d → length (blocks_of d) ≤ 512) (λ n m bs Cs C h. omega (arith, few_blocks n bs h.1, h.0.1)) d at

-- nothing but the blocks changes
pub record Opened (s s' : State) (q : ℕ) : Type 0 where
  pub stage : s'.stage ≡ InBlock true
  pub n : s'.n ≡ s.n
  pub m : s'.m ≡ s.m
  pub bindings : s'.bindings ≡ s.bindings
  pub level : s'.latest.level ≡ s.latest.level + 1
  pub quantifier : s'.latest.quantifier ≡ q
  pub clauses : s'.clauses ≡ s.clauses
  pub literals : s'.literals ≡ s.literals
  pub open_count : s'.tail ≡ s.tail

module _ (s s' : State) (ls es : List ℕ) (t : Next) (letter : sort t ≡ 3) (o : Opened s s' (size t)) where
  opens : (n m : ℕ) (bs : List Block) (Cs : List (List ℕ)) (C : List ℕ) → length Cs + length C ≡ 0 → Stands (matrix n m bs Cs C) s ls es →
      Stands (binding n m bs (record { quantifier = size t; variables = [] })) s' ls es
  opens n m bs [] [] none st = record {
    stage = o.stage;
    n = o.n ∙ st.n;
    m = o.m ∙ st.m;
    levels = rw o.bindings st.levels;
    quantifiers = rw o.bindings st.quantifiers;
    blocks = omega (arith, o.level, st.blocks);
    latest = o.quantifier;
    clauses = o.clauses ∙ st.clauses;
    count = o.literals ∙ st.count;
    open_count = o.open_count ∙ st.open_count;
    codes_laid = st.codes_laid;
    ends_laid = st.ends_laid;
  }
  opens n m bs [] (l ∷ C) none st = absurd (omega arith)
  opens n m bs (C' ∷ Cs) C none st = absurd (omega arith)

  pub opened : (d : Draft) → Matrix ≡ stage_of d → begun d ≡ 0 → Stands d s ls es → Stands (after d t) s' ls es
  opened d at =
      in_matrix (λ d. begun d ≡ 0 → Stands d s ls es → Stands (after d t) s' ls es)
      (λ n m bs Cs C none st. rw letter (opens n m bs Cs C none st)) d at
