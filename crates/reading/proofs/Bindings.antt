-- A variable in a block: which rule it breaks, and the state that stands for the block with it.
use Rattle.std.proofs.Common.{◌≡◌, ℕ, suc, ap, ◌<◌, ◌≤◌, Bool, false, ◌⊎◌, List, ◌∷◌, map, length, get_or, set, Some, None, sym, refl, ◌∙◌, ⊎_elim, arith}
use Rattle.std.proofs.lemmas.List.{get_or-set_same, get_or-set_other, length-map, map-set}
use Rattle.std.proofs.lemmas.Bool.{cases_eq, eq-eqb, ne_eqb}
use Rattle.std.proofs.lemmas.Bool.Decides.{nat_tests}
use Rattle.grammar.specs.declared.rule.Rule.TheVariants.{Binding as Misbound}
use Rattle.grammar.specs.Draft.{Block, Draft, binding, level_in, quantifier_in}
use Rattle.grammar.specs.Lawful.{Sizes}
use Rattle.grammar.specs.Next.{Next, sort, size, after}
use Rattle.grammar.specs.Fault.{fault}
use Rattle.reading.specs.declared.state.Stage.TheVariants.{Block as InBlock}
use Rattle.reading.specs.declared.state.State.{State}
use Rattle.reading.specs.declared.binding.Binding.{Binding}
use Rattle.reading.specs.Stands.{Stands, stage_of, n_of, blocks_of}
use Rattle.reading.proofs.Stages.{in_block}

module _ (S : Sizes) (d : Draft) (t : Next) (v : ℕ) (natural : sort t ≡ 4) (is : size t ≡ v) (some : v ≡ 0 → ⊥) {vacant : Bool} (at : InBlock vacant ≡ stage_of d) where
  pub misbound : (n_of d < v) ⊎ (level_in (blocks_of d) v ≡ 0 → ⊥) → fault S d t ≡ Some Misbound
  misbound =
      in_block (λ d. (n_of d < v) ⊎ (level_in (blocks_of d) v ≡ 0 → ⊥) → fault S d t ≡ Some Misbound)
      (λ n m bs b _. ⊎_elim (λ h. grind (arith, nat_tests)) (λ h. grind (arith, nat_tests))) d at

  pub well_bound : v ≤ n_of d → level_in (blocks_of d) v ≡ 0 → fault S d t ≡ None
  well_bound =
      in_block (λ d. v ≤ n_of d → level_in (blocks_of d) v ≡ 0 → fault S d t ≡ None)
      (λ n m bs b _ h e. grind (arith, nat_tests)) d at

-- nothing but the tables changes, at v alone
pub record Bound (s s' : State) (v : ℕ) : Type 0 where
  pub stage : s'.stage ≡ InBlock false
  pub n : s'.n ≡ s.n
  pub m : s'.m ≡ s.m
  pub bindings : s'.bindings ≡ set s.bindings v s.latest
  pub latest_is : s'.latest ≡ s.latest
  pub clauses : s'.clauses ≡ s.clauses
  pub literals : s'.literals ≡ s.literals
  pub open_count : s'.tail ≡ s.tail

-- a table with x at v, where the block has one variable more, v
updated : (xs : List ℕ) (v x : ℕ) (f g : ℕ → ℕ) → v < length xs → g v ≡ x → ((w : ℕ) → (w ≡ v → ⊥) → g w ≡ f w) →
    ((w : ℕ) → get_or xs w 0 ≡ f w) → (w : ℕ) → get_or (set xs v x) w 0 ≡ g w
updated xs v x f g within here there same w =
    ⊎_elim (λ e. rw e (get_or-set_same xs v x 0 within ∙ sym here)) (λ n. get_or-set_other xs v w x 0 n ∙ same w ∙ sym (there w n)) (cases_eq w v)

-- the same of the levels or the quantifiers that bindings give
read_updated : (read : Binding → ℕ) (bs : List Binding) (v : ℕ) (b : Binding) (f g : ℕ → ℕ) → v < length bs → g v ≡ read b →
    ((w : ℕ) → (w ≡ v → ⊥) → g w ≡ f w) → ((w : ℕ) → get_or (map read bs) w 0 ≡ f w) → (w : ℕ) → get_or (map read (set bs v b)) w 0 ≡ g w
read_updated read bs v b f g within here there same w =
    rw (map-set read bs v b) (updated (map read bs) v (read b) f g (simp length-map within) here there same w)

module _ (s s' : State) (ls es : List ℕ) (t : Next) (v : ℕ) (natural : sort t ≡ 4) (is : size t ≡ v) (some : v ≡ 0 → ⊥) (o : Bound s s' v) (fits : v < length s.bindings) where
  binds : (n m : ℕ) (bs : List Block) (b : Block) → Stands (binding n m bs b) s ls es →
      Stands (binding n m bs (record { quantifier = b.quantifier; variables = v ∷ b.variables })) s' ls es
  binds n m bs b st =
      let grown : Block = record { quantifier = b.quantifier; variables = v ∷ b.variables } in
      record {
        stage = o.stage ∙ ap InBlock (sym (ne_eqb (suc (length b.variables)) 0 (λ e. omega arith)));
        n = o.n ∙ st.n;
        m = o.m ∙ st.m;
        levels =
            rw o.bindings
            (read_updated (λ b. b.level) s.bindings v s.latest (level_in (b ∷ bs)) (level_in (grown ∷ bs)) fits (rw (eq-eqb v v refl) (sym st.blocks))
            (λ w n. rw (ne_eqb w v n) refl) st.levels);
        quantifiers =
            rw o.bindings
            (read_updated (λ b. b.quantifier) s.bindings v s.latest (quantifier_in (b ∷ bs)) (quantifier_in (grown ∷ bs)) fits (rw (eq-eqb v v refl) (sym st.latest))
            (λ w n. rw (ne_eqb w v n) refl) st.quantifiers);
        blocks = rw o.latest_is st.blocks;
        latest = rw o.latest_is st.latest;
        clauses = o.clauses ∙ st.clauses;
        count = o.literals ∙ st.count;
        open_count = o.open_count ∙ st.open_count;
        codes_laid = st.codes_laid;
        ends_laid = st.ends_laid;
      }

  pub bound : {vacant : Bool} (d : Draft) → InBlock vacant ≡ stage_of d → Stands d s ls es → Stands (after d t) s' ls es
  bound d at =
      in_block (λ d. Stands d s ls es → Stands (after d t) s' ls es) (λ n m bs b _ st. rw (natural, is, ne_eqb v 0 some) (binds n m bs b st)) d at
