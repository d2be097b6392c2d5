-- A fresh state over cells that hold 0 stands for no word.
use Rattle.std.proofs.Common.{◌≡◌, ℕ, zero, suc, List, map, length, get_or, replicate, refl, sym, ap, ◌∙◌, arith}
use Rattle.grammar.specs.Draft.{nothing}
use Rattle.reading.specs.declared.state.State.{State}
use Rattle.reading.specs.declared.binding.Binding.{Binding}
use Rattle.reading.specs.Bindings.{no_binding}
use Rattle.reading.specs.Stands.{Fresh, Stands}

-- where nothing is bound, whatever is read of a binding is 0
unbound_at : (read : Binding → ℕ) → read no_binding ≡ 0 → (n v : ℕ) → get_or (map read (replicate n no_binding)) v 0 ≡ 0
unbound_at read none zero v = refl
unbound_at read none (suc n) zero = none
unbound_at read none (suc n) (suc v) = unbound_at read none n v

pub fresh_stands : (s : State) (ls es : List ℕ) → Fresh s → ls ≡ replicate (length ls) 0 → es ≡ replicate (length es) 0 → Stands nothing s ls es
fresh_stands s ls es f zeros zeros' = record {
  stage = f.stage;
  n = f.n;
  m = f.m;
  levels = rw f.unbound (unbound_at (λ b. b.level) refl 513);
  quantifiers = rw f.unbound (unbound_at (λ b. b.quantifier) refl 513);
  blocks = rw f.latest refl;
  latest = rw f.latest refl;
  clauses = f.clauses;
  count = f.count;
  open_count = f.open_count;
  codes_laid = zeros ∙ ap (λ k. replicate k 0) (sym (omega arith));
  ends_laid = zeros' ∙ ap (λ k. replicate k 0) (sym (omega arith));
}
