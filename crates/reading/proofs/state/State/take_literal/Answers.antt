use Rattle.std.proofs.Common.{◌≡◌, ℕ, ◌+◌, ◌*◌, Bool, true, false, cond, sym, refl, ◌∙◌, arith}
use Rattle.std.specs.Int.{from_bool}
use Rattle.reading.specs.Stands.{sizes}
use Rattle.reading.proofs.Clauses.{with_literal, says_literal}
use Rattle.reading.proofs.Numbers.{literal_fits}
use Rattle.reading.proofs.state.State.take_literal.Goals as goal

-- a literal's code is twice its variable, and one more where it is negated
coded : (negated : Bool) (v x : ℕ) → x ≡ from_bool negated → 2 * v + x ≡ cond negated (2 * v + 1) (2 * v)
coded true v x e = omega (arith, e)
coded false v x e = omega (arith, e)

pub returns : goal.returns
returns c t number is some es d lawful stands =
    let at = sym c.requires ∙ stands.stage in
    let cells = c.args.cells.now in
    let code : 2 * c.args.v + c.from.result ≡ cond c.args.negated (2 * c.args.v + 1) (2 * c.args.v) = coded c.args.negated c.args.v c.from.result c.from.ensures in (
      literal_fits (sizes cells es) d at t c.args.negated number (λ e. some (sym is ∙ e)) (omega (arith, c.if-self.false, stands.clauses, stands.m))
          (sym (c.if-is_full.ensures.says d cells es refl stands)) (sym (c.if-is_early.ensures d cells es stands))
          (omega (arith, c.if-v-self.false, is, stands.n)),
      with_literal c.args.self.now _ cells es
          (record { stage = refl; n = refl; m = refl; bindings = refl; latest_is = refl }) t d at
          (2 * c.args.v + c.from.result) (says_literal t (2 * c.args.v + c.from.result) c.args.v c.args.negated number is some code) (omega arith) refl refl refl stands,
    )
