use Rattle.std.proofs.Common.{◌≡◌, ℕ, ◌+◌, ◌<◌, ◌≤◌, length, rules, arith}
use Rattle.std.proofs.iter.runs.Sources.{ranges}
use Rattle.calculus.specs.Meaning.{level_of}
use Rattle.writer.proofs.Prefixes.{greatest_bounds}
use Rattle.writer.proofs.Ranges.{greatest_below}
use Rattle.writer.proofs.levels.depth.Goals as goal

pub returns : goal.returns
returns g c =
    let m = g.F.Formula.meaning c.args.f.now in
    let long : length m.levels ≡ m.n + 1 = (g.F.Formula.formed c.args.f.now).prefix.levels_long in
    let bound : (v : ℕ) → v < m.n + 1 → level_of m v ≤ c.unwrap_or.result = λ v h. search (rules, ranges) in
    let least : (b : ℕ) → ((v : ℕ) → v < m.n + 1 → level_of m v ≤ b) → c.unwrap_or.result ≤ b = λ b h. search (rules, ranges) in
    omega (arith, greatest_below m.levels c.unwrap_or.result (λ v h. bound v (omega arith)), least _ (λ v h. greatest_bounds m.levels v))
