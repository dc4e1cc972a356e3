use Rattle.std.proofs.Common.{◌≡◌, ◌+◌, ℕ, Some, ap, length, length-append, subst, sym, arith}
use Rattle.panels_bench.proofs.StandLemmas.{stands_within}
use Rattle.panels_bench.specs.Stands.{StandsAt}
use Rattle.panels_bench.proofs.spots.find_within.Goals as goal

pub returns : goal.returns
returns c =
    let text = c.args.text.now in
    let from = c.args.from in
    let at = c.in_ok-at.at in
    let there = stands_within text c.in_ok-part.part.now c.args.wanted.now from c.args.to at c.in_ok-part.ensures.cases.0 (omega (arith, c.in_ok-part.ensures.cases.1, c.in_ok-part.ensures.cases.2)) c.in_ok-at.ensures in
    let same : c.saturating_add.result ≡ from + at = omega (arith, c.saturating_add.ensures, ap length there.2, length-append there.0, there.3) in
    let P : ℕ → Type 0 = λ n. StandsAt text c.args.wanted.now (Some n) in
    subst P (sym same) there
