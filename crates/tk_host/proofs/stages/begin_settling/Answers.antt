use Rattle.std.proofs.Common.{ap, rules}
use Rattle.tk_app.specs.Turns.{Applications}
use Rattle.tk_host.proofs.Counts.{begins_count, counts_same}
use Rattle.tk_host.proofs.Cut.{begun_untold}
use Rattle.tk_host.proofs.stages.begin_settling.Goals as goal

pub returns-in-Ok-clause-turns : goal.returns-in-Ok-clause-turns
returns-in-Ok-clause-turns g c =
    let before = c.view-view.result in
    let untold = begun_untold before.slot before.shared.now c.begin_settling.new.self.shared.now c.in-Ok.ensures.begun in
    search (rules, untold)

pub returns-in-Err-clause-turns : goal.returns-in-Err-clause-turns
returns-in-Err-clause-turns g c =
    let untold = ap (λ (h : Applications _). h.turns) c.in-Err.ensures.unchanged in
    search (rules, untold)

pub returns-in-Ok-clause-counts : goal.returns-in-Ok-clause-counts
returns-in-Ok-clause-counts g c =
    let before = c.view-view.result in
    let counted = begins_count before.slot before.shared.now c.begin_settling.new.self.shared.now c.in-Ok.ensures.begun in
    search (rules, counted)

pub returns-in-Err-clause-counts : goal.returns-in-Err-clause-counts
returns-in-Err-clause-counts g c =
    let before = c.view-view.result in
    let stays = c.in-Err.ensures.unchanged in
    let counted = counts_same before.shared.now c.begin_settling.new.self.shared.now (ap (λ (h : Applications _). h.turns) stays) (ap (λ (h : Applications _). h.parts) stays) in
    search (rules, counted)
