use Rattle.std.proofs.Common.{◌≡◌, length}
use Rattle.tk_dispatch.specs.Queued.{all_events}
use Rattle.tk_dispatch.proofs.pages.turn_page.Given as goal

abbrev pub invariant-loop-between : goal.invariant-loop-between
invariant-loop-between l = all_events l.first l.between.items l.last ≡ all_events l.fn.first l.fn.between.items l.fn.last

abbrev pub decreases-loop-between : goal.decreases-loop-between
decreases-loop-between l = length l.between.items
