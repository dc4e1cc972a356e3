use Rattle.std.specs.Prelude.{sum_by}
use Rattle.tk_host.specs.Dues.{weight}
use Rattle.tk_host.specs.Slots.{CountsAll}
use Rattle.tk_host.specs.Turns.{applications}
use Rattle.tk_host.proofs.Ways.{Way}
use Rattle.tk_host.proofs.stages.advance.Given as goal

-- what is left to be done comes to what all does
abbrev pub invariant-moments : goal.invariant-moments
invariant-moments g l = record {
  way : Way g.M.AliasMeaning.answer l.slice l.target l.fn.shared l.shared;
  counts : CountsAll l.fn.shared l.shared;
}

-- each stage takes a step or is the last of an application
abbrev pub decreases-moments : goal.decreases-moments
decreases-moments g l = sum_by weight (applications l.shared.parts)
