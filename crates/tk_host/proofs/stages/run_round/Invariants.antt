use Rattle.tk_host.specs.Slots.{CountsAll}
use Rattle.tk_host.proofs.Slots.{Reaches}
use Rattle.tk_host.proofs.stages.run_round.Given as goal

-- the parts below the slot have had their turn
abbrev pub invariant-loop-slot : goal.invariant-loop-slot
invariant-loop-slot g l = record {
  reaches : Reaches g.M.AliasMeaning.answer l.slice l.slot l.fn.shared l.shared l.more;
  counts : CountsAll l.fn.shared l.shared;
}
