use Rattle.tk_host.specs.Slots.{CountsAll}
use Rattle.tk_host.proofs.Ways.{BegunBelow}
use Rattle.tk_host.proofs.stages.begin_all.Given as goal

-- those below the slot have begun
abbrev pub invariant-loop-slot : goal.invariant-loop-slot
invariant-loop-slot g l = record {
  below : BegunBelow g.M.AliasMeaning.answer l.moment l.slot l.fn.shared l.shared;
  counts : CountsAll l.fn.shared l.shared;
}
