use Rattle.std.proofs.Common.{take}
use Rattle.tcl_text.specs.Splitting.{ReadsTo, within}
use Rattle.tcl_text.proofs.splitting.run_len.Given as goal

abbrev pub invariant-loop-at : goal.invariant-loop-at
invariant-loop-at l = ReadsTo (within l.quoted) l.text l.at (take l.at l.text) (within l.quoted)
