use Rattle.std.proofs.Common.{◌-◌, length}
use Rattle.tcl_text.specs.Splitting.{Unescapes}
use Rattle.tcl_text.proofs.splitting.unescaped.Given as goal

abbrev pub invariant-loop-bytes : goal.invariant-loop-bytes
invariant-loop-bytes l = Unescapes l.quoted l.text l.bytes.items l.at

abbrev pub decreases-loop-bytes : goal.decreases-loop-bytes
decreases-loop-bytes l = length l.text - l.at
