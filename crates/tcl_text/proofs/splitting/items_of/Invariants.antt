use Rattle.std.proofs.Common.{length, IsUtf8}
use Rattle.tcl_text.proofs.ElementLemmas.{SplitsTo}
use Rattle.tcl_text.proofs.splitting.items_of.Given as goal

abbrev pub invariant-loop-rest : goal.invariant-loop-rest
invariant-loop-rest l = record { splits : SplitsTo l.text l.items l.rest; utf8 : IsUtf8 l.rest }

abbrev pub decreases-loop-rest : goal.decreases-loop-rest
decreases-loop-rest l = length l.rest
