use Rattle.std.proofs.Common.{length}
use Rattle.tkhost.proofs.Streams.{HasGone}
use Rattle.tkhost.proofs.output.write_whole.Given as goal

abbrev pub invariant-loop-rest : goal.invariant-loop-rest
invariant-loop-rest g l = HasGone (g.W.Write.contents l.fn.writer) (g.W.Write.contents l.writer) l.text l.rest

abbrev pub decreases-loop-rest : goal.decreases-loop-rest
decreases-loop-rest g l = length l.rest
