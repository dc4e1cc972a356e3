use Rattle.tkhost_c.specs.Calls.{turn_of}
use Rattle.tkhost_c.proofs.Copies.{one_more}
use Rattle.tkhost_c.proofs.telling.copy_turns.Goals as goal

pub loop-place-preserved : goal.loop-place-preserved
loop-place-preserved c = one_more turn_of _ c.args.taken.now c.args.turns.now c.loop-place.turns c.loop-place.place c.loop-place-test.true c.requires c.loop-place.invariant
