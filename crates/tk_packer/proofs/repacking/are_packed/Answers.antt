use Rattle.std.proofs.Common.{arith}
use Rattle.tk_packer.proofs.Emptying.{all_same, same_more}
use Rattle.tk_packer.proofs.repacking.are_packed.Goals as goal

pub loop-index-preserved : goal.loop-index-preserved
loop-index-preserved c =
    same_more c.args.slaves.now c.args.packed.now c.loop-index.index _ _ (omega arith) (omega arith) (c.is_same_packed.ensures.0 c.if-not-is_same_packed.false) c.loop-index.invariant

pub returns : goal.returns
returns c = λ yes. all_same c.args.slaves.now c.args.packed.now c.loop-index.index (omega arith) (omega arith) c.loop-index.invariant
