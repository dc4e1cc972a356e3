use Rattle.std.proofs.Common.{◌-◌, arith, rules}
use Rattle.tk_packer.proofs.Rest.{asks_end}
use Rattle.tk_packer.proofs.Tallies.{none_tallied, next_tallied, few_tallied, all_tallied}
use Rattle.tk_packer.proofs.behind.Behind.of.Goals as goal

pub loop-index-init : goal.loop-index-init
loop-index-init c = none_tallied _ _ _ _ c.none.ensures (search rules) (search rules) (asks_end c.args.axis c.args.requests.now _ (omega arith))

pub add-requires : goal.add-requires
add-requires c = few_tallied c.args.axis c.args.requests.now c.loop-index.index _ _ _ (omega arith) c.loop-index.invariant

pub loop-index-preserved : goal.loop-index-preserved
loop-index-preserved c =
    next_tallied c.args.axis c.args.requests.now c.loop-index.index (c.loop-index.index - 1) _ _ _ _ _ (omega arith) (omega arith)
    c.of.ensures (c.in_ok-add.ensures _ c.loop-index.invariant)

pub returns : goal.returns
returns c = all_tallied c.args.axis c.args.requests.now c.loop-index.index _ _ _ (omega arith) c.loop-index.invariant
