use Rattle.std.proofs.Common.{arith}
use Rattle.tk_generate.proofs.Options.{held_more, held_within}
use Rattle.tk_generate.proofs.fields.state_of.Goals as goal

pub overflow_add-state : goal.overflow_add-state
overflow_add-state c =
    let within = held_within c.args.modifiers c.loop-modifier.state c.held_bit-state.result c.loop-modifier.modifier-index (omega arith) c.loop-modifier.invariant c.held_bit-state.ensures in
    omega (arith, within)

pub loop-modifier-preserved : goal.loop-modifier-preserved
loop-modifier-preserved c =
    held_more c.args.modifiers c.loop-modifier.state c.held_bit-state.result c.loop-modifier.modifier-index (omega arith) c.loop-modifier.invariant c.held_bit-state.ensures
