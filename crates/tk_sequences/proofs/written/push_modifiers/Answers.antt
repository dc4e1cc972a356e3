use Rattle.std.proofs.Common.{arith}
use Rattle.tk_sequences.proofs.WritingLemmas.{held_more}
use Rattle.tk_sequences.proofs.written.push_modifiers.Goals as goal

pub loop-modifier-preserved : goal.loop-modifier-preserved
loop-modifier-preserved c = held_more c.args.held _ _ _ c.loop-modifier.modifier-index (omega arith) c.loop-modifier.invariant c.in_ok-push_modifier.ensures
