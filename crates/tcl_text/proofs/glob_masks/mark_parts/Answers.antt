use Rattle.std.proofs.Common.{arith}
use Rattle.tcl_text.proofs.GlobMasks.{allows_all}
use Rattle.tcl_text.proofs.glob_masks.mark_parts.Goals as goal

pub returns-clause-below : goal.returns-clause-below
returns-clause-below g c = allows_all _ _ _ _ _ _ c.mark_some-count.ensures.below (λ place below. c.mark_all.ensures place (omega arith))

pub returns-clause-above : goal.returns-clause-above
returns-clause-above g c = allows_all _ _ _ _ _ _ c.mark_some-count.ensures.above (λ place high. c.mark_all-2.ensures place (let within = high.0 in omega arith))
