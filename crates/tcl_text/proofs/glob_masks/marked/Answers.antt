use Rattle.tcl_text.proofs.GlobMasks.{with_bit, with_none}
use Rattle.tcl_text.proofs.glob_masks.marked.Goals as goal

pub returns-then-letter-last : goal.returns-then-letter-last
returns-then-letter-last c = with_bit _ _ _ _ _ c.requires c.if-first-letter.true c.if-letter-last.true
