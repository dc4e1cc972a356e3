use Rattle.std.proofs.Common.{arith}
use Rattle.tcl_text.proofs.GlobLetters.{next_kept, none_kept}
use Rattle.tcl_text.proofs.glob_letters.keep_next.Goals as goal

pub returns-then-parts-eq0-clause-kept : goal.returns-then-parts-eq0-clause-kept
returns-then-parts-eq0-clause-kept c = none_kept _ _ _

pub returns-then-not-some-clause-kept : goal.returns-then-not-some-clause-kept
returns-then-not-some-clause-kept c = next_kept _ _ _ _ _ _ _ _ c.mark_parts-parts.ensures.below c.mark_parts-parts.ensures.above (omega arith) c.keep_allowed-some.ensures

pub returns-clause-kept : goal.returns-clause-kept
returns-clause-kept c = next_kept _ _ _ _ _ _ _ _ c.mark_parts-parts.ensures.below c.mark_parts-parts.ensures.above (omega arith) c.keep_allowed-some.ensures
