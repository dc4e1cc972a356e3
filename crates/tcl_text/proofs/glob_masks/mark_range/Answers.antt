use Rattle.std.proofs.Common.{length, refl}
use Rattle.tcl_text.proofs.GlobMasks.{high_left, high_marked, low_marked}
use Rattle.tcl_text.proofs.glob_masks.mark_range.Goals as goal
