use Rattle.std.proofs.Common.{length}
use Rattle.std.specs.BTreeSet.{contains}
use Rattle.std.specs.Ordering.{nat_cmp}
use Rattle.tk_screen.specs.Seen.{IsSeen}
use Rattle.tk_screen.specs.Shared.{own_of}
use Rattle.tk_screen.proofs.again.look_at_all.Given as goal

abbrev pub invariant-loop-number : goal.invariant-loop-number
invariant-loop-number l = IsSeen (own_of l.slot l.screen) (own_of l.slot l.screen).packs.packs l.scopes (contains nat_cmp l.touched) l.reads.entries l.layout

abbrev pub decreases-loop-number : goal.decreases-loop-number
decreases-loop-number l = length l.touched.keys
