use Rattle.std.proofs.Common.{◌≡◌, ◌++◌, take}
use Rattle.std.specs.Prelude.{flat_map}
use Rattle.tk_after.specs.Shared.{own_of}
use Rattle.tk_screen.specs.Timers.{entry_line}
use Rattle.tk_screen.proofs.timers.push_timers.Given as goal

-- what was read is written
abbrev pub invariant-loop-id : goal.invariant-loop-id
invariant-loop-id l = l.out.items ≡ l.fn.out.items ++ flat_map entry_line (take l.id-index (own_of l.owner l.timers).entries)
