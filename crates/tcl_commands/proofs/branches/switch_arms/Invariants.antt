use Rattle.std.proofs.Common.{◌≡◌, ◌++◌, None, option_map, drop}
use Rattle.tcl_commands.specs.Branches.{arms_from}
use Rattle.tcl_commands.proofs.branches.switch_arms.Given as goal

-- with the pairs that are left, there are all
abbrev pub invariant-loop-item : goal.invariant-loop-item
invariant-loop-item l = option_map (λ arms. l.arms ++ arms) (arms_from l.held (drop l.item-index l.items)) ≡ arms_from None l.items
