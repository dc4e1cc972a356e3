use Rattle.std.proofs.Common.{◌≡◌, ◌+◌, ◌-◌, ◌<◌, sym, ◌∙◌, arith}
use Rattle.tcl_control.proofs.ArmLemmas.{last_item, open_paired}
use Rattle.tcl_control.proofs.choices.ends_open_in.Goals as goal

pub returns : goal.returns
returns c =
    let count = c.args.count in
    let some : 0 < count = omega (arith, c.if-count-eq0.false) in
    let place : count + count - 1 + 1 ≡ count + count = omega (arith, some) in
    c.is_dash.ensures ∙ sym (open_paired count c.args.list.now c.in_ok-last.last c.requires some (last_item c.args.list.now (count + count - 1) c.in_ok-last.last (place ∙ sym c.requires) c.in_ok-last.ensures))
