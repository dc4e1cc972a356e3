use Rattle.std.proofs.Common.{◌∙◌, ◌++◌, ℕ, List, ap, arith, length}
use Rattle.tcl_text.specs.ListForm.{others_form}
use Rattle.tcl_text.proofs.KeptSteps.{whole_part}
use Rattle.tcl_text.proofs.list_string.ListString.longer.Goals as goal

pub push-requires : goal.push-requires
push-requires c =
    let whole = whole_part c.args.self.now c.in_ok-list.list c.len.result c.len.ensures c.in_ok-list.ensures in
    omega (arith, ap (λ (t : List (List ℕ)). length (others_form t)) whole, c.requires)

pub returns : goal.returns
returns c =
    c.in_ok-push.ensures.ok ∙ ap (λ (t : List (List ℕ)). t ++ c.args.more.now) (whole_part c.args.self.now c.in_ok-list.list c.len.result c.len.ensures c.in_ok-list.ensures)
