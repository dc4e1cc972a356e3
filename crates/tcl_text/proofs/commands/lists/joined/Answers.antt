use Rattle.std.proofs.Common.{sym, ap, ◌∙◌, ◌++◌, ℕ, List}
use Rattle.tcl_text.specs.ListCommands.{joined}
use Rattle.tcl_text.specs.ListSteps.{each_behind}
use Rattle.tcl_text.proofs.ListLemmas.{joined-behind}
use Rattle.tcl_text.proofs.commands.lists.joined.Goals as goal

pub returns : goal.returns
returns c =
    let between = c.args.between.now in
    let first = c.in-Some.first.now in
    let others = c.in-Some.others.now in
    c.in_ok-push_behind.ensures ∙ ap (λ (t : List ℕ). t ++ each_behind between others) (c.in_ok-push_str.ensures.bytes ∙ ap (λ (t : List ℕ). t ++ c.as_str.result.now) c.in_ok-string.ensures.bytes ∙ c.as_str.ensures.bytes) ∙ sym (joined-behind between first others) ∙ ap (joined between) (sym c.in-Some.ensures.cases.0)
