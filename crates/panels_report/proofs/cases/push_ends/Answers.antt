use Rattle.std.proofs.Common.{ℕ, List, ◌++◌, ap, append_assoc, ◌∙◌}
use Rattle.panels_report.proofs.Casing.{ends_are}
use Rattle.panels_report.proofs.cases.push_ends.Goals as goal

pub returns : goal.returns
returns c =
    let one = c.in_ok-push_error.ensures in
    let two = c.in_ok-push_spent.ensures in (
      one.0 ++ two.0,
      ends_are c.args.side.now c.args.budget c.args.section.now _ _ one.0 two.0 c.unwanted_error.ensures c.has_run_out.ensures one.1 two.1,
      two.2 ∙ ap (λ (front : List (List ℕ)). front ++ two.0) one.2 ∙ append_assoc _ one.0 two.0,
    )
