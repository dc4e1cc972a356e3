use Rattle.std.proofs.Common.{◌∙◌, ◌≡◌, ◌∷◌, ◌++◌, [], ap, arith}
use Rattle.std.proofs.lemmas.Result.{err_from_is_err_and}
use Rattle.tcl_expr.specs.Dues.{dues_steps, dues_weight}
use Rattle.tcl_expr.proofs.DueLemmas.{next_due, due_fails, last_weighs}
use Rattle.tcl_expr.proofs.substitution.write_dues.Goals as goal

pub loop-due-smaller : goal.loop-due-smaller
loop-due-smaller c =
    let cut : c.loop-due.dues.items ≡ c.pop.new.self.items ++ c.in-Some.due ∷ [] = c.in-Some.ensures.items in
    let w = ap dues_weight cut ∙ last_weighs c.pop.new.self.items c.in-Some.due in
    let less = c.in_ok-write_due.ensures.less in
    omega (arith, w, less)

pub loop-due-preserved : goal.loop-due-preserved
loop-due-preserved c = next_due c.args.steps.now.items c.loop-due.steps.items (dues_steps c.args.dues.items) c.in-Some.due c.pop.new.self.items c.loop-due.dues.items c.write_due.new.steps.items c.write_due.new.dues.items c.in-Some.ensures.items
    c.loop-due.invariant c.in_ok-write_due.ensures.goes

pub returns-in_err-write_due : goal.returns-in_err-write_due
returns-in_err-write_due c =
    let p = err_from_is_err_and c.from_residual.result c.from_residual.ensures.1 in
    let k = due_fails c.args.steps.now.items c.loop-due.steps.items (dues_steps c.args.dues.items) c.in-Some.due c.pop.new.self.items c.loop-due.dues.items c.in_err-write_due.field-0.0 c.write_due.new.steps.items (dues_steps c.write_due.new.dues.items)
    c.in-Some.ensures.items c.loop-due.invariant c.in_err-write_due.ensures.goes in
    rw (p.1, p.2) k
