use Rattle.tcl_expr.proofs.CloseLemmas.{closes_on, closes_all}
use Rattle.tcl_expr.proofs.open.close.Goals as goal

pub closing-preserved : goal.closing-preserved
closing-preserved c =
    closes_on c.args.level c.args.opened.now.items c.closing.opened.items c.end_last.new.opened.items c.args.steps.now.items c.closing.steps.items c.end_last.new.steps.items
    c.in_ok-end_last.field-0 c.if-not-branch.false c.in_ok-end_last.ensures c.closing.invariant

pub returns-then-not-branch : goal.returns-then-not-branch
returns-then-not-branch c =
    closes_all c.args.level c.args.opened.now.items c.closing.opened.items c.end_last.new.opened.items c.args.steps.now.items c.closing.steps.items c.end_last.new.steps.items
    c.in_ok-end_last.field-0 c.if-not-branch.true c.in_ok-end_last.ensures c.closing.invariant
