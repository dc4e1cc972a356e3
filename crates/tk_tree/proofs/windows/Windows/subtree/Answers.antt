use Rattle.std.proofs.Common.{arith}
use Rattle.tk_tree.specs.Shared.{own_of}
use Rattle.tk_tree.proofs.Orders.{begin_down, step_down, less_down, end_down}
use Rattle.tk_tree.proofs.windows.Windows.subtree.Goals as goal

pub loop-number-init : goal.loop-number-init
loop-number-init c =
    begin_down c.args.win.number (own_of c.args.win.owner c.args.self.now).windows c.new-order.result.items c.push.new.self.items c.new-waiting.result.items
    c.new-order.ensures.items c.new-waiting.ensures.items c.in_ok-push.ensures.items

pub loop-number-smaller : goal.loop-number-smaller
loop-number-smaller c =
    less_down c.in-Some.number (own_of c.args.win.owner c.args.self.now).windows c.children_of.result.now c.children_of.ensures.children
    c.loop-number.waiting.items c.pop.new.self.items c.push_reversed.new.list.items
    c.children_of.ensures.below c.in-Some.ensures.items c.in_ok-push_reversed.ensures

pub loop-number-preserved : goal.loop-number-preserved
loop-number-preserved c =
    step_down c.in-Some.number (own_of c.args.win.owner c.args.self.now).windows c.children_of.result.now c.children_of.ensures.children
    c.loop-number.order.items c.push-in-Some.new.self.items c.loop-number.waiting.items c.pop.new.self.items c.push_reversed.new.list.items _
    c.children_of.ensures.below c.in_ok-push-2.ensures.items c.in-Some.ensures.items c.in_ok-push_reversed.ensures c.loop-number.invariant

pub returns : goal.returns
returns c =
    end_down (own_of c.args.win.owner c.args.self.now).windows c.loop-number.order.items c.loop-number.waiting.items c.pop.new.self.items _
    c.in_default.ensures.items (omega (arith, c.pop.new.self.ok, c.in_default.ensures.cases.1)) c.loop-number.invariant
