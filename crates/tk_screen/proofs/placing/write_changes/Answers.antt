use Rattle.std.proofs.Common.{◌∙◌}
use Rattle.tk_tree.specs.Shared.{own_of}
use Rattle.tk_screen.proofs.Placed.{first_there, later_there, later_changes, all_changed, nothing_left}
use Rattle.tk_screen.proofs.placing.write_changes.Goals as goal

pub write_change-requires : goal.write_change-requires
write_change-requires c =
    first_there c.loop-change.rest.now c.in-Some.later.now c.in-Some.change.now (own_of c.args.owner c.loop-change.windows) c.in-Some.ensures.cases.0 c.loop-change.invariant.there

pub loop-change-preserved : goal.loop-change-preserved
loop-change-preserved c =
    let own = own_of c.args.owner c.loop-change.windows in
    let new = own_of c.args.owner c.write_change.new.windows in
    record {
      there = later_there c.loop-change.rest.now c.in-Some.later.now c.in-Some.change.now own new c.in-Some.ensures.cases.0 c.write_change.ensures.own c.loop-change.invariant.there;
      same = later_changes c.loop-change.rest.now c.in-Some.later.now c.in-Some.change.now own new _ c.in-Some.ensures.cases.0 c.write_change.ensures.own c.loop-change.invariant.same;
      others = λ other differ. c.write_change.ensures.others other differ ∙ c.loop-change.invariant.others other differ;
    }

pub returns-clause-own : goal.returns-clause-own
returns-clause-own c = all_changed c.loop-change.rest.now (own_of c.args.owner c.loop-change.windows) _ c.loop-change.invariant.same (nothing_left c.loop-change.rest.now c.in_default.ensures.cases)
