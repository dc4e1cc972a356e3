use Rattle.std.proofs.Common.{Some, None, sym, ap, subst}
use Rattle.std.specs.List.{AllByRecursion}
use Rattle.tk_after.specs.Keys.{IsTimer, IsIdle}
use Rattle.tk_after.proofs.Bags.{stored_of, got, taken_from, left_others, still_keyed}
use Rattle.tk_after.proofs.scripts.TimerScripts.take.Goals as goal

pub invariant_of-self : goal.invariant_of-self
invariant_of-self c =
    let kept = still_keyed (stored_of c.self.inside.timers.entries c.self.inside.idle.entries) c.args.self.now c.self.view_is c.self.invariant c.args.owner c.args.id c.args.due (Some c.in-Some.due) c.in-Some.is in
    (subst (AllByRecursion IsTimer) (sym c.remove.ensures.entries) kept.0, c.self.invariant.1)

pub invariant_of-self-in-None : goal.invariant_of-self-in-None
invariant_of-self-in-None c =
    let kept = still_keyed (stored_of c.self.inside.timers.entries c.self.inside.idle.entries) c.args.self.now c.self.view_is c.self.invariant c.args.owner c.args.id c.args.due None c.in-None.is in
    (c.self.invariant.0, subst (AllByRecursion IsIdle) (sym c.remove-in-None.ensures.entries) kept.1)

pub returns-in-Some-clause-entry : goal.returns-in-Some-clause-entry
returns-in-Some-clause-entry c =
    got (stored_of c.self.inside.timers.entries c.self.inside.idle.entries) c.args.self.now c.self.view_is c.self.invariant c.args.owner c.args.id c.args.due (Some c.in-Some.due) c.in-Some.is c.remove.result c.remove.ensures.value

pub returns-in-Some-clause-own : goal.returns-in-Some-clause-own
returns-in-Some-clause-own c =
    let idle = c.self.inside.idle.entries in
    taken_from (stored_of c.self.inside.timers.entries idle) c.args.self.now c.self.view_is c.self.invariant c.args.owner c.args.id c.args.due (Some c.in-Some.due) c.in-Some.is
    (stored_of c.remove.new.self.entries idle) (ap (λ ts. stored_of ts idle) c.remove.ensures.entries)

pub returns-in-Some-clause-others : goal.returns-in-Some-clause-others
returns-in-Some-clause-others c =
    let idle = c.self.inside.idle.entries in
    left_others (stored_of c.self.inside.timers.entries idle) c.args.self.now c.self.view_is c.self.invariant c.args.owner c.args.id c.args.due (Some c.in-Some.due) c.in-Some.is
    (stored_of c.remove.new.self.entries idle) (ap (λ ts. stored_of ts idle) c.remove.ensures.entries)

pub returns-in-None-clause-entry : goal.returns-in-None-clause-entry
returns-in-None-clause-entry c =
    got (stored_of c.self.inside.timers.entries c.self.inside.idle.entries) c.args.self.now c.self.view_is c.self.invariant c.args.owner c.args.id c.args.due None c.in-None.is c.remove-in-None.result c.remove-in-None.ensures.value

pub returns-in-None-clause-own : goal.returns-in-None-clause-own
returns-in-None-clause-own c =
    let timers = c.self.inside.timers.entries in
    taken_from (stored_of timers c.self.inside.idle.entries) c.args.self.now c.self.view_is c.self.invariant c.args.owner c.args.id c.args.due None c.in-None.is
    (stored_of timers c.remove-in-None.new.self.entries) (ap (λ ts. stored_of timers ts) c.remove-in-None.ensures.entries)

pub returns-in-None-clause-others : goal.returns-in-None-clause-others
returns-in-None-clause-others c =
    let timers = c.self.inside.timers.entries in
    left_others (stored_of timers c.self.inside.idle.entries) c.args.self.now c.self.view_is c.self.invariant c.args.owner c.args.id c.args.due None c.in-None.is
    (stored_of timers c.remove-in-None.new.self.entries) (ap (λ ts. stored_of timers ts) c.remove-in-None.ensures.entries)
