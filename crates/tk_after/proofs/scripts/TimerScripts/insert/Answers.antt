use Rattle.std.proofs.Common.{Some, None}
use Rattle.std.specs.BTreeMap.{insert_entry}
use Rattle.std.specs.List.{AllByRecursion}
use Rattle.tk_after.specs.Keys.{due_cmp, name_cmp, due_key, name, IsTimer, IsIdle}
use Rattle.tk_after.proofs.Bags.{stored_of, put_given, put_idle, put_timer, either_way}
use Rattle.tk_after.proofs.scripts.TimerScripts.insert.Goals as goal

pub invariant_of-self-in-Some : goal.invariant_of-self-in-Some
invariant_of-self-in-Some c =
    let timers = c.self.inside.timers.entries in
    let g = put_given (stored_of timers c.self.inside.idle.entries) c.args.self.now c.self.view_is c.self.invariant c.args.owner c.args.entry c.requires (Some c.in-Some.due) c.in-Some.is in
    (either_way (AllByRecursion IsTimer) c.insert.result timers (insert_entry due_cmp timers (due_key c.in-Some.due c.args.owner c.args.entry.id) c.args.entry) c.insert.new.self.entries c.insert.ensures.entries c.insert.ensures.err c.self.invariant.0 g.keyed.0, c.self.invariant.1)

pub invariant_of-self-in-None : goal.invariant_of-self-in-None
invariant_of-self-in-None c =
    let idle = c.self.inside.idle.entries in
    let g = put_given (stored_of c.self.inside.timers.entries idle) c.args.self.now c.self.view_is c.self.invariant c.args.owner c.args.entry c.requires None c.in-None.is in
    (c.self.invariant.0, either_way (AllByRecursion IsIdle) c.insert-in-None.result idle (insert_entry name_cmp idle (name c.args.owner c.args.entry.id) c.args.entry) c.insert-in-None.new.self.entries c.insert-in-None.ensures.entries c.insert-in-None.ensures.err c.self.invariant.1 g.keyed.1)

pub returns-in_ok-insert-in-Some-clause-own : goal.returns-in_ok-insert-in-Some-clause-own
returns-in_ok-insert-in-Some-clause-own c = (put_timer c.self.inside.timers.entries c.insert.new.self.entries c.self.inside.idle.entries c.args.self.now c.self.view_is c.self.invariant c.args.owner c.args.entry c.requires c.in-Some.due c.in-Some.is c.in_ok-insert-in-Some.ensures.entries).own

pub returns-in_ok-insert-in-Some-clause-others : goal.returns-in_ok-insert-in-Some-clause-others
returns-in_ok-insert-in-Some-clause-others c = (put_timer c.self.inside.timers.entries c.insert.new.self.entries c.self.inside.idle.entries c.args.self.now c.self.view_is c.self.invariant c.args.owner c.args.entry c.requires c.in-Some.due c.in-Some.is c.in_ok-insert-in-Some.ensures.entries).others

pub returns-in_ok-insert-in-Some-clause-back : goal.returns-in_ok-insert-in-Some-clause-back
returns-in_ok-insert-in-Some-clause-back c = (put_timer c.self.inside.timers.entries c.insert.new.self.entries c.self.inside.idle.entries c.args.self.now c.self.view_is c.self.invariant c.args.owner c.args.entry c.requires c.in-Some.due c.in-Some.is c.in_ok-insert-in-Some.ensures.entries).back

pub returns-in_ok-insert-in-None-clause-own : goal.returns-in_ok-insert-in-None-clause-own
returns-in_ok-insert-in-None-clause-own c = (put_idle c.self.inside.timers.entries c.self.inside.idle.entries c.insert-in-None.new.self.entries c.args.self.now c.self.view_is c.self.invariant c.args.owner c.args.entry c.requires c.in-None.is c.in_ok-insert-in-None.ensures.entries).own

pub returns-in_ok-insert-in-None-clause-others : goal.returns-in_ok-insert-in-None-clause-others
returns-in_ok-insert-in-None-clause-others c = (put_idle c.self.inside.timers.entries c.self.inside.idle.entries c.insert-in-None.new.self.entries c.args.self.now c.self.view_is c.self.invariant c.args.owner c.args.entry c.requires c.in-None.is c.in_ok-insert-in-None.ensures.entries).others

pub returns-in_ok-insert-in-None-clause-back : goal.returns-in_ok-insert-in-None-clause-back
returns-in_ok-insert-in-None-clause-back c = (put_idle c.self.inside.timers.entries c.self.inside.idle.entries c.insert-in-None.new.self.entries c.args.self.now c.self.view_is c.self.invariant c.args.owner c.args.entry c.requires c.in-None.is c.in_ok-insert-in-None.ensures.entries).back
