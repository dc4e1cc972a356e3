use Rattle.std.proofs.Common.{◌≡◌, false, sym, subst}
use Rattle.tk_base.specs.Numbered.{AllBelow}
use Rattle.tk_after.specs.Keys.{number_of, entries_in, held_by}
use Rattle.tk_after.specs.Timers.{is_full}
use Rattle.tk_after.specs.Shared.{Held, own_of}
use Rattle.tk_after.proofs.Kept.{inserted, kept_below, next_unmarked}
use Rattle.tk_after.proofs.timers.Timers.insert.Goals as goal

pub insert-requires : goal.insert-requires
insert-requires c =
    let own = own_of c.args.owner (held_by c.self.inside.scripts c.self.inside.counters.entries) in
    subst (λ n. AllBelow number_of n (entries_in c.args.owner c.self.inside.scripts)) (sym c.counter_of-id.ensures.next) (kept_below own (c.self.invariant.sound c.args.owner))

pub list_number-requires-clause-below : goal.list_number-requires-clause-below
list_number-requires-clause-below c = next_unmarked c.self.inside.scripts c.self.inside.index c.self.inside.counters.entries c.args.owner c.self.invariant

pub invariant_of-self-in-Ok : goal.invariant_of-self-in-Ok
invariant_of-self-in-Ok c =
    let room = subst (λ (held : Held). is_full (own_of c.args.owner held) ≡ false) (sym c.self.view_is) c.requires in
    let done = inserted c.self.inside.scripts c.insert.new.self c.self.inside.index c.list_number.new.index c.self.inside.counters.entries c.list_number.new.counters.entries c.args.owner c.self.invariant
    c.counter_of-id.result.next c.args.due c.args.script c.counter_of-id.ensures.next room c.in_ok-insert.ensures.own c.insert.ensures.others c.in-Ok.ensures.ok c.list_number.ensures.others c.in-Ok.ensures.counts in
    done.kept
