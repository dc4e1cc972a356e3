use Rattle.std.proofs.Common.{◌≡◌, None, refl, subst}
use Rattle.tk_after.specs.Timers.{entry_with}
use Rattle.tk_after.specs.Shared.{Held, entries_of}
use Rattle.tk_after.proofs.Told.{marked, rising_in, unlisted}
use Rattle.tk_after.proofs.timers.Timers.entry.Goals as goal

pub returns-in_err-due : goal.returns-in_err-due
returns-in_err-due c =
    let none = unlisted c.self.inside.scripts c.self.inside.index c.self.inside.counters.entries c.args.owner c.self.invariant c.args.id c.due_of.result c.due_of.ensures c.in_err-due.was in
    let none_now : entry_with c.args.id (entries_of c.args.owner c.args.self.now) ≡ None = subst (λ (held : Held). entry_with c.args.id (entries_of c.args.owner held) ≡ None) c.self.view_is none in
    rw (c.from_residual.ensures, none_now) refl

pub get-requires-clause-rising : goal.get-requires-clause-rising
get-requires-clause-rising c = rising_in c.self.inside.scripts c.self.inside.index c.self.inside.counters.entries c.args.owner c.self.invariant

pub get-requires-clause-marked : goal.get-requires-clause-marked
get-requires-clause-marked c = marked c.self.inside.scripts c.self.inside.index c.self.inside.counters.entries c.args.owner c.self.invariant c.args.id c.in_ok-due.due c.due_of.result c.due_of.ensures c.in_ok-due.was
