use Rattle.std.proofs.Common.{◌≡◌, None, refl, sym, ap, ◌∙◌, subst, option_map}
use Rattle.tk_after.specs.declared.waiting.WaitingScript.{WaitingScript}
use Rattle.tk_after.specs.Keys.{IsMarked, entries_in, held_by}
use Rattle.tk_after.specs.Timers.{entry_with, without}
use Rattle.tk_after.specs.Shared.{Held, own_of, entries_of}
use Rattle.tk_after.proofs.Kept.{Done, removed}
use Rattle.tk_after.proofs.Told.{marked, nothing_out, rising_in, takes_some, unlisted}
use Rattle.tk_after.proofs.timers.Timers.cancel.Goals as goal
use Rattle.tk_after.proofs.timers.Timers.cancel.Goals.{After-count_less}

-- the number is listed by when it is due, and its entry is what was taken
is_marked : (c : After-count_less) → IsMarked c.args.id c.in_ok-due.due (entries_in c.args.owner c.self.inside.scripts)
is_marked c = marked c.self.inside.scripts c.self.inside.index c.self.inside.counters.entries c.args.owner c.self.invariant c.args.id c.in_ok-due.due c.due_of.result c.due_of.ensures c.in_ok-due.was

taken : (c : After-count_less) → c.take.result ≡ entry_with c.args.id (entries_in c.args.owner c.self.inside.scripts)
taken c = c.take.ensures.entry (rising_in c.self.inside.scripts c.self.inside.index c.self.inside.counters.entries c.args.owner c.self.invariant) (is_marked c)

gone : (c : After-count_less) → Done c.self.inside.scripts c.take.new.self c.remove.new.self c.self.inside.counters.entries c.count_less.new.counters.entries c.args.owner
    (without c.args.id (own_of c.args.owner (held_by c.self.inside.scripts c.self.inside.counters.entries)))
gone c =
    removed c.self.inside.scripts c.take.new.self c.self.inside.index c.remove.new.self c.self.inside.counters.entries c.count_less.new.counters.entries c.args.owner c.self.invariant c.args.id c.in_ok-entry.entry
    (sym (taken c) ∙ c.in_ok-entry.was)
    (c.take.ensures.own (rising_in c.self.inside.scripts c.self.inside.index c.self.inside.counters.entries c.args.owner c.self.invariant) (is_marked c))
    c.take.ensures.others c.remove.ensures.own c.remove.ensures.others c.count_less.ensures

pub returns-in_err-due-clause-script : goal.returns-in_err-due-clause-script
returns-in_err-due-clause-script c =
    let none = unlisted c.self.inside.scripts c.self.inside.index c.self.inside.counters.entries c.args.owner c.self.invariant c.args.id c.due_of.result c.due_of.ensures c.in_err-due.was in
    let none_now : entry_with c.args.id (entries_of c.args.owner c.args.self.now) ≡ None = subst (λ (held : Held). entry_with c.args.id (entries_of c.args.owner held) ≡ None) c.self.view_is none in
    rw (c.from_residual.ensures, none_now) refl

pub returns-in_err-due-clause-own : goal.returns-in_err-due-clause-own
returns-in_err-due-clause-own c =
    let none = unlisted c.self.inside.scripts c.self.inside.index c.self.inside.counters.entries c.args.owner c.self.invariant c.args.id c.due_of.result c.due_of.ensures c.in_err-due.was in
    nothing_out (own_of c.args.owner c.args.self.now) c.args.id (subst (λ (held : Held). entry_with c.args.id (entries_of c.args.owner held) ≡ None) c.self.view_is none)

pub invariant_of-self : goal.invariant_of-self
invariant_of-self c =
    absurd
    (takes_some c.self.inside.scripts c.self.inside.index c.self.inside.counters.entries c.args.owner c.self.invariant c.args.id c.in_ok-due.due c.due_of.result c.due_of.ensures c.in_ok-due.was c.take.result c.take.ensures.entry c.in_err-entry.was)

pub returns-in_err-entry-clause-script : goal.returns-in_err-entry-clause-script
returns-in_err-entry-clause-script c =
    absurd
    (takes_some c.self.inside.scripts c.self.inside.index c.self.inside.counters.entries c.args.owner c.self.invariant c.args.id c.in_ok-due.due c.due_of.result c.due_of.ensures c.in_ok-due.was c.take.result c.take.ensures.entry c.in_err-entry.was)

pub returns-in_err-entry-clause-own : goal.returns-in_err-entry-clause-own
returns-in_err-entry-clause-own c =
    absurd
    (takes_some c.self.inside.scripts c.self.inside.index c.self.inside.counters.entries c.args.owner c.self.invariant c.args.id c.in_ok-due.due c.due_of.result c.due_of.ensures c.in_ok-due.was c.take.result c.take.ensures.entry c.in_err-entry.was)

pub invariant_of-self-2 : goal.invariant_of-self-2
invariant_of-self-2 c = (gone c).kept

pub returns-clause-own : goal.returns-clause-own
returns-clause-own c = (gone c).own_is ∙ ap (λ (held : Held). without c.args.id (own_of c.args.owner held)) c.self.view_is

pub returns-clause-script : goal.returns-clause-script
returns-clause-script c =
    ap (option_map (λ (entry : WaitingScript). entry.script)) (sym c.in_ok-entry.was ∙ taken c)
    ∙ ap (λ (held : Held). option_map (λ (entry : WaitingScript). entry.script) (entry_with c.args.id (entries_of c.args.owner held))) c.self.view_is
