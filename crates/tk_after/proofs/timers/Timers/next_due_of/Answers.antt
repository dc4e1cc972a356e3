use Rattle.std.proofs.Common.{ℕ, ap, ◌∙◌, sym, subst}
use Rattle.tk_after.specs.Keys.{entries_in}
use Rattle.tk_after.specs.Timers.{IsLeastOf, least, due_moments}
use Rattle.tk_after.specs.Shared.{Held, entries_of}
use Rattle.tk_after.proofs.Earliest.{least_is, least_none-answer, least_some-answer}
use Rattle.tk_after.proofs.Told.{least_told}
use Rattle.tk_after.proofs.timers.Timers.next_due_of.Goals as goal

pub returns-in-Some-clause-value : goal.returns-in-Some-clause-value
returns-in-Some-clause-value c =
    let its = subst (λ (owner : ℕ). IsLeastOf (due_moments (entries_in owner c.self.inside.scripts)) c.in-Some.key.due) c.if-key-owner.true c.in-Some.ensures in
    sym (least_is (due_moments (entries_in c.args.owner c.self.inside.scripts)) c.in-Some.key.due its) ∙ ap (λ (held : Held). least (due_moments (entries_of c.args.owner held))) c.self.view_is

pub returns-in_default-clause-value : goal.returns-in_default-clause-value
returns-in_default-clause-value c = c.next_due.ensures ∙ least_told c.self.inside.scripts c.self.inside.index c.self.inside.counters.entries c.args.owner c.self.invariant ∙ ap (λ (held : Held). least (due_moments (entries_of c.args.owner held))) c.self.view_is

pub returns-in_default-clause-none : goal.returns-in_default-clause-none
returns-in_default-clause-none c =
    let value = c.next_due.ensures ∙ least_told c.self.inside.scripts c.self.inside.index c.self.inside.counters.entries c.args.owner c.self.invariant ∙ ap (λ (held : Held). least (due_moments (entries_of c.args.owner held))) c.self.view_is in
    least_none-answer (due_moments (entries_of c.args.owner c.args.self.now)) c.next_due.result value

pub returns-in_default-clause-least : goal.returns-in_default-clause-least
returns-in_default-clause-least c =
    let value = c.next_due.ensures ∙ least_told c.self.inside.scripts c.self.inside.index c.self.inside.counters.entries c.args.owner c.self.invariant ∙ ap (λ (held : Held). least (due_moments (entries_of c.args.owner held))) c.self.view_is in
    least_some-answer (due_moments (entries_of c.args.owner c.args.self.now)) c.next_due.result value
