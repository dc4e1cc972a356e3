use Rattle.std.proofs.Common.{◌≡◌, Some, sym, ap, ◌∙◌, subst, option_map}
use Rattle.tk_after.specs.declared.waiting.WaitingScript.{WaitingScript}
use Rattle.tk_after.specs.Timers.{least, due_moments, first_due}
use Rattle.tk_after.specs.Shared.{Held, entries_of}
use Rattle.tk_after.proofs.Told.{first_told}
use Rattle.tk_after.proofs.timers.Timers.first_due.Goals as goal

pub returns-clause-first : goal.returns-clause-first
returns-clause-first c =
    let earliest = subst (λ (held : Held). least (due_moments (entries_of c.args.owner held)) ≡ Some c.in_ok-due.due) (sym c.self.view_is) (sym c.next_due_of.ensures.value ∙ c.in_ok-due.was) in
    first_told c.self.inside.scripts c.self.inside.index c.self.inside.counters.entries c.args.owner c.self.invariant c.args.moment c.in_ok-due.due c.first_at.result c.first_at.ensures earliest c.if-due-moment.false
    ∙ ap (λ (held : Held). option_map (λ (entry : WaitingScript). entry.id) (first_due c.args.moment (entries_of c.args.owner held))) c.self.view_is
