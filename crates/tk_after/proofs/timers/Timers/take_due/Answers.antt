use Rattle.std.proofs.Common.{sym, ap, ◌∙◌, option_map}
use Rattle.std.proofs.lemmas.Option.{none-some}
use Rattle.tk_after.specs.declared.waiting.WaitingScript.{WaitingScript}
use Rattle.tk_after.specs.Shared.{own_of, entries_of}
use Rattle.tk_after.proofs.Dues.{first_due-none}
use Rattle.tk_after.proofs.Told.{first_is, first_script, first_taken, none_first}
use Rattle.tk_after.proofs.timers.Timers.take_due.Goals as goal

pub returns-in_err-id-clause-none : goal.returns-in_err-id-clause-none
returns-in_err-id-clause-none c =
    let entries = entries_of c.args.owner c.args.self.now in
    rw c.from_residual.ensures (first_due-none c.args.moment entries (none_first c.args.moment entries c.first_due.result c.first_due.ensures.first c.in_err-id.was))

pub returns-in_err-script-clause-taken : goal.returns-in_err-script-clause-taken
returns-in_err-script-clause-taken c =
    let first = first_is c.args.moment (own_of c.args.owner c.args.self.now) c.first_due.ensures.kept c.in_ok-id.id c.first_due.result c.first_due.ensures.first c.in_ok-id.was in
    absurd (none-some _ (sym c.in_err-script.was ∙ c.cancel.ensures.script ∙ ap (option_map (λ (entry : WaitingScript). entry.script)) first.listed))

pub returns-in_err-script-clause-none : goal.returns-in_err-script-clause-none
returns-in_err-script-clause-none c =
    let first = first_is c.args.moment (own_of c.args.owner c.args.self.now) c.first_due.ensures.kept c.in_ok-id.id c.first_due.result c.first_due.ensures.first c.in_ok-id.was in
    absurd (none-some _ (sym c.in_err-script.was ∙ c.cancel.ensures.script ∙ ap (option_map (λ (entry : WaitingScript). entry.script)) first.listed))

pub returns-in_err-script-clause-own : goal.returns-in_err-script-clause-own
returns-in_err-script-clause-own c =
    let first = first_is c.args.moment (own_of c.args.owner c.args.self.now) c.first_due.ensures.kept c.in_ok-id.id c.first_due.result c.first_due.ensures.first c.in_ok-id.was in
    absurd (none-some _ (sym c.in_err-script.was ∙ c.cancel.ensures.script ∙ ap (option_map (λ (entry : WaitingScript). entry.script)) first.listed))

pub returns-clause-taken : goal.returns-clause-taken
returns-clause-taken c =
    let first = first_is c.args.moment (own_of c.args.owner c.args.self.now) c.first_due.ensures.kept c.in_ok-id.id c.first_due.result c.first_due.ensures.first c.in_ok-id.was in
    first_taken c.args.moment (entries_of c.args.owner c.args.self.now) c.in_ok-id.id c.in_ok-script.script first (sym c.in_ok-script.was ∙ c.cancel.ensures.script)

pub returns-clause-first : goal.returns-clause-first
returns-clause-first c =
    let first = first_is c.args.moment (own_of c.args.owner c.args.self.now) c.first_due.ensures.kept c.in_ok-id.id c.first_due.result c.first_due.ensures.first c.in_ok-id.was in
    first_script c.args.moment (own_of c.args.owner c.args.self.now) c.first_due.ensures.kept c.in_ok-id.id c.in_ok-script.script first (sym c.in_ok-script.was ∙ c.cancel.ensures.script)
