use Rattle.std.proofs.Common.{◌≡◌, ◌≤◌, ℕ, List, [], length, drop, ap, ◌∙◌, sym, subst}
use Rattle.std.proofs.lemmas.List.{drop_all}
use Rattle.tcl_words.specs.declared.script.Command.{Command}
use Rattle.tcl_control.specs.declared.code.Code.{Code}
use Rattle.tcl_control.specs.declared.code.Code.TheVariants.{Normal}
use Rattle.tcl_interp.specs.Finish.{GoesOn, Waiting}
use Rattle.tcl_interp.specs.Moves.{after_command, moved}
use Rattle.tcl_interp.specs.Rests.{commands_in}
use Rattle.tcl_interp.specs.Whole.{came_to, stopped_in}
use Rattle.tcl_interp.proofs.whole.reach_of.Goals as goal

has_run : {K : Type 0} (room next : ℕ) (commands : List Command) (code : Code) (text : List ℕ) (waits : List (Waiting K)) → length commands ≤ next → code ≡ Normal
    → after_command room (drop next commands) waits code text ≡ moved (GoesOn room [] text) waits
has_run room next commands code text waits past is =
    ap (λ c. after_command room (drop next commands) waits c text) is ∙ ap (λ left. moved (GoesOn room left text) waits) (drop_all next commands past)

pub returns-in-At : goal.returns-in-At
returns-in-At g c = λ waits.
    let past = c.is_whole.ensures c.if-is_whole.true in
    subst (λ came. came_to c.args.room (commands_in c.args.script.now) came waits ≡ moved (GoesOn c.args.room [] c.in-At.text) waits) (sym c.in-At.is)
    (has_run c.args.room c.in-At.next (commands_in c.args.script.now) c.in-At.code c.in-At.text waits past.0 past.1)

pub returns-in-Within : goal.returns-in-Within
returns-in-Within g c = λ waits.
    subst (λ came. came_to c.args.room (commands_in c.args.script.now) came waits ≡ stopped_in c.into_inner.result waits) (sym c.in-Within.is) (ap (λ stop. stopped_in stop waits) (sym c.into_inner.ensures))
