use Rattle.std.proofs.Common.{◌≡◌, ℕ, Bool, List, Result, false, drop, Ok, ap, sym, ◌∙◌}
use Rattle.std.proofs.lemmas.Result.{IfOk-weaker}
use Rattle.tcl_control.specs.Expressions.{truth_of_text}
use Rattle.tcl_interp.specs.declared.machine.Choosing.{Choosing}
use Rattle.tcl_interp.specs.Finish.{Waiting}
use Rattle.tcl_interp.specs.Moves.{Moved, chosen_move}
use Rattle.tcl_interp.specs.Rests.{waits_of}
use Rattle.tcl_interp.proofs.ChoiceLemmas.{chosen_on}
use Rattle.tcl_interp.proofs.expressions.branch_by.Goals as goal

on_same : {K : Type 0} (after : Moved K) (room : ℕ) (waits : List (Waiting K)) (truth : Result Bool (List ℕ)) (a b : Choosing) → a ≡ b
    → after ≡ chosen_move room (drop a.place a.choices.branches) a.choices.otherwise waits truth
    → after ≡ chosen_move room (drop b.place b.choices.branches) b.choices.otherwise waits truth
on_same after room waits truth a b e h = rw (sym e) h

pub returns-in-Ok-false-clause-now : goal.returns-in-Ok-false-clause-now
returns-in-Ok-false-clause-now g c =
    let choosing = c.into_inner-choices.result in
    let waits = waits_of c.args.frames.now.items in
    let fails : Ok false ≡ truth_of_text c.args.value.now = sym (ap Ok c.in-Ok-false.field-0-test) ∙ sym c.in-Ok-false.is ∙ c.in_ok-truth.ensures in
    IfOk-weaker c.choose.result _ _ (λ _ branch_by.
    on_same _ c.args.room waits (truth_of_text c.args.value.now) choosing c.args.choosing.value c.into_inner-choices.ensures
    (branch_by
    ∙ chosen_on c.args.room choosing.choices.otherwise waits choosing.choices.branches choosing.place choosing.within
    ∙ ap (chosen_move c.args.room (drop choosing.place choosing.choices.branches) choosing.choices.otherwise waits) fails)) c.choose.ensures.now
