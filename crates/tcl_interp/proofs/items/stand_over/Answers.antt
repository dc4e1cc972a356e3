use Rattle.std.proofs.Common.{◌≡◌, ◌∷◌, IfOk, ap, sym, subst, ◌∙◌}
use Rattle.std.proofs.lemmas.Result.{IfOk-weaker}
use Rattle.tcl_interp.specs.Finish.{ForBody}
use Rattle.tcl_interp.specs.Items.{halted_over}
use Rattle.tcl_interp.specs.Rests.{moved_of, waits_of}
use Rattle.tcl_interp.specs.Whole.{stopped_in}
use Rattle.tcl_interp.proofs.items.stand_over.Goals as goal

pub returns-in_ok-looping-in-Body-clause-now : goal.returns-in_ok-looping-in-Body-clause-now
returns-in_ok-looping-in-Body-clause-now g c =
    let waits = waits_of c.args.frames.now.items in
    subst (λ at. IfOk c.stand_in.result (λ now. moved_of now c.stand_in.new.frames.items ≡ halted_over c.args.room c.args.body waits at)) (sym c.in-Body.is)
    (IfOk-weaker c.stand_in.result _ _ (λ now is. is ∙ ap (λ l. stopped_in c.in-Body.stop (ForBody c.args.room l ∷ waits)) c.in_ok-looping-in-Body.ensures) c.stand_in.ensures.now)
