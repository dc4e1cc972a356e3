-- generic in K alone; push's clause and copy's
use Rattle.std.proofs.Common.{◌≡◌, ◌++◌, [], ◌∷◌, drop, map, ap, ◌∙◌}
use Rattle.tcl_interp.specs.declared.machine.ScriptPlace.{ScriptPlace}
use Rattle.tcl_interp.specs.Finish.{ForCommand}
use Rattle.tcl_interp.specs.Moves.{after_command}
use Rattle.tcl_interp.specs.Rests.{commands_in, left_in}
use Rattle.tcl_interp.specs.Whole.{waiting_at}
use Rattle.tcl_interp.proofs.WholeLemmas.{waits_on}
use Rattle.tcl_interp.proofs.whole.stopped_within.Goals as goal

pub returns : goal.returns
returns g c = λ waits.
    let stop = c.args.stop in
    let place : ScriptPlace = record { script = c.in_ok-copy.field-0; next = c.args.next; room = c.args.room } in
    let pushed : c.push.new.self.items ≡ stop.outer.items ++ place ∷ [] = c.in_ok-push.ensures.items in
    ap (λ all. after_command stop.place.room (left_in stop.place) all stop.code stop.text)
    (ap (λ items. map waiting_at items ++ waits) pushed ∙ waits_on stop.outer.items place waits
    ∙ ap (λ script. map waiting_at stop.outer.items ++ (ForCommand c.args.room (drop c.args.next (commands_in script)) ∷ waits)) c.in_ok-copy.ensures.ok)
