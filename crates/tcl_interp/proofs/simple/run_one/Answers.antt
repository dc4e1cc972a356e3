use Rattle.std.proofs.Common.{◌<◌, ◌+◌, [], ◌∷◌, length, drop, arith}
use Rattle.std.proofs.lemmas.Bool.Decides.{nat_tests}
use Rattle.tcl_interp.specs.Finish.{Calls, ForCommand}
use Rattle.tcl_interp.specs.Moves.{moved, standing}
use Rattle.tcl_interp.specs.Rests.{commands_in, left_in, standing_of, waits_of, words_in_front}
use Rattle.tcl_interp.specs.Simple.{WordsLead}
use Rattle.tcl_interp.specs.Steps.{TakesStep}
use Rattle.tcl_interp.proofs.SimpleLemmas.{place_leads}
use Rattle.tcl_interp.proofs.simple.run_one.Goals as goal

pub returns-in_ok-now-in-Some-clause-ok : goal.returns-in_ok-now-in-Some-clause-ok
returns-in_ok-now-in-Some-clause-ok g c =
    let outside = g.T.Tasks.outside in
    let shows = g.T.Tasks.shows in
    let place = c.args.place in
    let waits = waits_of c.args.frames.now.items in
    let found = c.in-Some.found in
    let after = standing_of c.in_ok-now-in-Some.now c.call_behind.new.frames.items c.call_behind.new.scopes c.call_behind.new.context in
    let front : 0 < length (words_in_front (left_in place)) = rw c.in-Some.is at c.in_ok-found.ensures.front in
    let leads : WordsLead outside place.room c.args.scopes.now c.args.context.now (words_in_front (left_in place)) [] found.steps [] found.words = rw c.in-Some.is at c.in_ok-found.ensures.leads in
    let some : 0 < length found.words = grind (arith, nat_tests) in
    let step : TakesStep outside (standing (moved (Calls place.room found.words) (ForCommand place.room (drop (place.next + 1) (commands_in place.script)) ∷ waits)) c.args.scopes.now c.args.context.now) (shows c.args.tasks.now) after (shows c.call_behind.new.tasks) =
    rw (c.past_command-place.ensures.room, c.past_command-place.ensures.left, c.as_slice-words.ensures) at c.in_ok-now-in-Some.ensures.ok in
    place_leads outside place.room (commands_in place.script) place.next c.args.previous waits (shows c.args.tasks.now) c.args.scopes.now c.args.context.now found.steps found.words after (shows c.call_behind.new.tasks)
    front some leads step
