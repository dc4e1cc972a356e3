use Rattle.std.proofs.Common.{◌≡◌, ◌-◌, ◌∷◌, Some, None, IsOk, sym, ◌∙◌}
use Rattle.tcl_table.specs.Source.{script_of}
use Rattle.tcl_interp.specs.Finish.{ForNext}
use Rattle.tcl_interp.proofs.TurnLemmas.{behind_none, behind_stopped, behind_whole}
use Rattle.tcl_interp.proofs.turns.behind_body.Goals as goal

pub returns-in_default-clause-ok : goal.returns-in_default-clause-ok
returns-in_default-clause-ok g c = λ text waits shows.
    let looping = c.args.looping.now in
    let none : looping.next ≡ None = sym c.requires.next ∙ c.in_default.is in
    behind_none g.T.Tasks.outside c.args.room (c.args.room - 1) looping text waits shows c.args.scopes.now c.args.context.now none

pub returns-in-Whole-clause-ok : goal.returns-in-Whole-clause-ok
returns-in-Whole-clause-ok g c = λ text waits shows.
    let room = c.args.room in
    let looping = c.args.looping.now in
    let next = c.in-Some.next in
    let reached = c.in_ok-reached.reached in
    let is : looping.next ≡ Some next = sym c.requires.next ∙ c.in-Some.is in
    let read : IsOk (script_of next) = rw c.in-Some.is at c.args.scripts.now.next_read in
    behind_whole g.T.Tasks.outside room (room - 1) looping next text c.in-Whole.field-0 waits shows c.args.scopes.now c.args.context.now c.run_through.new.scopes reached.steps reached.reach
    is c.requires.room read c.in-Whole.is (c.in_ok-reached.ensures.ok (ForNext room looping ∷ waits) shows)

pub returns-clause-ok : goal.returns-clause-ok
returns-clause-ok g c = rw c.in-Stopped.is (λ text waits shows.
    let room = c.args.room in
    let looping = c.args.looping.now in
    let next = c.in-Some.next in
    let reached = c.in_ok-reached.reached in
    let is : looping.next ≡ Some next = sym c.requires.next ∙ c.in-Some.is in
    let read : IsOk (script_of next) = rw c.in-Some.is at c.args.scripts.now.next_read in
    behind_stopped g.T.Tasks.outside room (room - 1) looping next text c.in-Stopped.stop waits shows c.args.scopes.now c.args.context.now c.run_through.new.scopes reached.steps reached.reach
    is c.requires.room read c.in-Stopped.is (c.in_ok-reached.ensures.ok (ForNext room looping ∷ waits) shows))
