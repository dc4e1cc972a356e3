use Rattle.std.proofs.Common.{◌≡◌}
use Rattle.tcl_control.specs.Loops.{More, NoMore, Fails, items_tested}
use Rattle.tcl_interp.proofs.ItemsLemmas.{turn_fails, turn_over, turn_stopped, turn_whole}
use Rattle.tcl_interp.proofs.items.items_turn.Goals as goal

pub returns-in-NoMore-clause-ok : goal.returns-in-NoMore-clause-ok
returns-in-NoMore-clause-ok g c = λ waits shows.
    let store = c.args.scopes.now in
    let none : NoMore c.items_tested.new.scopes ≡ items_tested c.here-level.result c.args.groups store = rw c.in-NoMore.is at c.in_ok-verdict.ensures in
    turn_over g.T.Tasks.outside c.args.room c.here-level.result c.args.body.now c.args.groups waits shows store c.args.context.now c.items_tested.new.scopes c.here-level.ensures.value none

pub returns-in-Fails-clause-ok : goal.returns-in-Fails-clause-ok
returns-in-Fails-clause-ok g c = λ waits shows.
    let store = c.args.scopes.now in
    let text = c.in-Fails.text in
    let fails : Fails c.items_tested.new.scopes text ≡ items_tested c.here-level.result c.args.groups store = rw c.in-Fails.is at c.in_ok-verdict.ensures in
    turn_fails g.T.Tasks.outside c.args.room c.here-level.result c.args.body.now c.args.groups text waits shows store c.args.context.now c.items_tested.new.scopes c.here-level.ensures.value fails

pub returns-in-Whole-clause-ok : goal.returns-in-Whole-clause-ok
returns-in-Whole-clause-ok g c = λ waits shows.
    let store = c.args.scopes.now in
    let rest = c.in-More.groups in
    let reached = c.in_ok-reached-in-More.reached in
    let more : More c.items_tested.new.scopes rest ≡ items_tested c.here-level.result c.args.groups store = rw c.in-More.is at c.in_ok-verdict.ensures in
    turn_whole g.T.Tasks.outside c.args.room c.here-level.result c.args.body.now c.args.groups rest c.in-Whole.field-0 waits shows store c.args.context.now c.items_tested.new.scopes c.run_through.new.scopes reached.steps reached.reach
    c.here-level.ensures.value more c.requires.room c.requires.read c.in-Whole.is (c.in_ok-reached-in-More.ensures.ok _ shows)

pub returns-clause-ok : goal.returns-clause-ok
returns-clause-ok g c = rw c.in-Stopped.is (λ waits shows.
    let store = c.args.scopes.now in
    let rest = c.in-More.groups in
    let reached = c.in_ok-reached-in-More.reached in
    let more : More c.items_tested.new.scopes rest ≡ items_tested c.here-level.result c.args.groups store = rw c.in-More.is at c.in_ok-verdict.ensures in
    turn_stopped g.T.Tasks.outside c.args.room c.here-level.result c.args.body.now c.args.groups rest c.in-Stopped.stop waits shows store c.args.context.now c.items_tested.new.scopes c.run_through.new.scopes reached.steps reached.reach
    c.here-level.ensures.value more c.requires.room c.requires.read c.in-Stopped.is (c.in_ok-reached-in-More.ensures.ok _ shows))
