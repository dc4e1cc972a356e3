use Rattle.std.proofs.Common.{◌≡◌, ◌++◌, [], map, ap, sym, ◌∙◌, arith}
use Rattle.std.proofs.lemmas.List.{nil_from_length}
use Rattle.tcl_interp.specs.Moves.{after_command}
use Rattle.tcl_interp.specs.Rests.{left_in, waits_of}
use Rattle.tcl_interp.specs.Whole.{waiting_at}
use Rattle.tcl_interp.proofs.WholeLemmas.{waits_on}
use Rattle.tcl_interp.proofs.turns.stand.Goals as goal

pub places-preserved : goal.places-preserved
places-preserved g c =
    let rest = c.pop.new.self.items in
    let waiting = c.in-Some.waiting in
    let frames = waits_of c.places.frames.items in
    ap (λ all. map waiting_at rest ++ all) c.in_ok-wait.ensures ∙ sym (waits_on rest waiting frames) ∙ ap (λ items. map waiting_at items ++ frames) (sym c.in-Some.ensures.items) ∙ c.places.invariant

pub returns-clause-now : goal.returns-clause-now
returns-clause-now g c =
    let stop = c.args.stop in
    let waits = waits_of c.places.frames.items in
    let none : c.places.outer.items ≡ [] = nil_from_length c.places.outer.items (omega (arith, c.in_default.ensures.cases.0)) in
    let all : waits ≡ map waiting_at stop.outer.items ++ waits_of c.args.frames.now.items = ap (λ items. map waiting_at items ++ waits) (sym none) ∙ c.places.invariant in
    c.after_command.ensures waits ∙ ap (λ own. after_command stop.place.room (left_in stop.place) own stop.code stop.text) all
