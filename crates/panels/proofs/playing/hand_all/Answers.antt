use Rattle.std.proofs.Common.{take, sym, subst}
use Rattle.std.proofs.lemmas.Result.{err_from_is_err_and}
use Rattle.tk_route.specs.Refusals.{IsFirst}
use Rattle.tk_host.specs.Refusals.{RefusesLine, line_faults}
use Rattle.panels.specs.Course.{IsAt, Way, handed_all}
use Rattle.panels.specs.Refusals.{RefusesLines}
use Rattle.panels.proofs.Taken.{of_entry-map, refuses_lines-at, takes_lines-more}
use Rattle.panels.proofs.Ways.{handed_all-more}
use Rattle.panels.proofs.playing.hand_all.Goals as goal

pub loop-line-preserved : goal.loop-line-preserved
loop-line-preserved g c =
    let at = c.loop-line in
    let answer = g.M.AliasMeaning.answer in
    record {
      begun = c.in_ok-hand.ensures.begun;
      handed = λ way is.
          subst (λ (w : Way g.row.M.Denot). IsAt answer w c.hand.new.host.held c.hand.new.course) (sym (handed_all-more c.args.moment c.args.lines.now at.line-index c.line-item.result way c.loop-line-test.true c.line-item.is))
          (c.in_ok-hand.ensures.course (handed_all c.args.moment (take at.line-index c.args.lines.now) way) (at.invariant.handed way is));
      taken = λ way is.
          takes_lines-more answer c.args.moment c.args.lines.now at.line-index c.line-item.result way at.host.held c.loop-line-test.true c.line-item.is (at.invariant.handed way is).held_is (at.invariant.taken way is) c.in_ok-hand.ensures.taken;
    }

pub returns-in_err-hand-clause-refused : goal.returns-in_err-hand-clause-refused
returns-in_err-hand-clause-refused g c way is =
    let at = c.loop-line in
    let answer = g.M.AliasMeaning.answer in
    let moment = c.args.moment in
    let lines = c.args.lines.now in
    let line = c.line-item.result in
    let p = err_from_is_err_and c.from_residual.result c.from_residual.ensures.1 in
    rw (p.1, p.2)
    (of_entry-map (IsFirst (RefusesLine at.host.held moment line) line_faults) (RefusesLines answer moment lines way) c.args.entry c.in_err-hand.field-0.0
    (refuses_lines-at answer moment lines at.line-index line way at.host.held c.loop-line-test.true c.line-item.is (at.invariant.handed way is).held_is (at.invariant.taken way is))
    c.in_err-hand.ensures.refused)
