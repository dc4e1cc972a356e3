use Rattle.std.proofs.Common.{take, sym, subst}
use Rattle.std.proofs.lemmas.Result.{err_from_is_err_and}
use Rattle.panels.specs.Course.{IsAt, Way, went}
use Rattle.panels.proofs.Taken.{refused-at, takes_all-more}
use Rattle.panels.proofs.Ways.{went-more}
use Rattle.panels.proofs.playing.go_through.Goals as goal

pub loop-number-preserved : goal.loop-number-preserved
loop-number-preserved g c =
    let at = c.loop-number in
    let answer = g.M.AliasMeaning.answer in
    record {
      begun = c.in_ok-enter.ensures.begun;
      gone = λ way is.
          subst (λ (w : Way g.row.M.Denot). IsAt answer w c.enter.new.host.held c.enter.new.course) (sym (went-more answer c.args.entries.now at.number c.index-entries-number.result way c.loop-number-test.true c.index-entries-number.is))
          (c.in_ok-enter.ensures.course (went answer 0 (take at.number c.args.entries.now) way) (at.invariant.gone way is));
      taken = λ way is.
          takes_all-more answer c.args.entries.now at.number c.index-entries-number.result way c.loop-number-test.true c.index-entries-number.is (at.invariant.taken way is)
          (c.in_ok-enter.ensures.taken (went answer 0 (take at.number c.args.entries.now) way) (at.invariant.gone way is));
    }

pub returns-in_err-enter-clause-refused : goal.returns-in_err-enter-clause-refused
returns-in_err-enter-clause-refused g c way is =
    let at = c.loop-number in
    let answer = g.M.AliasMeaning.answer in
    let entries = c.args.entries.now in
    let p = err_from_is_err_and c.from_residual.result c.from_residual.ensures.1 in
    rw (p.1, p.2)
    (refused-at answer entries at.number c.index-entries-number.result way c.loop-number-test.true c.index-entries-number.is (at.invariant.taken way is) c.in_err-enter.field-0.0
    (c.in_err-enter.ensures.refused (went answer 0 (take at.number entries) way) (at.invariant.gone way is)))
