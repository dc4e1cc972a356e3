use Rattle.std.proofs.Common.{length, refl, sym, ap, ◌∙◌, subst}
use Rattle.std.proofs.lemmas.List.{length-map}
use Rattle.tk_app.specs.Stages.{first_moment_due}
use Rattle.tk_app.specs.Due.{IsPast}
use Rattle.tk_app.specs.Application.{next_due}
use Rattle.tk_app.specs.MomentsByJob.{settled}
use Rattle.tk_app.specs.Turns.{Applications}
use Rattle.tk_host.specs.AloneByJob.{passed}
use Rattle.tk_host.specs.Slots.{begun_at}
use Rattle.tk_host.specs.Turns.{applications}
use Rattle.tk_host.proofs.Counts.{counted, counts_both, counts_same}
use Rattle.tk_host.proofs.Cut.{cut_on_the_way, cut_way, handed_on, there_as, there_same}
use Rattle.tk_host.proofs.Ways.{way_brought, way_lighter, way_on, way_told}
use Rattle.tk_host.proofs.stages.advance.Goals as goal

pub moments-init : goal.moments-init
moments-init g c = record {
  way = record { rest = c.requires.rest; past = c.requires.past; ahead = c.requires.ahead; brought = refl; turns = refl };
  counts = counts_same c.args.shared.now c.args.shared.now refl refl;
}

pub returns-then-due-target : goal.returns-then-due-target
returns-then-due-target g c =
    let way = c.moments.invariant.way in
    let here = c.moments.shared in
    let past : IsPast c.args.target (first_moment_due next_due (settled g.M.AliasMeaning.answer) (applications here.parts)) = subst (IsPast c.args.target) c.in-Some.ensures c.if-due-target.true in
    record {
      brought = way_brought g.M.AliasMeaning.answer c.args.slice c.args.target c.args.shared.now here way past;
      rest = way.rest;
      past = way.past;
      through = past;
      ahead = way.ahead;
      turns = way_told g.M.AliasMeaning.answer c.args.slice c.args.target c.args.shared.now here way past;
      cut = tt;
      there = tt;
      counts = c.moments.invariant.counts;
    }

pub moments-smaller : goal.moments-smaller
moments-smaller g c =
    let here = c.moments.shared in
    way_lighter g.M.AliasMeaning.answer c.in-Some.due here c.set_moment.new.self c.begin_all.new.shared c.stage.new.shared (sym c.in-Some.ensures) c.moments.invariant.way.rest c.set_moment.ensures c.in_ok-begin_all.ensures.begun c.in_ok-stage.ensures.done

pub moments-preserved : goal.moments-preserved
moments-preserved g c =
    let here = c.moments.shared in
    let told = c.in_ok-stage.ensures in
    let begun = c.begin_all.new.shared in
    record {
      way = way_on g.M.AliasMeaning.answer c.args.slice c.args.target c.in-Some.due c.args.shared.now here c.set_moment.new.self c.begin_all.new.shared c.stage.new.shared (sym c.in-Some.ensures) c.if-due-target.false c.moments.invariant.way
          c.set_moment.ensures c.in_ok-begin_all.ensures.begun told.moment told.done told.turns;
      counts = counts_both c.args.shared.now begun c.stage.new.shared
          (counted c.args.shared.now here c.set_moment.new.self begun c.moments.invariant.counts c.set_moment.ensures c.in_ok-begin_all.ensures.counts) told.counts;
    }

pub returns : goal.returns
returns g c =
    let way = c.moments.invariant.way in
    let here = c.moments.shared in
    let past : IsPast c.args.target (first_moment_due next_due (settled g.M.AliasMeaning.answer) (applications here.parts)) = subst (IsPast c.args.target) c.in_default.ensures tt in
    record {
      brought = way_brought g.M.AliasMeaning.answer c.args.slice c.args.target c.args.shared.now here way past;
      rest = way.rest;
      past = way.past;
      through = past;
      ahead = way.ahead;
      turns = way_told g.M.AliasMeaning.answer c.args.slice c.args.target c.args.shared.now here way past;
      cut = tt;
      there = tt;
      counts = c.moments.invariant.counts;
    }

pub returns-in_err-begin_all-clause-cut : goal.returns-in_err-begin_all-clause-cut
returns-in_err-begin_all-clause-cut g c =
    handed_on c.from_residual.result _ _ c.from_residual.ensures.1
    (cut_way g.M.AliasMeaning.answer c.args.slice _ c.args.target c.args.shared.now c.moments.shared c.begin_all.new.shared.turns c.moments.invariant.way
    (c.in_err-begin_all.ensures.turns ∙ ap (λ (h : Applications _). h.turns) c.set_moment.ensures))

pub returns-in_err-stage-clause-cut : goal.returns-in_err-stage-clause-cut
returns-in_err-stage-clause-cut g c =
    handed_on c.from_residual-in_err-stage.result _ _ c.from_residual-in_err-stage.ensures.1
    (cut_on_the_way g.M.AliasMeaning.answer c.args.slice _ c.args.target c.in-Some.due c.args.shared.now c.moments.shared c.set_moment.new.self c.begin_all.new.shared c.stage.new.shared.turns (sym c.in-Some.ensures)
    c.if-due-target.false c.moments.invariant.way c.set_moment.ensures c.in_ok-begin_all.ensures.begun c.in_err-stage.ensures.cut)

pub returns-in_err-begin_all-clause-there : goal.returns-in_err-begin_all-clause-there
returns-in_err-begin_all-clause-there g c =
    let there = there_as _ _ _ (ap (λ (h : Applications _). length h.parts) c.set_moment.ensures) c.in_err-begin_all.ensures.there in
    handed_on c.from_residual.result _ _ c.from_residual.ensures.1
    (there_same (passed g.M.AliasMeaning.answer c.args.target) _ c.moments.shared.parts c.args.shared.now.parts c.moments.invariant.way.brought there)

pub returns-in_err-stage-clause-there : goal.returns-in_err-stage-clause-there
returns-in_err-stage-clause-there g c =
    let before = c.set_moment.new.self in
    let begun = there_as _ _ _ (ap (λ (h : Applications _). length h.parts) c.in_ok-begin_all.ensures.begun ∙ length-map before.parts (begun_at c.in-Some.due)) c.in_err-stage.ensures.there in
    let there = there_as _ _ _ (ap (λ (h : Applications _). length h.parts) c.set_moment.ensures) begun in
    handed_on c.from_residual-in_err-stage.result _ _ c.from_residual-in_err-stage.ensures.1
    (there_same (passed g.M.AliasMeaning.answer c.args.target) _ c.moments.shared.parts c.args.shared.now.parts c.moments.invariant.way.brought there)

pub returns-in_err-begin_all-clause-counts : goal.returns-in_err-begin_all-clause-counts
returns-in_err-begin_all-clause-counts g c =
    counted c.args.shared.now c.moments.shared c.set_moment.new.self c.begin_all.new.shared c.moments.invariant.counts c.set_moment.ensures c.in_err-begin_all.ensures.counts

pub returns-in_err-stage-clause-counts : goal.returns-in_err-stage-clause-counts
returns-in_err-stage-clause-counts g c =
    let begun = c.begin_all.new.shared in
    counts_both c.args.shared.now begun c.stage.new.shared
    (counted c.args.shared.now c.moments.shared c.set_moment.new.self begun c.moments.invariant.counts c.set_moment.ensures c.in_ok-begin_all.ensures.counts) c.in_err-stage.ensures.counts
