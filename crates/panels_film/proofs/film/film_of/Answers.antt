use Rattle.std.proofs.Common.{ℕ, ◌+◌, ◌-◌, ap, refl, rules, sym, ◌∙◌, arith}
use Rattle.panels_film.specs.Moments.{count_until}
use Rattle.panels_film.proofs.Filming.{all_filmed, last_filmed, none_filmed, one_filmed}
use Rattle.panels_film.proofs.film.film_of.Goals as goal

pub frames-init : goal.frames-init
frames-init g c = record {
  most = search rules;
  counted = search rules;
  filmed = λ calls begun. none_filmed g.M.AliasMeaning.answer c.args.session.now c.new-frames.result.items calls c.args.live.held c.new-frames.ensures.items begun;
}

pub frames-preserved : goal.frames-preserved
frames-preserved g c =
    let at = c.frames in
    let plan = c.args.session.now in
    let frame = c.in_ok-frame.frame in
    record {
      most = omega (arith, c.in_ok-push_changed.ensures.most, at.invariant.most);
      counted = c.in_ok-push_changed.ensures.counted plan.events
          (c.in_ok-frame.ensures.count ∙ ap (λ (moment : ℕ). count_until moment plan.events) (sym c.in_ok-frame.ensures.moment)) at.invariant.counted;
      filmed = λ calls begun.
          one_filmed g.M.AliasMeaning.answer plan (500 - at._number) (500 - (at._number + 1)) at.count frame.count at.moment c.in-Some.later at.frames.items
          c.push_changed.new.frames.items frame calls at.live.held c.frame_next.new.live.held (omega (arith, c.frames-test.true)) (at.invariant.filmed calls begun)
          c.in_ok-frame.ensures.history c.in_ok-frame.ensures.shown refl (sym c.in_ok-next.ensures ∙ c.in-Some.is) c.in_ok-push_changed.ensures.frames;
    }

pub returns-in-None-clause-counted : goal.returns-in-None-clause-counted
returns-in-None-clause-counted g c =
    let plan = c.args.session.now in
    c.in_ok-push_changed.ensures.counted plan.events
    (c.in_ok-frame.ensures.count ∙ ap (λ (moment : ℕ). count_until moment plan.events) (sym c.in_ok-frame.ensures.moment)) c.frames.invariant.counted

pub returns-in-None-clause-moments : goal.returns-in-None-clause-moments
returns-in-None-clause-moments g c calls begun =
    let at = c.frames in
    let plan = c.args.session.now in
    last_filmed g.M.AliasMeaning.answer plan (500 - at._number) (500 - (at._number + 1)) at.count at.moment at.frames.items c.push_changed.new.frames.items
    c.in_ok-frame.frame calls at.live.held (omega (arith, c.frames-test.true)) (at.invariant.filmed calls begun) c.in_ok-frame.ensures.shown
    (sym c.in_ok-next.ensures ∙ c.in-None.is) c.in_ok-push_changed.ensures.frames

pub returns-clause-moments : goal.returns-clause-moments
returns-clause-moments g c calls begun =
    let at = c.frames in
    all_filmed g.M.AliasMeaning.answer c.args.session.now (500 - at._number) at.count at.moment at.frames.items calls at.live.held (omega (arith, c.frames-test.false))
    (at.invariant.filmed calls begun)
