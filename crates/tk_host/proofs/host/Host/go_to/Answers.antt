use Rattle.std.proofs.Common.{◌≡◌, ◌≤◌, arith, refl, sym, ap, ◌∙◌, subst}
use Rattle.std.proofs.lemmas.Result.{err_from_is_err_and}
use Rattle.tk_app.specs.Stages.{first_moment_due}
use Rattle.tk_app.specs.Due.{IsPast}
use Rattle.tk_app.specs.Application.{next_due}
use Rattle.tk_app.specs.MomentsByJob.{settled}
use Rattle.tk_app.specs.Turns.{Applications}
use Rattle.tk_host.specs.declared.phase.Phase.TheVariants.{Reached}
use Rattle.tk_host.specs.Held.{Hosted}
use Rattle.tk_host.specs.Ready.{AllRest}
use Rattle.tk_host.specs.Turns.{applications}
use Rattle.tk_host.proofs.Counts.{tells_all}
use Rattle.tk_host.proofs.Cut.{cut_going, there_cleared}
use Rattle.tk_host.proofs.History.{not_back, reached_if_not_refused}
use Rattle.tk_host.proofs.Kept.{gone_is, ready_gone, routed_gone}
use Rattle.tk_host.proofs.host.Host.go_to.Goals as goal

pub returns-in_err-may_go_to-clause-refused : goal.returns-in_err-may_go_to-clause-refused
returns-in_err-may_go_to-clause-refused g c =
    let p = err_from_is_err_and c.from_residual.result c.from_residual.ensures.1 in rw (p.1, p.2) c.in_err-may_go_to.ensures.answer

pub advance-requires : goal.advance-requires
advance-requires g c =
    let phase = c.args.self.now.held.phase in
    let none = c.in_ok-may_go_to.ensures.answer in
    let from = reached_if_not_refused phase c.requires.begun none.0 none.1.0 in
    let there : c.self.inside.phase ≡ Reached from.0 = ap (λ (h : Hosted _). h.held.phase) c.self.view_is ∙ from.1 in
    let ready = c.self.invariant.1.reached from.0 there in
    let ahead : from.0 ≤ c.args.moment = not_back phase from.0 c.args.moment from.1 none.1.1.1.0 in
    let clear = c.clear_turns.ensures in
    record {
      slice = c.self.invariant.0;
      in_time = omega (arith, none.1.1.0);
      rest = subst (λ (h : Applications _). AllRest h.parts) (sym clear) ready.1;
      past = subst (λ (h : Applications _). IsPast h.moment (first_moment_due next_due (settled g.M.AliasMeaning.answer) (applications h.parts))) (sym clear) ready.2;
      ahead = omega (arith, ap (λ (h : Applications _). h.moment) clear, ready.0, ahead);
    }

pub invariant_of-self-2 : goal.invariant_of-self-2
invariant_of-self-2 g c =
    let gone = c.in-Ok.ensures in
    let after = c.advance.new.shared in
    let none = c.in_ok-may_go_to.ensures.answer in
    let from = reached_if_not_refused c.args.self.now.held.phase c.requires.begun none.0 none.1.0 in
    let there : c.self.inside.phase ≡ Reached from.0 = ap (λ (h : Hosted _). h.held.phase) c.self.view_is ∙ from.1 in
    let forward : from.0 ≤ c.args.moment = not_back c.args.self.now.held.phase from.0 c.args.moment from.1 none.1.1.1.0 in (
      c.self.invariant.0,
      ready_gone g.M.AliasMeaning.answer c.args.phase c.args.moment after.moment after.parts c.requires.there gone.rest gone.past gone.ahead,
      routed_gone c.self.inside.phase c.args.phase from.0 c.args.moment c.self.inside.rects.items c.self.inside.router c.self.inside.shared.parts after.parts there forward c.requires.there c.self.invariant.2,
    )

pub returns-clause-gone : goal.returns-clause-gone
returns-clause-gone g c =
    let inside = c.self.inside in
    let phase = c.args.self.now.held.phase in
    let none = c.in_ok-may_go_to.ensures.answer in
    let from = reached_if_not_refused phase c.requires.begun none.0 none.1.0 in
    let there : inside.phase ≡ Reached from.0 = ap (λ (h : Hosted _). h.held.phase) c.self.view_is ∙ from.1 in
    let ready = c.self.invariant.1.reached from.0 there in
    let gone = c.in-Ok.ensures in
    gone_is g.M.AliasMeaning.answer inside.phase c.args.phase from.0 c.args.moment inside.rects.items inside.router inside.asker inside.slice inside.shared c.clear_turns.new.self c.advance.new.shared c.args.self.now there c.requires.there c.self.view_is ready.1 c.clear_turns.ensures
    gone.brought gone.rest gone.turns

pub returns-in-Err-clause-cut : goal.returns-in-Err-clause-cut
returns-in-Err-clause-cut g c =
    let inside = c.self.inside in
    let old = c.args.self.now in
    let slot = c.in-Err.unserved.slot in
    let cleared = c.clear_turns.new.self in
    let parts = ap (λ (h : Hosted _). h.held.parts) c.self.view_is in (
      record {
        slot = slot;
        asked = refl;
        there = there_cleared slot inside.shared cleared old.held.parts c.clear_turns.ensures parts c.in-Err.ensures.there;
        cut = cut_going g.M.AliasMeaning.answer inside.phase c.args.phase c.args.moment inside.rects.items inside.router inside.asker inside.slice slot inside.shared cleared old c.advance.new.shared.turns c.self.view_is
            c.clear_turns.ensures c.in-Err.ensures.cut;
      },
      tells_all inside.shared cleared c.advance.new.shared old.held.parts c.clear_turns.ensures parts c.in-Err.ensures.counts,
    )

pub returns-in_err-may_go_to-clause-cut : goal.returns-in_err-may_go_to-clause-cut
returns-in_err-may_go_to-clause-cut g c =
    let p = err_from_is_err_and c.from_residual.result c.from_residual.ensures.1 in rw (p.1, p.2) tt
