use Rattle.std.proofs.Common.{◌≡◌, ◌≤◌, ◌<◌, arith, refl, sym, ap, ◌∙◌, subst}
use Rattle.tk_app.specs.Stages.{first_moment_due}
use Rattle.tk_app.specs.Due.{IsPast}
use Rattle.tk_route.specs.Lines.{at}
use Rattle.tk_route.specs.Answers.{deliveries}
use Rattle.tk_app.specs.Application.{next_due}
use Rattle.tk_app.specs.MomentsByJob.{settled}
use Rattle.tk_app.specs.Turns.{Applications}
use Rattle.tk_host.specs.declared.phase.Phase.TheVariants.{Reached}
use Rattle.tk_host.specs.Held.{Hosted, first_rects, lines_of}
use Rattle.tk_host.specs.Ready.{AllRest}
use Rattle.tk_host.specs.Slots.{AreAt}
use Rattle.tk_host.specs.Turns.{applications}
use Rattle.tk_host.proofs.Counts.{counts_both, counts_keep, counts_same, keeps_both, tells_at_least}
use Rattle.tk_host.proofs.Cut.{broken_as, cut_and_least, cut_before_line, cut_line, there_came, there_cleared}
use Rattle.tk_host.proofs.Fits.{fits_held}
use Rattle.tk_host.proofs.History.{history_of_line, known_lines, not_back, reached_if_not_refused, turns_of_line, whole_of_line}
use Rattle.tk_host.proofs.Kept.{known_reached, lined_is, ready_line, routed_line}
use Rattle.tk_host.proofs.Order.{tested_for_router}
use Rattle.tk_host.proofs.Routing.{routes_at}
use Rattle.tk_host.proofs.host.Host.tested_line.Goals as goal

pub tested_line-routed-requires : goal.tested_line-routed-requires
tested_line-routed-requires g c =
    let inside = c.self.inside in
    let held = c.args.self.now.held in
    let none = c.requires.tested in
    let from = reached_if_not_refused held.phase c.requires.begun none.0 none.1.0 in
    let there : inside.phase ≡ Reached from.0 = ap (λ (h : Hosted _). h.held.phase) c.self.view_is ∙ from.1 in
    let known : held.known ≡ inside.router = sym (sym (known_reached inside.phase from.0 inside.rects.items inside.router there) ∙ ap (λ (h : Hosted _). h.held.known) c.self.view_is) in
    tested_for_router held inside.router from.0 c.args.moment c.args.line from.1 (not_back held.phase from.0 c.args.moment from.1 none.1.1.1.0) (c.self.invariant.2.reached from.0 there).0 known none

pub advance-requires : goal.advance-requires
advance-requires g c =
    let phase = c.args.self.now.held.phase in
    let none = c.requires.tested in
    let from = reached_if_not_refused phase c.requires.begun none.0 none.1.0 in
    let there : c.self.inside.phase ≡ Reached from.0 = ap (λ (h : Hosted _). h.held.phase) c.self.view_is ∙ from.1 in
    let ready = c.self.invariant.1.reached from.0 there in
    let ahead : from.0 ≤ c.args.moment = not_back phase from.0 c.args.moment from.1 none.1.1.1.0 in
    let in_time : ¬ (1000000000000 < c.args.moment) = λ over. none.1.1.0 (λ fits. omega (arith, fits.0, over)) in
    let clear = c.clear_turns.ensures in
    record {
      slice = c.self.invariant.0;
      in_time = omega (arith, in_time);
      rest = subst (λ (h : Applications _). AllRest h.parts) (sym clear) ready.1;
      past = subst (λ (h : Applications _). IsPast h.moment (first_moment_due next_due (settled g.M.AliasMeaning.answer) (applications h.parts))) (sym clear) ready.2;
      ahead = omega (arith, ap (λ (h : Applications _). h.moment) clear, ready.0, ahead);
    }

pub set_moment-requires : goal.set_moment-requires
set_moment-requires g c =
    let none = c.requires.tested in
    let in_time : ¬ (1000000000000 < c.args.moment) = λ over. none.1.1.0 (λ fits. omega (arith, fits.0, over)) in
    record { later = c.in-Ok.ensures.ahead; in_time = omega (arith, in_time) }

pub deliver_all-requires : goal.deliver_all-requires
deliver_all-requires g c =
    let phase = c.args.self.now.held.phase in
    let none = c.requires.tested in
    let from = reached_if_not_refused phase c.requires.begun none.0 none.1.0 in
    let there : c.self.inside.phase ≡ Reached from.0 = ap (λ (h : Hosted _). h.held.phase) c.self.view_is ∙ from.1 in
    let known = c.self.invariant.2.reached from.0 there in
    let given = c.tested_line-routed.ensures.routes known.1 known.2 known.3 in
    let moved = c.set_moment.ensures in
    record {
      slice = c.self.invariant.0;
      rest = subst (λ (h : Applications _). AllRest h.parts) (sym moved) c.in-Ok.ensures.rest;
      now = subst (λ m. AreAt m (deliveries c.tested_line-routed.result)) (sym (ap (λ (h : Applications _). h.moment) moved))
          (subst (AreAt c.args.moment) (sym given) (routes_at known.1 known.2 (at c.args.moment c.args.line)));
    }

pub invariant_of-self-2 : goal.invariant_of-self-2
invariant_of-self-2 g c =
    let answer = g.M.AliasMeaning.answer in
    let none = c.requires.tested in
    let from = reached_if_not_refused c.args.self.now.held.phase c.requires.begun none.0 none.1.0 in
    let there : c.self.inside.phase ≡ Reached from.0 = ap (λ (h : Hosted _). h.held.phase) c.self.view_is ∙ from.1 in
    let known = c.self.invariant.2.reached from.0 there in
    let given = c.tested_line-routed.ensures.routes known.1 known.2 known.3 in
    let moved = c.set_moment.ensures in
    let told = c.in-Ok-deliver_all.ensures in
    let after = c.deliver_all.new.shared in (
      c.self.invariant.0,
      ready_line answer c.args.moment after.moment (deliveries c.tested_line-routed.result) (applications c.set_moment.new.self.parts) after.parts
          (told.moment ∙ ap (λ (h : Applications _). h.moment) moved) told.parts
          (subst (AreAt c.args.moment) (sym given) (routes_at known.1 known.2 (at c.args.moment c.args.line)))
          (subst (λ (h : Applications _). IsPast c.args.moment (first_moment_due next_due (settled answer) (applications h.parts))) (sym moved) c.in-Ok.ensures.through),
      routed_line c.self.inside.rects.items known.1 known.2 (at c.args.moment c.args.line) c.tested_line-routed.new.self after.parts (c.tested_line-routed.ensures.values known.1 known.2 known.3),
    )

pub returns-clause-lined : goal.returns-clause-lined
returns-clause-lined g c = λ first earlier is.
    let inside = c.self.inside in
    let phase = c.args.self.now.held.phase in
    let none = c.requires.tested in
    let from = reached_if_not_refused phase c.requires.begun none.0 none.1.0 in
    let there : inside.phase ≡ Reached from.0 = ap (λ (h : Hosted _). h.held.phase) c.self.view_is ∙ from.1 in
    let router : inside.router ≡ c.args.self.now.held.known =
    sym (known_reached inside.phase from.0 inside.rects.items inside.router there) ∙ ap (λ (h : Hosted _). h.held.known) c.self.view_is in
    lined_is g.M.AliasMeaning.answer inside.phase from.0 (at c.args.moment c.args.line) first earlier inside.rects.items inside.router c.tested_line-routed.new.self inside.asker inside.slice (deliveries c.tested_line-routed.result)
    inside.shared c.clear_turns.new.self c.advance.new.shared c.set_moment.new.self c.deliver_all.new.shared c.args.self.now
    there c.self.view_is c.clear_turns.ensures (c.tested_line-routed.ensures.values first earlier (router ∙ is)) (c.tested_line-routed.ensures.routes first earlier (router ∙ is))
    c.in-Ok.ensures.brought c.in-Ok.ensures.turns c.set_moment.ensures c.in-Ok-deliver_all.ensures.parts c.in-Ok-deliver_all.ensures.turns

pub returns-clause-history : goal.returns-clause-history
returns-clause-history g c = λ calls held.
    let phase = c.args.self.now.held.phase in
    let none = c.requires.tested in
    let from = reached_if_not_refused phase c.requires.begun none.0 none.1.0 in
    history_of_line g.M.AliasMeaning.answer calls from.0 c.args.moment c.args.line c.args.self.now _ held from.1 (not_back phase from.0 c.args.moment from.1 none.1.1.1.0) (returns-clause-lined g c)

pub returns-clause-turns : goal.returns-clause-turns
returns-clause-turns g c = λ calls held.
    let phase = c.args.self.now.held.phase in
    let none = c.requires.tested in
    let from = reached_if_not_refused phase c.requires.begun none.0 none.1.0 in
    turns_of_line g.M.AliasMeaning.answer calls from.0 c.args.moment c.args.line c.args.self.now _ held from.1 (returns-clause-lined g c)

pub returns-in-Err-clause-cut_short : goal.returns-in-Err-clause-cut_short
returns-in-Err-clause-cut_short g c = λ first earlier known.
    let inside = c.self.inside in
    let old = c.args.self.now in
    let slot = c.in-Err.unserved.slot in
    let cleared = c.clear_turns.new.self in
    record {
      slot = slot;
      asked = refl;
      there = there_cleared slot inside.shared cleared old.held.parts c.clear_turns.ensures (ap (λ (h : Hosted _). h.held.parts) c.self.view_is) c.in-Err.ensures.there;
      cut = cut_before_line g.M.AliasMeaning.answer inside.phase (Reached c.args.moment) (at c.args.moment c.args.line) first earlier inside.rects.items inside.router inside.asker inside.slice slot inside.shared cleared
          old c.advance.new.shared.turns c.self.view_is c.clear_turns.ensures c.in-Err.ensures.cut;
    }

pub returns-in-Err-clause-cut : goal.returns-in-Err-clause-cut
returns-in-Err-clause-cut g c = λ calls held.
    let answer = g.M.AliasMeaning.answer in
    let inside = c.self.inside in
    let old = c.args.self.now in
    let cleared = c.clear_turns.new.self in
    let none = c.requires.tested in
    let from = reached_if_not_refused old.held.phase c.requires.begun none.0 none.1.0 in
    cut_and_least _ old _
    (broken_as _ _ old _ (whole_of_line answer calls c.args.moment c.args.line old held)
    (returns-in-Err-clause-cut_short g c (first_rects calls) (lines_of calls) (known_lines answer calls from.0 old.held held from.1)))
    (tells_at_least inside.shared cleared c.advance.new.shared old.held.parts c.clear_turns.ensures (ap (λ (h : Hosted _). h.held.parts) c.self.view_is) (fits_held answer calls old.held held)
    (counts_keep cleared c.advance.new.shared c.in-Err.ensures.counts))

pub returns-in-Err-deliver_all-clause-cut_short : goal.returns-in-Err-deliver_all-clause-cut_short
returns-in-Err-deliver_all-clause-cut_short g c = λ first earlier known.
    let inside = c.self.inside in
    let old = c.args.self.now in
    let slot = c.in-Err-deliver_all.unserved.slot in
    let cleared = c.clear_turns.new.self in
    let none = c.requires.tested in
    let from = reached_if_not_refused old.held.phase c.requires.begun none.0 none.1.0 in
    let there : inside.phase ≡ Reached from.0 = ap (λ (h : Hosted _). h.held.phase) c.self.view_is ∙ from.1 in
    let router : inside.router ≡ old.held.known =
    sym (known_reached inside.phase from.0 inside.rects.items inside.router there) ∙ ap (λ (h : Hosted _). h.held.known) c.self.view_is in
    record {
      slot = slot;
      asked = refl;
      there = there_cleared slot inside.shared cleared old.held.parts c.clear_turns.ensures (ap (λ (h : Hosted _). h.held.parts) c.self.view_is)
          (there_came g.M.AliasMeaning.answer slot c.args.moment cleared c.advance.new.shared c.set_moment.new.self c.in-Ok.ensures.brought c.set_moment.ensures c.in-Err-deliver_all.ensures.there);
      cut = cut_line g.M.AliasMeaning.answer inside.phase (at c.args.moment c.args.line) first earlier inside.rects.items inside.router inside.asker inside.slice slot (deliveries c.tested_line-routed.result) inside.shared
          cleared c.advance.new.shared c.set_moment.new.self old c.deliver_all.new.shared.turns c.self.view_is c.clear_turns.ensures
          (c.tested_line-routed.ensures.routes first earlier (router ∙ known)) c.in-Ok.ensures.brought c.in-Ok.ensures.turns c.set_moment.ensures c.in-Err-deliver_all.ensures.cut;
    }

pub returns-in-Err-deliver_all-clause-cut : goal.returns-in-Err-deliver_all-clause-cut
returns-in-Err-deliver_all-clause-cut g c = λ calls held.
    let answer = g.M.AliasMeaning.answer in
    let inside = c.self.inside in
    let old = c.args.self.now in
    let cleared = c.clear_turns.new.self in
    let came = c.advance.new.shared in
    let moved = c.set_moment.new.self in
    let none = c.requires.tested in
    let from = reached_if_not_refused old.held.phase c.requires.begun none.0 none.1.0 in
    cut_and_least _ old _
    (broken_as _ _ old _ (whole_of_line answer calls c.args.moment c.args.line old held)
    (returns-in-Err-deliver_all-clause-cut_short g c (first_rects calls) (lines_of calls) (known_lines answer calls from.0 old.held held from.1)))
    (tells_at_least inside.shared cleared c.deliver_all.new.shared old.held.parts c.clear_turns.ensures (ap (λ (h : Hosted _). h.held.parts) c.self.view_is) (fits_held answer calls old.held held)
    (keeps_both cleared moved c.deliver_all.new.shared
    (counts_keep cleared moved (counts_both cleared came moved c.in-Ok.ensures.counts (counts_same came moved (ap (λ (h : Applications _). h.turns) c.set_moment.ensures) (ap (λ (h : Applications _). h.parts) c.set_moment.ensures))))
    c.in-Err-deliver_all.ensures.keeps))
