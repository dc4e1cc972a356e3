use Rattle.std.proofs.Common.{◌≡◌, [], map, refl, sym, ap, ◌∙◌, subst}
use Rattle.tk_route.specs.Lines.{values}
use Rattle.tk_app.specs.Part.{stage_done}
use Rattle.tk_app.specs.Turns.{Applications}
use Rattle.tk_host.specs.declared.phase.Phase.TheVariants.{Adding}
use Rattle.tk_host.specs.Held.{Hosted, Start, after_start, turns_after}
use Rattle.tk_host.specs.Ready.{IsReady}
use Rattle.tk_host.proofs.Counts.{tells_all}
use Rattle.tk_host.proofs.Cut.{broken_as, cut_start, there_cleared}
use Rattle.tk_host.proofs.History.{history_of_start, turns_of_start}
use Rattle.tk_host.proofs.Kept.{ready_started, routed_start, started_is}
use Rattle.tk_host.proofs.host.Host.start.Goals as goal

pub invariant_of-self-2 : goal.invariant_of-self-2
invariant_of-self-2 g c =
    let inside = c.self.inside in
    let shared = inside.shared in
    let ready : IsReady g.M.AliasMeaning.answer Adding shared.moment shared.parts = subst (λ phase. IsReady g.M.AliasMeaning.answer phase shared.moment shared.parts) c.in-Adding.is c.self.invariant.1 in (
      c.self.invariant.0,
      ready_started g.M.AliasMeaning.answer shared.moment c.stage.new.shared.moment shared.parts c.stage.new.shared.parts ready
          (c.in-Ok.ensures.moment ∙ ap (λ (h : Applications _). h.moment) c.clear_turns.ensures)
          (c.in-Ok.ensures.done ∙ ap (λ (h : Applications _). map (stage_done g.M.AliasMeaning.answer h.moment) h.parts) c.clear_turns.ensures),
      routed_start c.as_slice.result.now inside.rects.items c.router_of-self-inside.result c.stage.new.shared.parts c.router_of-self-inside.ensures,
    )

pub returns-clause-started : goal.returns-clause-started
returns-clause-started g c =
    let inside = c.self.inside in
    let shared = inside.shared in
    let start : shared.moment ≡ 0 = (c.self.invariant.1.adding c.in-Adding.is).0 in
    started_is g.M.AliasMeaning.answer inside.phase inside.rects.items inside.router c.router_of-self-inside.result inside.asker inside.slice shared c.clear_turns.new.self c.stage.new.shared c.args.self.now c.in-Adding.is c.self.view_is
    (c.router_of-self-inside.ensures ∙ ap (λ rects. values rects []) c.as_slice.ensures.value) start c.clear_turns.ensures c.in-Ok.ensures.done c.in-Ok.ensures.turns

pub returns-clause-history : goal.returns-clause-history
returns-clause-history g c = λ calls held.
    let adding : c.args.self.now.held.phase ≡ Adding = sym (ap (λ (h : Hosted _). h.held.phase) c.self.view_is) ∙ c.in-Adding.is in
    history_of_start g.M.AliasMeaning.answer calls c.args.self.now _ held adding (ap (λ (h : Hosted _). h.held) (returns-clause-started g c))

pub returns-clause-turns : goal.returns-clause-turns
returns-clause-turns g c = λ calls held.
    let adding : c.args.self.now.held.phase ≡ Adding = sym (ap (λ (h : Hosted _). h.held.phase) c.self.view_is) ∙ c.in-Adding.is in
    turns_of_start g.M.AliasMeaning.answer calls c.args.self.now _ held adding (ap (λ (h : Hosted _). h.turns) (returns-clause-started g c))

pub returns-in-Err-clause-cut_short : goal.returns-in-Err-clause-cut_short
returns-in-Err-clause-cut_short g c =
    let inside = c.self.inside in
    let old = c.args.self.now in
    let slot = c.in-Err.unserved.slot in
    let cleared = c.clear_turns.new.self in
    let start : inside.shared.moment ≡ 0 = (c.self.invariant.1.adding c.in-Adding.is).0 in
    let parts = ap (λ (h : Hosted _). h.held.parts) c.self.view_is in (
      record {
        slot = slot;
        asked = refl;
        there = there_cleared slot inside.shared cleared old.held.parts c.clear_turns.ensures parts c.in-Err.ensures.there;
        cut = cut_start g.M.AliasMeaning.answer inside.phase inside.rects.items inside.router inside.asker inside.slice slot inside.shared cleared old c.stage.new.shared.turns c.self.view_is start c.clear_turns.ensures
            c.in-Err.ensures.cut;
      },
      tells_all inside.shared cleared c.stage.new.shared old.held.parts c.clear_turns.ensures parts c.in-Err.ensures.counts,
    )

pub returns-in-Err-clause-cut : goal.returns-in-Err-clause-cut
returns-in-Err-clause-cut g c = λ calls held.
    let answer = g.M.AliasMeaning.answer in
    let old = c.args.self.now in
    let adding : old.held.phase ≡ Adding = sym (ap (λ (h : Hosted _). h.held.phase) c.self.view_is) ∙ c.in-Adding.is in
    let whole : (after_start answer old).turns ≡ turns_after answer old.slice calls Start = turns_of_start answer calls old (after_start answer old).turns held adding refl in
    let short = returns-in-Err-clause-cut_short g c in
    (broken_as _ _ old _ whole short.0, short.1)
