use Rattle.std.proofs.Common.{◌≡◌, ◌∙◌, List, Option, Some, None, ap, subst, sym}
use Rattle.tk_session.specs.OneLine.{IsLineOfEvent}
use Rattle.tk_session.specs.declared.session.AppBlock.{AppBlock}
use Rattle.tk_session.specs.declared.session.EventLine.{EventLine}
use Rattle.tkhost_c.specs.Keeps.{Keeps}
use Rattle.tkhost_c.proofs.LineLemmas.{end_taken, event_taken, nothing_taken}
use Rattle.tkhost_c.proofs.kept.Kept.text_line.Goals as goal

pub returns-in-Some : goal.returns-in-Some
returns-in-Some c =
    let same : c.as_slice.result.now ≡ c.args.self.now.apps = c.as_slice.ensures.value ∙ ap (λ (kept : Keeps). kept.apps) c.self.view_is in
    event_taken c.args.line.now c.args.self.now c.line.new.self c.line.result c.in-Some.event
    (subst (λ (apps : List AppBlock). IsLineOfEvent apps c.args.line.now c.in-Some.event) same c.in-Some.ensures.said)
    (λ event says. c.in-Some.ensures.all event (subst (λ (apps : List AppBlock). IsLineOfEvent apps c.args.line.now event) (sym same) says)) c.line.ensures

pub returns-in-Some-read_end : goal.returns-in-Some-read_end
returns-in-Some-read_end c =
    let same : c.as_slice.result.now ≡ c.args.self.now.apps = c.as_slice.ensures.value ∙ ap (λ (kept : Keeps). kept.apps) c.self.view_is in
    end_taken c.args.line.now c.args.self.now c.end.new.self c.end.result c.in-Some-read_end.moment
    (λ event says. c.in_default.ensures.all event (subst (λ (apps : List AppBlock). IsLineOfEvent apps c.args.line.now event) (sym same) says))
    c.in-Some-read_end.ensures.said c.in-Some-read_end.ensures.all c.end.ensures

pub returns-in-None : goal.returns-in-None
returns-in-None c =
    let same : c.as_slice.result.now ≡ c.args.self.now.apps = c.as_slice.ensures.value ∙ ap (λ (kept : Keeps). kept.apps) c.self.view_is in
    nothing_taken c.args.line.now c.args.self.now (λ event says. c.in_default.ensures.all event (subst (λ (apps : List AppBlock). IsLineOfEvent apps c.args.line.now event) (sym same) says))
    c.in-None.ensures.all
