use Rattle.std.proofs.Common.{◌≡◌, ◌++◌, List, Option, Some, None, ap, length, subst, sym, ℕ, ◌∙◌}
use Rattle.std.specs.Prelude.{codes}
use Rattle.tk_session.specs.Reading.{◌>>=◌}
use Rattle.tk_session.specs.declared.session.EventLine.{EventLine}
use Rattle.panels_bench.proofs.LineLemmas.{event_none, event_there}
use Rattle.panels_bench.specs.Gestures.{event_in, of_panels}
use Rattle.panels_bench.proofs.doing.line_of.Goals as goal

pub returns-in-Some : goal.returns-in-Some
returns-in-Some c =
    let panels = c.args.panels.now in
    let line : c.as_bytes.result.now ≡ codes "0 " ++ c.args.words.now = c.as_bytes.ensures.value ∙ (c.as_str.ensures.value ∙ c.in_ok-line.ensures.ok) in
    let P : List ℕ → Type 0 = λ text. event_in panels text ≡ Some c.in-Some.event in
    let found = subst P line (event_there panels c.as_bytes.result.now c.in-Some.event c.in-Some.ensures.said) in
    c.of_panels.ensures ∙ sym (ap (λ (own : Option EventLine). own >>= λ (event : EventLine). of_panels (length panels) event.line) found)

pub returns : goal.returns
returns c =
    let panels = c.args.panels.now in
    let line : c.as_bytes.result.now ≡ codes "0 " ++ c.args.words.now = c.as_bytes.ensures.value ∙ (c.as_str.ensures.value ∙ c.in_ok-line.ensures.ok) in
    let P : List ℕ → Type 0 = λ text. event_in panels text ≡ None in
    let found = subst P line (event_none panels c.as_bytes.result.now (λ event is. sym c.in-None.is ∙ c.read_event.ensures.all event is)) in
    sym (ap (λ (own : Option EventLine). own >>= λ (event : EventLine). of_panels (length panels) event.line) found)
