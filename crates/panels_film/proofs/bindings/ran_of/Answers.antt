use Rattle.std.proofs.Common.{◌≡◌, ℕ, ◌+◌, ◌++◌, List, ap, length, map, refl, ◌∙◌, arith}
use Rattle.std.proofs.lemmas.List.{at_drop_all}
use Rattle.tk_session.specs.declared.session.EventLine.{EventLine}
use Rattle.panels.specs.Course.{section_at}
use Rattle.panels_film.specs.Bindings.{known_at, none_known, ran_at, ran_from, ran_since, told}
use Rattle.panels_film.specs.Films.{reached}
use Rattle.panels_film.proofs.Noting.{all_ran, none_ran, one_ran}
use Rattle.panels_film.proofs.bindings.ran_of.Goals as goal

pub loop-number-init : goal.loop-number-init
loop-number-init g c calls begun =
    none_ran g.M.AliasMeaning.answer c.events-events.result.now c.args.session.now.end _ (none_known c.args.session.now.apps) c.in_ok-known.known.items c.args.live.held calls
    (map told c.new-ran.result.items) (ap (map told) c.new-ran.ensures.items) (c.in_ok-known.ensures ∙ ap none_known c.apps.ensures.apps) begun refl

pub loop-number-preserved : goal.loop-number-preserved
loop-number-preserved g c calls begun =
    let at = c.loop-number in
    let answer = g.M.AliasMeaning.answer in
    let event = c.index-events-number.result in
    one_ran answer c.events-events.result.now c.args.session.now.end _ at.number at.known.items c.in_ok-known-2.known.items event at.live.held c.push_ran_at.new.live.held (map told at.ran.items)
    (map told c.push_ran_at.new.ran.items) c.loop-number-test.true c.index-events-number.is (at.invariant calls begun) c.in_ok-known-2.ensures.history
    (λ before held.
    c.in_ok-known-2.ensures.ran before held
    ∙ ap (λ (known : List ℕ). map told at.ran.items ++ ran_at answer before at.number (at.number + 1) known event) c.as_slice.ensures.value)
    (λ before held. c.in_ok-known-2.ensures.known before held ∙ ap (λ (known : List ℕ). known_at answer before known event) c.as_slice.ensures.value)

pub returns : goal.returns
returns g c calls begun =
    let at = c.loop-number in
    let answer = g.M.AliasMeaning.answer in
    let session = c.args.session.now in
    let events = c.events-events.result.now in
    let count : length events ≡ at.number = omega (arith, c.loop-number-test.false, (at.invariant calls begun).within) in
    all_ran answer events session.end _ at.number at.known.items at.live.held c.reach.new.live.held (map told at.ran.items) (map told c.push_ran.new.ran.items)
    (at_drop_all (λ left. left) events at.number (omega (arith, c.loop-number-test.false))) (at.invariant calls begun)
    (λ before held.
    c.in_ok-push_ran.ensures.ran (reached before c.end.result) (c.in_ok-reach.ensures.history before held)
    ∙ ap (λ (end : ℕ). map told at.ran.items ++ ran_since (section_at answer (reached before end)) (length events) 0 c.as_slice-2.result.now) c.end.ensures.end
    ∙ ap (λ (number : ℕ). map told at.ran.items ++ ran_since (section_at answer (reached before session.end)) number 0 c.as_slice-2.result.now) count
    ∙ ap (λ (known : List ℕ). map told at.ran.items ++ ran_since (section_at answer (reached before session.end)) at.number 0 known) c.as_slice-2.ensures.value)
    ∙ ap (λ (lines : List EventLine). ran_from answer calls 0 (none_known session.apps) lines session.end) c.events-events.ensures.events
