use Rattle.std.proofs.Common.{◌≡◌, sym, ap, ◌∙◌}
use Rattle.tk_route.specs.Values.{Values}
use Rattle.tk_host.specs.declared.phase.Phase.TheVariants.{Reached}
use Rattle.tk_host.specs.Held.{Hosted}
use Rattle.tk_host.proofs.Kept.{known_reached}
use Rattle.tk_host.proofs.Order.{decided_by_test}
use Rattle.tk_host.proofs.host.Host.may_take.Goals as goal

pub returns : goal.returns
returns g c =
    let inside = c.self.inside in
    let held = c.args.self.now.held in
    let reached = c.in-Reached.reached in
    let from : held.phase ≡ Reached reached = sym (ap (λ (h : Hosted _). h.held.phase) c.self.view_is) ∙ c.in-Reached.is in
    let known = sym (known_reached inside.phase reached inside.rects.items inside.router c.in-Reached.is) ∙ ap (λ (h : Hosted _). h.held.known) c.self.view_is in
    record { answer = decided_by_test held c.rects.result.now reached c.args.moment c.args.line.now c.test_line.result from (c.rects.ensures ∙ ap (λ (v : Values). v.rects) known) c.test_line.ensures }
