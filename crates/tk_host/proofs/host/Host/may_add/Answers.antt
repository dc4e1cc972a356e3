use Rattle.std.proofs.Common.{◌≡◌, sym, ap, ◌∙◌}
use Rattle.tk_host.specs.declared.phase.Phase.TheVariants.{Adding}
use Rattle.tk_host.specs.Held.{Hosted, known_by}
use Rattle.tk_host.specs.Spec.{given}
use Rattle.tk_host.proofs.Order.{decided_by_parts}
use Rattle.tk_host.proofs.host.Host.may_add.Goals as goal

pub returns-in-Adding : goal.returns-in-Adding
returns-in-Adding g c = λ script.
    let inside = c.self.inside in
    let adding : c.args.self.now.held.phase ≡ Adding = sym (ap (λ (h : Hosted _). h.held.phase) c.self.view_is) ∙ c.in-Adding.is in
    let parts : inside.shared.parts ≡ c.args.self.now.held.parts = ap (λ (h : Hosted _). h.held.parts) c.self.view_is in
    let first : inside.rects.items ≡ (known_by inside.phase inside.rects.items inside.router).rects =
    sym (ap (λ p. (known_by p inside.rects.items inside.router).rects) c.in-Adding.is) in
    let rects : c.as_slice.result.now ≡ c.args.self.now.held.known.rects = c.as_slice.ensures.value ∙ first ∙ ap (λ (h : Hosted _). h.held.known.rects) c.self.view_is in
    decided_by_parts c.args.self.now.held (given c.args.name.now c.args.rect script c.args.budget c.args.aliases.now) c.test_app.result adding
    (rw (parts, rects) at (c.test_app.ensures script))
