use Rattle.std.proofs.Common.{◌≡◌, [], sym, ap, subst}
use Rattle.tk_app.specs.Turns.{Applications}
use Rattle.tk_host.specs.declared.phase.Phase.TheVariants.{Adding}
use Rattle.tk_host.specs.Ready.{IsReady, IsRouted}
use Rattle.tk_host.proofs.Kept.{ready_new, routed_new}
use Rattle.tk_host.proofs.host.Host.new.Goals as goal

pub invariant_of-result : goal.invariant_of-result
invariant_of-result g c =
    let shared = c.in_ok-new.field-0 in
    let moment : shared.moment ≡ 0 = ap (λ (h : Applications _). h.moment) c.in_ok-new.ensures in
    let parts : shared.parts ≡ [] = ap (λ (h : Applications _). h.parts) c.in_ok-new.ensures in (
      c.requires,
      subst (λ m. IsReady g.M.AliasMeaning.answer Adding m shared.parts) (sym moment)
          (subst (λ p. IsReady g.M.AliasMeaning.answer Adding 0 p) (sym parts) (ready_new g.M.AliasMeaning.answer)),
      subst (λ r. IsRouted Adding r c.router_of.result shared.parts) (sym c.new.ensures.items)
          (subst (λ p. IsRouted Adding [] c.router_of.result p) (sym parts) (routed_new c.router_of.result)),
    )
