use Rattle.std.proofs.Common.{◌≡◌, List, map, sym, ap, ◌∙◌, subst}
use Rattle.tk_route.specs.Answers.{deliveries}
use Rattle.tk_route.specs.declared.delivery.Routed.{Routed}
use Rattle.tk_app.specs.Application.{Application}
use Rattle.tk_host.specs.Held.{at_rest}
use Rattle.tk_host.specs.Turns.{after_given, applications}
use Rattle.tk_host.proofs.Counts.{keeps_same}
use Rattle.tk_host.proofs.Deliveries.{after_none}
use Rattle.tk_host.proofs.Parts.{all_rest}
use Rattle.tk_host.proofs.events.deliver_all.Goals as goal

pub returns-in-Nobody-clause-parts : goal.returns-in-Nobody-clause-parts
returns-in-Nobody-clause-parts g c =
    let answer = g.M.AliasMeaning.answer in
    let old = c.args.shared.now in
    let apps : List (Application _) = applications old.parts in
    subst (λ (routed : Routed). old.parts ≡ map at_rest (after_given answer 0 (deliveries routed) apps)) (sym c.in-Nobody.is)
    (all_rest answer old.parts c.requires.rest ∙ ap (λ there. map at_rest there) (sym (after_none answer 0 apps)))

pub returns-in-Nobody-clause-keeps : goal.returns-in-Nobody-clause-keeps
returns-in-Nobody-clause-keeps g c = keeps_same c.args.shared.now
