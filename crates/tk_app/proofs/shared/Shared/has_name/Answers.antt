use Rattle.std.proofs.Common.{◌≡◌, List, IsTrue, ap, ◌∙◌, subst}
use Rattle.std.specs.Prelude.{◌↔◌, Any}
use Rattle.tk_app.specs.Part.{Part}
use Rattle.tk_app.specs.Turns.{Applications, parts_from}
use Rattle.tk_app.proofs.Slots.{name_in_parts, name_of_part}
use Rattle.tk_app.proofs.shared.Shared.has_name.Goals as goal

pub returns : goal.returns
returns g c =
    let i = c.self.inside in
    let programs = c.as_slice.result.now in
    subst (λ (parts : List (Part _)). IsTrue c.have_name.result ↔ Any (λ (part : Part _). part.application.name ≡ c.args.name.now) parts)
    (ap (parts_from 0 i.tables) c.as_slice.ensures.value ∙ ap (λ (h : Applications _). h.parts) c.self.view_is)
    (λ has. name_in_parts c.args.name.now i.tables programs (c.have_name.ensures.0 has), λ there. c.have_name.ensures.1 (name_of_part c.args.name.now i.tables programs there))
