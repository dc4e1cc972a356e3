use Rattle.std.proofs.Common.{◌≡◌, List, ℕ, map, sym, ap, ◌∙◌}
use Rattle.std.specs.Prelude.{slice_get}
use Rattle.std.proofs.lemmas.Option.{slice_get-map}
use Rattle.tk_app.specs.Part.{Part}
use Rattle.tk_app.specs.Section.{section}
use Rattle.tk_host.specs.Held.{Hosted}
use Rattle.tk_host.proofs.History.{sections_of_held}
use Rattle.tk_host.proofs.Sections.{sections_same}
use Rattle.tk_host.proofs.host.Host.section.Goals as goal

pub returns-clause-section : goal.returns-clause-section
returns-clause-section g c =
    let section_of : Part _ → List ℕ = λ part. section part.application in
    let parts : c.args.self.now.held.parts ≡ c.self.inside.shared.parts = sym (ap (λ (h : Hosted _). h.held.parts) c.self.view_is) in
    ap (λ ps. slice_get (map section_of ps) c.args.slot) parts ∙ slice_get-map section_of c.self.inside.shared.parts c.args.slot ∙ c.in_ok-section.ensures

pub returns-clause-history : goal.returns-clause-history
returns-clause-history g c = λ calls held.
    ap (λ sections. slice_get sections c.args.slot) (sym (sections_of_held g.M.AliasMeaning.answer calls c.args.self.now.held held)) ∙ returns-clause-section g c

pub returns-clause-sections : goal.returns-clause-sections
returns-clause-sections g c = λ calls held update is_update settle meets.
    ap (λ sections. slice_get sections c.args.slot) (sym (sections_same g.M.AliasMeaning.answer update is_update settle meets calls)) ∙ returns-clause-history g c calls held
