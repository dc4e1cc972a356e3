use Rattle.std.proofs.Common.{◌≡◌, ℕ, List, ◌++◌, Some, Vec, Global, Bor, option_map, slice_get, map, ap, string_bytes, subst, sym, ◌∙◌}
use Rattle.std.proofs.lemmas.List.{map-append}
use Rattle.std.specs.Option.{option_copied}
use Rattle.std.specs.Slice.{IsItemAt}
use Rattle.panels_film.specs.Scenes.{section_in}
use Rattle.panels_text.specs.Texts.{text_of}
use Rattle.tk_session.specs.declared.session.AppBlock.{AppBlock}
use Rattle.panels_report.specs.Cases.{AreEnds, found_words}
use Rattle.panels_report.specs.Expected.{unexpected}
use Rattle.panels_report.proofs.Casing.{problems_are, three_more}
use Rattle.panels_report.proofs.Getting.{got}
use Rattle.panels_report.proofs.cases.problems_of.Goals as goal

pub returns : goal.returns
returns c =
    let read = c.args.read.now in
    let played = c.args.played.now in
    let slot = c.args.slot in
    let side = c.args.side.now in
    let panel = c.in-Some.panel.now in
    let wanted = option_map (λ (text : Bor (List ℕ)). text.now) c.args.wanted in
    let ends = c.in_ok-push_ends.ensures in
    let here : slice_get read.bench.panels.items slot ≡ Some panel =
    sym (got read.bench.panels.items slot c.get.result (subst (λ (xs : List AppBlock). IsItemAt xs slot c.get.result) c.as_slice.ensures.value c.get.ensures.lookup)) ∙ ap option_copied c.in-Some.is in
    let section : c.section_in-section.result.now ≡ section_in played.sections.items slot =
    c.section_in-section.ensures ∙ ap (λ (sections : List (Vec ℕ Global)). section_in sections slot) c.as_slice-2.ensures.value in
    problems_are read played slot side wanted _ panel ends.0 _ here
    (subst (λ (text : List ℕ). AreEnds side panel.budget text ends.0) (c.as_text.ensures.text ∙ ap text_of section) ends.1)
    (three_more (map string_bytes c.new-problems.result.items) (map string_bytes c.push_ends.new.problems.items) (map string_bytes c.push_findings.new.problems.items) _ ends.0
    (found_words read played (Some slot)) _ (ap (map string_bytes) c.new-problems.ensures.items) ends.2 c.in_ok-push_findings.ensures
    (ap (map string_bytes) c.in_ok-push_all.ensures ∙ map-append string_bytes _ _
    ∙ ap (λ (last : List (List ℕ)). map string_bytes c.push_findings.new.problems.items ++ last) (c.in_ok-others.ensures.told ∙ ap (λ (own : List ℕ). unexpected side wanted own) section)))
