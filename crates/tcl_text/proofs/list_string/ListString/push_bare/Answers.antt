use Rattle.std.proofs.Common.{◌≡◌, ◌∙◌, ℕ, ◌+◌, ◌≤◌, List, [], ◌∷◌, ◌++◌, ap, arith, length, length-append, string_bytes, refl}
use Rattle.tcl_text.specs.ListForm.{others_form}
use Rattle.tcl_text.specs.ListString.{KeepsList, ends_behind}
use Rattle.tcl_text.specs.Readings.{element_form}
use Rattle.tcl_text.proofs.AsciiMarks.{marked_grown, marked_made}
use Rattle.tcl_text.proofs.KeptGrown.{grown_items, grown_keeps}
use Rattle.tcl_text.proofs.KeptViews.{kept}
use Rattle.tcl_text.proofs.ListFormLemmas.{bare_behind}
use Rattle.tcl_text.proofs.list_string.ListString.push_bare.Goals as goal

pub invariant_of-self : goal.invariant_of-self
invariant_of-self c =
    let item = c.args.item.now in
    let string = string_bytes c.self.inside.string in
    let ends = c.self.inside.ends.items in
    let written = c.as_str-form.result.now in
    let keeps : KeepsList string ends c.args.self.now = kept _ _ _ _ c.self.invariant.0 c.self.view_is in
    let form : written ≡ others_form (item ∷ []) = bare_behind item written (c.stands_bare-bare.ensures c.if-not-bare.false) (c.as_str-form.ensures ∙ c.joined-short.ensures) in
    let added = length-append (element_form item) [] in
    let room : length (others_form c.args.self.now) + length (others_form (item ∷ [])) ≤ 65537 = omega (arith, ap length form, c.width.ensures.value, c.width.ensures.within, c.if-form-width.false) in
    let place : length string + length written ≡ length string + 1 + length (element_form item) = omega (arith, ap length form, added) in (
      grown_keeps _ _ _ _ c.args.self.now (item ∷ []) keeps room (c.in-Ok.ensures.forms ∙ ap (λ (t : List ℕ). string ++ t) form) (c.in-Ok.ensures.places ∙ ap (λ (p : ℕ). ends ++ p ∷ []) place),
      marked_grown _ _ _ _ _ c.self.invariant.1 (marked_made _ _ _ c.is_ascii-ascii.ensures.cases refl) c.in-Ok.ensures.forms,
    )

pub returns-in-Ok-clause-ok : goal.returns-in-Ok-clause-ok
returns-in-Ok-clause-ok c =
    let item = c.args.item.now in
    let string = string_bytes c.self.inside.string in
    let written = c.as_str-form.result.now in
    let keeps : KeepsList string c.self.inside.ends.items c.args.self.now = kept _ _ _ _ c.self.invariant.0 c.self.view_is in
    let form : written ≡ others_form (item ∷ []) = bare_behind item written (c.stands_bare-bare.ensures c.if-not-bare.false) (c.as_str-form.ensures ∙ c.joined-short.ensures) in
    grown_items _ _ _ c.args.self.now (item ∷ []) keeps (c.in-Ok.ensures.forms ∙ ap (λ (t : List ℕ). string ++ t) form)
