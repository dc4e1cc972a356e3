use Rattle.std.proofs.Common.{◌≡◌, Some, ap, lit<, string_bytes, subst, sym, ◌∙◌}
use Rattle.std.proofs.lemmas.Str.Pattern.{split_parts}
use Rattle.toml.proofs.Views.{view-String}
use Rattle.toml.specs.Data.{Data, string}
use Rattle.toml.specs.View.{view}
use Rattle.panels_bench.specs.Panels.{IsBudget}
use Rattle.panels_bench.proofs.sides.budget_of.Goals as goal

pub returns : goal.returns
returns c =
    let same : view c.args.value.now ≡ string (string_bytes c.in-String.text) = ap view c.in-String.is ∙ view-String c.in-String.text in
    let parts = split_parts 47 c.as_str.result.now (Some (c.in_ok-total-2.total, c.in_ok-total-2.refill)) c.in_ok-total-2.ensures.cases (lit< tt) in
    let P : Data → Type 0 = λ value. IsBudget (Some value) (record { total = c.in_ok-steps_of.field-0; refill = c.in_ok-steps_of-2.field-0 }) in
    subst P (sym same) (c.in_ok-total-2.total.now, c.in_ok-total-2.refill.now, sym c.as_str.ensures.value ∙ parts.0, c.in_ok-steps_of.ensures, c.in_ok-steps_of-2.ensures)
