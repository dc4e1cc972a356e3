use Rattle.std.proofs.Common.{◌≡◌, Bor, Option, Some, option_map, ap, subst, sym, ◌∙◌}
use Rattle.std.specs.Prelude.{codes}
use Rattle.toml.proofs.Views.{table_get}
use Rattle.toml.specs.Data.{Data}
use Rattle.toml.specs.View.{view}
use Rattle.toml.specs.declared.value.Value.{Value}
use Rattle.panels_bench.specs.Panels.{IsBudget}
use Rattle.panels_text.specs.Tables.{value_of}
use Rattle.panels_bench.proofs.sides.budget.Goals as goal

pub returns-in-Some-budget_of : goal.returns-in-Some-budget_of
returns-in-Some-budget_of c =
    let here : Some (view c.in-Some.value.now) ≡ value_of c.args.part.now (codes "steps") = ap (option_map (λ (value : Bor Value). view value.now)) (sym c.in-Some.is) ∙ table_get _ (codes "steps") c.args.part.now.table.now.entries c.get.ensures.value in
    let P : Option Data → Type 0 = λ value. IsBudget value c.in-Some-budget_of.budget in
    subst P here c.in-Some-budget_of.ensures
