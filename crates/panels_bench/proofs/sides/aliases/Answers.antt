use Rattle.std.proofs.Common.{drop, Option, ap, subst, sym, ◌∙◌}
use Rattle.std.proofs.lemmas.List.{drop_all}
use Rattle.toml.specs.Data.{Items}
use Rattle.toml.specs.View.{items_view, table_view}
use Rattle.panels_bench.proofs.PanelLemmas.{aliases_end, aliases_step}
use Rattle.panels_bench.specs.Panels.{AreAliasesOf, IsAlias}
use Rattle.panels_text.specs.declared.table.Part.{Part}
use Rattle.panels_bench.proofs.sides.aliases.Goals as goal

pub loop-value-preserved : goal.loop-value-preserved
loop-value-preserved c =
    let P : Part → Type 0 = λ one. IsAlias (table_view one.table.now) c.in_ok-alias.field-0 in
    aliases_step (items_view c.in_ok-value-items.value-items.now) c.in_ok-value-items.value-items.now c.loop-value.value-index c.value-item.result c.in-Table.table c.loop-value.lines c.push.new.self c.in_ok-alias.field-0
    c.loop-value-test.true (sym c.value-item.is ∙ c.in-Table.is) (subst P c.inner.ensures c.in_ok-alias.ensures) c.in_ok-push.ensures.ok c.loop-value.invariant

pub returns : goal.returns
returns c =
    let all = c.in_ok-value-items.value-items.now in
    let P : Option Items → Type 0 = λ values. AreAliasesOf values c.loop-value.lines in
    subst P (sym c.in_ok-value-items.ensures.ok)
    (aliases_end (items_view all) (items_view (drop c.loop-value.value-index all)) c.loop-value.lines (ap items_view (drop_all c.loop-value.value-index all c.loop-value-test.false)) c.loop-value.invariant)
