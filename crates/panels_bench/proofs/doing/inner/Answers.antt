use Rattle.std.proofs.Common.{◌≡◌, Some, ap, sym, ◌∙◌}
use Rattle.std.specs.Prelude.{is_none}
use Rattle.toml.proofs.Views.{view-Table}
use Rattle.toml.specs.Data.{table}
use Rattle.toml.specs.View.{table_view, view}
use Rattle.panels_bench.proofs.TableLemmas.{if_known}
use Rattle.panels_bench.specs.Values.{table_if}
use Rattle.panels_text.specs.Tables.{value_of}
use Rattle.panels_text.specs.Words.{words_of}
use Rattle.panels_text.specs.declared.table.Part.{Part}
use Rattle.panels_bench.proofs.doing.inner.Goals as goal

pub returns : goal.returns
returns c =
    let part : Part = c.inner-inner.result in
    let there : value_of c.args.part.now c.args.key.now ≡ Some (table (table_view part.table.now)) =
    sym c.in-Some.ensures ∙ ap (λ own. Some own) (ap view c.in-Table.is ∙ (view-Table c.in-Table.table ∙ ap (λ (own : Part). table (table_view own.table.now)) (sym c.inner-inner.ensures))) in
    ap (table_if (words_of c.args.known.now)) there ∙ if_known _ _ (ap is_none c.in_ok-check_keys.ensures.known)
