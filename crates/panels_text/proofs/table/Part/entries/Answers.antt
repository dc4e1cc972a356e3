use Rattle.std.proofs.Common.{◌≡◌, ℕ, ◌+◌, List, length, map, drop, IfSome, refl, subst, sym, ap, ◌∙◌}
use Rattle.std.proofs.lemmas.List.{length_push}
use Rattle.std.specs.Prelude.{slice_get}
use Rattle.toml.specs.View.{items_view, table_view}
use Rattle.panels_text.specs.Tables.{IsEntry, tables_in, tables_onto}
use Rattle.panels_text.specs.declared.table.Part.{Part}
use Rattle.panels_text.proofs.TableLemmas.{places_step, tables_step}
use Rattle.panels_text.proofs.table.Part.entries.Goals as goal

pub loop-index-preserved : goal.loop-index-preserved
loop-index-preserved c =
    let T : List Part → Type 0 = λ parts.
    tables_onto (map (λ part. table_view part.table.now) parts) (tables_in (items_view (drop (c.loop-index.index + 1) c.in_ok-values.values.now))) ≡ tables_in (items_view c.in_ok-values.values.now) in
    let S : ℕ → List Part → Type 0 = λ k parts. IfSome (slice_get parts k) (IsEntry c.args.self.now c.args.array.now k) in
    let pushed = c.in_ok-push.ensures.items in
    record {
      tables = subst T (sym pushed) (tables_step (λ part. table_view part.table.now) c.loop-index.parts.items _ c.in_ok-values.values.now c.loop-index.index c.index-values-index.result c.in-Table.table _
          c.loop-index-test.true (sym c.index-values-index.is ∙ c.in-Table.is) refl c.loop-index.invariant.tables);
      places = λ k. subst (S k) (sym pushed) (places_step (IsEntry c.args.self.now c.args.array.now) c.loop-index.parts.items _ c.loop-index.invariant.places
          (record { file = refl; bench = refl; array_name = refl; number = sym c.loop-index.invariant.count; whole = refl }) k);
      count = ap length pushed ∙ length_push c.loop-index.parts.items _ ∙ ap (λ n. n + 1) c.loop-index.invariant.count;
    }
