use Rattle.std.proofs.Common.{◌≡◌, [], ◌∷◌, ◌++◌, List, Option, Some, ap, map, option_map, sym, ℕ, ◌∙◌}
use Rattle.tk_session.specs.Reading.{◌>>=◌}
use Rattle.toml.specs.Data.{Members}
use Rattle.toml.specs.View.{table_view}
use Rattle.panels.specs.declared.bench.Gesture.{Gesture}
use Rattle.panels_bench.specs.Gestures.{Deed, deed, drag_keys, dragged, dropping_in}
use Rattle.panels_bench.specs.Values.{if_there, table_if}
use Rattle.panels_text.specs.Tables.{value_of}
use Rattle.panels_text.specs.declared.table.Part.{Part}
use Rattle.panels_bench.proofs.doing.drag_at.Goals as goal

pub returns : goal.returns
returns c =
    let panels = c.args.panels.now in
    let members = table_view c.in-Some.inner.table.now in
    let value = value_of c.args.part.now c.args.key.now in
    let press : Gesture = c.in_ok-press.press in
    let release : Gesture = c.in_ok-release.release in
    let known : table_if drag_keys value ≡ Some (Some members) =
    ap (λ (own : List (List ℕ)). table_if own value) (sym c.drag_keys.ensures)
    ∙ (c.in_ok-inner.ensures ∙ ap (λ (own : Option Part). Some (option_map (λ (inner : Part). table_view inner.table.now) own)) c.in-Some.is) in
    let found : c.push-2.new.self.items ≡ press ∷ release ∷ [] =
    c.in_ok-push-2.ensures.items ∙ ap (λ own. own ++ release ∷ []) (c.in_ok-push.ensures.items ∙ ap (λ own. own ++ press ∷ []) c.new-found.ensures.items) in
    ap (λ (own : Option (Option Members)). own >>= if_there (dragged panels)) known
    ∙ (ap (λ (own : Option Deed). own >>= λ first. dropping_in panels members >>= λ last. Some (first ∷ last ∷ [])) c.in_ok-press.ensures
    ∙ (ap (λ (own : Option Deed). own >>= λ last. Some (deed press ∷ last ∷ [])) c.in_ok-release.ensures
    ∙ ap (λ own. Some (map deed own)) (sym found)))
