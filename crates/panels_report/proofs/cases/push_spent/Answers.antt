use Rattle.std.proofs.Common.{◌∷◌, [], ap, map, option_map, string_bytes, ◌∙◌}
use Rattle.std.proofs.lemmas.List.{map-append}
use Rattle.panels_report.proofs.Casing.{spent_told}
use Rattle.panels_report.proofs.cases.push_spent.Goals as goal

pub returns : goal.returns
returns c = (
  string_bytes c.in_ok-placed.field-0 ∷ [],
  spent_told c.args.budget c.args.is_spent (string_bytes c.in_ok-words.words) (string_bytes c.in_ok-placed.field-0) (option_map string_bytes c.match-failing.place) c.if-not-is_spent.false
      c.in_ok-words.ensures c.in_ok-placed.ensures,
  ap (map string_bytes) c.in_ok-push.ensures.items ∙ map-append string_bytes _ _,
)
