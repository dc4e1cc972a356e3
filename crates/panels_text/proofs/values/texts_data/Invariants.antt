use Rattle.std.proofs.Common.{◌≡◌, ◌++◌, drop, map, string_bytes}
use Rattle.serde_json.specs.Data.{string}
use Rattle.serde_json.specs.View.{view}
use Rattle.panels_text.proofs.values.texts_data.Given as goal

-- those that were made, and those of what is left, are all
abbrev pub invariant-loop-text : goal.invariant-loop-text
invariant-loop-text l = map view l.values.items ++ map string (map string_bytes (drop l.text-index l.texts)) ≡ map string (map string_bytes l.texts)
