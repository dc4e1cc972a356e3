-- Steps. The entries of a map under text keys, seen by the bytes of the keys.
use Rattle.std.specs.Prelude.{ℕ, List, map, String, string_bytes}

abbrev pub named_entries : {Z V : Type 0} → List (String Z × V) → List (List ℕ × V)
named_entries entries = map (λ e. (string_bytes e.0, e.1)) entries
