-- Steps. Pairs by their names, in a map by hashing.
use Rattle.std.specs.Prelude.{ℕ, List, [], Vec, String}
use Rattle.std.specs.Option.{option_map_or}
use Rattle.std.specs.HashMap.{HashMap, get_by_text}
use Rattle.tk_virtual.specs.declared.pair.Pair.{Pair}

-- the pairs that are listed under a name
abbrev pub listed : {Y Z S : Type 0} → List ℕ → HashMap (String Y) (Vec Pair Z) S → List Pair
listed name named = option_map_or (λ pairs. pairs.items) (get_by_text named name) []
