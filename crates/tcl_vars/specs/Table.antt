-- Meaning. Values by name, as a list of (name, value) in the order in which the names came.
use Rattle.std.specs.Prelude.{ℕ, List, Option, None, Some, filter, not}
use Rattle.std.specs.Str.{bytes_eq, chars}
use Rattle.std.specs.Map.{lookup, remove_entry}
use Rattle.indexmap.specs.IndexMap.{insert_entry}
use Rattle.tcl_text.specs.Glob.{glob_matches}

-- a name is the bytes of a text
abbrev pub Table : Type 0 → Type 0
Table V = List (List ℕ × V)

module _ {V : Type 0} where
  -- the value at a name
  abbrev pub value_at : Table V → List ℕ → Option V
  value_at table name = lookup (bytes_eq name) table

  -- the table with a value at a name: a name that is there keeps its place, and a new one comes last
  abbrev pub with_value : Table V → List ℕ → V → Table V
  with_value table name value = insert_entry bytes_eq table name value

  -- the table without a name; the others keep their order
  abbrev pub without : Table V → List ℕ → Table V
  without table name = remove_entry (bytes_eq name) table

  -- the table without the names that match a pattern
  abbrev pub values_but : List ℕ → Table V → Table V
  values_but pattern table = filter (λ e. not (glob_matches (chars pattern) (chars e.0))) table

-- what a value weighs, if there is one
abbrev pub weight_of : {V : Type 0} → (V → ℕ) → Option V → ℕ
weight_of weigh None = 0
weight_of weigh (Some value) = weigh value
