-- Meaning. The values of a table of a bench.
use Rattle.std.specs.Prelude.{◌≡◌, ℕ, pos, ◌==◌, Bool, true, false, not, nat_le, if◌then◌else◌, List, [], ◌∷◌, ◌++◌, length, find, codes, Option, Some, None}
use Rattle.std.specs.List.{list_any}
use Rattle.std.specs.Str.{bytes_eq}
use Rattle.toml.specs.Data.{Data, Items, no_items, item, Members, no_members, member, get_member, array, boolean, integer, string, table}
use Rattle.toml.specs.View.{table_view}
use Rattle.panels_text.specs.Places.{IsFault, fault_text, line_of}
use Rattle.panels_text.specs.Words.{serving}
use Rattle.panels_text.specs.declared.failure.Failure.{Failure}
use Rattle.panels_text.specs.declared.failure.Failure.TheVariants.{Said}
use Rattle.panels_text.specs.declared.table.Part.{Part}

abbrev pub value_of : Part → List ℕ → Option Data
value_of part key = get_member key (table_view part.table.now)

-- the key that is looked for in the bench's text: that of the array's table, where the table is the value of one
abbrev pub key_of : Part → List ℕ → List ℕ
key_of part key = if length part.key.now == 0 then key else part.key.now

abbrev pub line : Part → List ℕ → ℕ
line part key = line_of part.bench.now part.array.now part.index (key_of part key)

-- what is wrong with a key: the bench's file, the line that has the key, and the words
abbrev pub fault_words : Part → List ℕ → List ℕ → List ℕ
fault_words part key words = fault_text part.file.now (line part key) words

abbrev pub wants : List ℕ → List ℕ → Option Data → List ℕ
wants key wanted None = key ++ (codes " is missing: it wants " ++ wanted)
wants key wanted (Some value) = key ++ (codes " wants " ++ wanted)

-- a key is refused whose value is missing, or isn't what is wanted
abbrev pub IsRefused : Part → List ℕ → List ℕ → Failure → Type 0
IsRefused part key wanted = IsFault (fault_words part key (wants key wanted (value_of part key)))

-- the keys of a table, in their order
abbrev pub keys_of : Members → List (List ℕ)
keys_of no_members = []
keys_of (member key value others) = key ∷ keys_of others

-- the first key that isn't one of these
abbrev pub unknown_key : Part → List (List ℕ) → Option (List ℕ)
unknown_key part known = find (λ key. not (list_any (λ other. bytes_eq other key) known)) (keys_of (table_view part.table.now))

-- what is said of a key that isn't one of these
abbrev pub unknown_words : List ℕ → List (List ℕ) → List ℕ
unknown_words key known = codes "there is no key " ++ (key ++ (codes " here: " ++ serving key known))

-- what is refused is the first key that isn't one of these
abbrev pub IsUnknown : Part → List (List ℕ) → Option (List ℕ) → Failure → Type 0
IsUnknown part known None failure = ⊥
IsUnknown part known (Some key) failure = IsFault (fault_words part key (unknown_words key known)) failure

-- a key is missing, or its value is a text
abbrev pub may_be_text : Option Data → Bool
may_be_text None = true
may_be_text (Some (string text)) = true
may_be_text _ = false

abbrev pub may_be_boolean : Option Data → Bool
may_be_boolean None = true
may_be_boolean (Some (boolean value)) = true
may_be_boolean _ = false

-- the number of a value, where it is whole and not larger than the most
abbrev pub number_in : ℕ → Option Data → Option ℕ
number_in most (Some (integer (pos number))) = if nat_le number most then Some number else None
number_in most _ = None

-- the values of an array: none where the key is missing
abbrev pub values_of : Option Data → Option Items
values_of None = Some no_items
values_of (Some (array items)) = Some items
values_of _ = None

abbrev pub onto_tables : Members → Option (List Members) → Option (List Members)
onto_tables first None = None
onto_tables first (Some others) = Some (first ∷ others)

-- the tables of an array that has nothing else
abbrev pub tables_in : Items → Option (List Members)
tables_in no_items = Some []
tables_in (item (table first) others) = onto_tables first (tables_in others)
tables_in (item _ others) = None

-- tables, and others behind them
abbrev pub tables_onto : List Members → Option (List Members) → Option (List Members)
tables_onto tables None = None
tables_onto tables (Some others) = Some (tables ++ others)

abbrev pub tables_of : Option Items → Option (List Members)
tables_of None = None
tables_of (Some items) = tables_in items

-- the entry of this number of an array of tables of the bench
pub record IsEntry (root : Part) (array : List ℕ) (index : ℕ) (part : Part) : Type 0 where
  pub file : part.file.now ≡ root.file.now
  pub bench : part.bench.now ≡ root.bench.now
  pub array_name : part.array.now ≡ array
  pub number : part.index ≡ index
  pub whole : length part.key.now ≡ 0

abbrev pub IsSaid : Failure → Type 0
IsSaid (Said words) = Unit {0}
IsSaid _ = ⊥
