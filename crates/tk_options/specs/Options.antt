-- Meaning. The options of one widget: which one a word means, and how they are set and told.
use Rattle.std.specs.Prelude.{ℕ, ◌<◌, Bool, if◌then◌else◌, List, [], ◌∷◌, length, take, filter, find, fold, Option, Some, None, option_map, unwrap_or, Result, Ok, Err}
use Rattle.std.specs.Option.{option_map_or, option_or}
use Rattle.std.specs.Str.{bytes_eq}
use Rattle.tk_base.specs.Steps.{◌>>=◌}
use Rattle.tcl_text.specs.Readings.{list_form}
use Rattle.tk_options.specs.Forms.{amount_in, value_in}
use Rattle.tk_options.specs.Names.{name_of, long_name}
use Rattle.tk_options.specs.declared.fault.OptionFault.{OptionFault}
use Rattle.tk_options.specs.declared.fault.OptionFault.TheVariants.{UnknownOption, Ambiguous, BadValue, NoValue}
use Rattle.tk_options.specs.declared.option.OptionName.{OptionName}
use Rattle.tk_options.specs.declared.option.OptionEntry.{OptionEntry}
use Rattle.tk_options.specs.declared.settings.Setting.{Setting}
use Rattle.tcl_text.specs.Limits.{most_bytes}

-- a call's outcome, or why it was refused
abbrev pub OptionResult : Type 0 → Type 0
OptionResult T = Result T OptionFault

-- ---- which option a word means

-- whether the option has this very name
abbrev pub is_named : List ℕ → OptionEntry → Bool
is_named name entry = bytes_eq (name_of entry.option) name

-- whether its name begins with these characters
abbrev pub is_begun : List ℕ → OptionEntry → Bool
is_begun word entry = bytes_eq word (take (length word) (name_of entry.option))

-- the only one of some options
abbrev pub only : List ℕ → List OptionEntry → OptionResult OptionEntry
only word [] = Err (UnknownOption word)
only word (entry ∷ []) = Ok entry
only word (entry ∷ other ∷ entries) = Err (Ambiguous word)

-- what was found, or else the only option whose name begins with the word
abbrev pub or_only : List ℕ → List OptionEntry → Option OptionEntry → OptionResult OptionEntry
or_only word table (Some entry) = Ok entry
or_only word table None = only word (filter (is_begun word) table)

-- the option of this name, or else of the name that it is short for, or else the only one whose name begins with the word
unfoldable pub meant : List ℕ → List OptionEntry → OptionResult OptionEntry
meant word table = or_only word table (find (is_named (long_name word)) table)

-- ---- setting options

abbrev pub or_bad : List ℕ → List ℕ → OptionEntry → Option (List ℕ) → OptionResult Setting
or_bad word value entry (Some kept) = Ok (record { option = entry.option; value = kept })
or_bad word value entry None = Err (BadValue value word)

-- a word and a value, tested
unfoldable pub tested : List ℕ → List ℕ → List OptionEntry → OptionResult Setting
tested word value table = do
  entry ← meant word table
  or_bad word value entry (value_in entry.form value)

-- words in pairs, tested from left to right; the last may lack its value
abbrev pub settings : List (List ℕ) → List OptionEntry → OptionResult (List Setting)
settings [] table = Ok []
settings (word ∷ []) table = do
  _ ← meant word table
  Err (NoValue word)
settings (word ∷ value ∷ words) table = do
  first ← tested word value table
  others ← settings words table
  Ok (first ∷ others)

-- the options with this value for the first that passes a test
abbrev pub first_set : (OptionEntry → Bool) → List ℕ → List OptionEntry → List OptionEntry
first_set test value [] = []
first_set test value (entry ∷ entries) = if test entry then (record entry { value = value }) ∷ entries else entry ∷ first_set test value entries

-- the options with one of them set
abbrev pub with_value : OptionName → List ℕ → List OptionEntry → List OptionEntry
with_value option value table = first_set (is_named (name_of option)) value table

-- with each set in its turn
abbrev pub with_settings : List Setting → List OptionEntry → List OptionEntry
with_settings all table = fold (λ entries setting. with_value setting.option setting.value entries) table all

-- the value that an option is set to last, if it is set
abbrev pub value_for : OptionName → Setting → Option (List ℕ)
value_for option setting = if bytes_eq (name_of setting.option) (name_of option) then Some setting.value else None

abbrev pub last_setting : OptionName → List Setting → Option (List ℕ)
last_setting option all = fold (λ last setting. option_or (value_for option setting) last) None all

-- all tested, and then all set
unfoldable pub configured : List (List ℕ) → List OptionEntry → OptionResult (List OptionEntry)
configured words table = do
  all ← settings words table
  Ok (with_settings all table)

-- ---- telling options

-- the value of the option that a word means
abbrev pub value_meant : List ℕ → List OptionEntry → OptionResult (List ℕ)
value_meant word table = do
  entry ← meant word table
  Ok entry.value

-- the value of an option, if there is one of this name
abbrev pub value_of : OptionName → List OptionEntry → Option (List ℕ)
value_of option table = option_map (λ entry. entry.value) (find (is_named (name_of option)) table)

-- its pixels, columns or lines, or 0
unfoldable pub amount_of : OptionName → List OptionEntry → ℕ
amount_of option table = option_map_or (λ value. unwrap_or (amount_in value) 0) (value_of option table) 0

-- an option as `configure` tells it: its name, its default and its value
abbrev pub description : OptionEntry → List ℕ
description entry = list_form (name_of entry.option ∷ entry.default ∷ entry.value ∷ [])

-- a description that is too long for a text
abbrev pub IsTooLong : OptionEntry → Type 0
IsTooLong entry = most_bytes < length (description entry)
