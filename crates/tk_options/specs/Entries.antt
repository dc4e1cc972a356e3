-- Steps. The options of a widget as the map of a table has them, each under its name.
use Rattle.std.specs.Prelude.{◌≡◌, ℕ, if◌then◌else◌, List, [], ◌∷◌}
use Rattle.std.specs.Borrow.{Bor}
use Rattle.std.specs.Map.{values_of}
use Rattle.tk_options.specs.Names.{name_of}
use Rattle.tk_options.specs.Options.{is_named}
use Rattle.tk_options.specs.declared.option.OptionEntry.{OptionEntry}

-- the options in their order
abbrev pub options_in : List (Bor (List ℕ) × OptionEntry) → List OptionEntry
options_in entries = values_of entries

abbrev pub AreUnderTheirNames : List (Bor (List ℕ) × OptionEntry) → Type 0
AreUnderTheirNames [] = Unit {0}
AreUnderTheirNames (e ∷ es) = (e.0.now ≡ name_of e.1.option) × AreUnderTheirNames es

-- the options with one more, the last, or in the place of the one of its name
abbrev pub with_option : OptionEntry → List OptionEntry → List OptionEntry
with_option option [] = option ∷ []
with_option option (entry ∷ entries) = if is_named (name_of option.option) entry then option ∷ entries else entry ∷ with_option option entries
