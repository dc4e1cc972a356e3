-- Meaning. What the pointer and keys mean in a listbox.
use Rattle.std.specs.Prelude.{ℕ, ◌+◌, ◌-◌, min, ℤ, Bool, if◌then◌else◌, List, length, Option, Some, None, codes}
use Rattle.std.specs.Str.{bytes_eq}
use Rattle.tk_widgets.specs.Listboxes.{ListboxState, row_at}
use Rattle.tk_options.specs.declared.option.OptionEntry.{OptionEntry}
use Rattle.tk_options.specs.declared.option.OptionName.TheVariants.{BorderWidth, SelectMode}
use Rattle.tk_options.specs.Options.{amount_of}
use Rattle.tk_widgets.specs.declared.listbox_keys.RowStep.{RowStep}
use Rattle.tk_widgets.specs.declared.listbox_keys.RowStep.TheVariants.{Up, Down}
use Rattle.tk_widgets.specs.Classes.{has_value}

abbrev pub has_mode : List ℕ → List OptionEntry → Bool
has_mode mode options = has_value SelectMode mode options

-- the item at a height, inside the border
abbrev pub row_of : ℤ → List OptionEntry → ListboxState → ℕ
row_of y options box = row_at y (amount_of BorderWidth options) (length box.items)

-- the step that a word is
unfoldable pub step_named : List ℕ → Option RowStep
step_named word =
    if bytes_eq word (codes "-1") then Some Up
    else if bytes_eq word (codes "1") then Some Down
    else None

-- the place a step further; that of the active item where there is none
abbrev pub place_after : RowStep → ListboxState → ℕ
place_after Up box = box.active - 1
place_after Down box = min (box.active + 1) (length box.items - 1)
