-- Meaning. The commands that class bindings run, by their names: what each is called with, the kind of widgets that it is for, and what its words are.
use Rattle.std.specs.Prelude.{ℕ, List, [], ◌∷◌, ◌++◌, Option, codes}
use Rattle.std.specs.Map.{lookup}
use Rattle.std.specs.Str.{bytes_eq}
use Rattle.tk_base.specs.declared.kind.Kind.{Kind}
use Rattle.tk_base.specs.declared.kind.Kind.TheVariants as kind
use Rattle.tk_class_commands.specs.declared.buttons.ButtonRequest.{ButtonRequest}
use Rattle.tk_class_commands.specs.declared.buttons.ButtonRequest.TheVariants.{Enter, Leave, Press, Release, Invoke}
use Rattle.tk_class_commands.specs.declared.table.ClassForm.{ClassForm}
use Rattle.tk_class_commands.specs.declared.table.ClassForm.TheVariants.{Path, Word}
use Rattle.tk_class_commands.specs.declared.table.PathForm.{PathForm}
use Rattle.tk_class_commands.specs.declared.table.PathForm.TheVariants as path
use Rattle.tk_class_commands.specs.declared.table.WordForm.{WordForm}
use Rattle.tk_class_commands.specs.declared.table.WordForm.TheVariants as word

pub record ClassCommand : Type 0 where
  -- its name, and what the bindings put behind it
  pub usage : List ℕ
  pub kind : Kind
  pub form : ClassForm

-- a command that takes the path of a widget alone, and one that takes another word
abbrev pub on_path : Kind → List ℕ → PathForm → ClassCommand
on_path kind usage form = record { usage = usage; kind = kind; form = Path form }

abbrev pub with_word : Kind → List ℕ → WordForm → ClassCommand
with_word kind usage form = record { usage = usage; kind = kind; form = Word form }

abbrev pub on_button : List ℕ → ButtonRequest → ClassCommand
on_button usage request = on_path kind.Button usage (path.Button request)

-- ---- by their names

-- a command with its name
abbrev pub Row : Type 0
Row = List ℕ × ClassCommand

abbrev pub button_rows : List Row
button_rows =
    (codes "tk::ButtonEnter", on_button (codes "tk::ButtonEnter %W") Enter)
    ∷ (codes "tk::ButtonLeave", on_button (codes "tk::ButtonLeave %W") Leave)
    ∷ (codes "tk::ButtonDown", on_button (codes "tk::ButtonDown %W") Press)
    ∷ (codes "tk::ButtonUp", on_button (codes "tk::ButtonUp %W") Release)
    ∷ (codes "tk::ButtonInvoke", on_button (codes "tk::ButtonInvoke %W") Invoke)
    ∷ []

abbrev pub entry_rows : List Row
entry_rows =
    (codes "tk::EntryInsert", with_word kind.Entry (codes "tk::EntryInsert %W %A") word.Typed)
    ∷ (codes "tk::EntryBackspace", on_path kind.Entry (codes "tk::EntryBackspace %W") path.Backspace)
    ∷ (codes "tk::EntryDelete", on_path kind.Entry (codes "tk::EntryDelete %W") path.Delete)
    ∷ (codes "tk::EntryMove", with_word kind.Entry (codes "tk::EntryMove %W left") word.Move)
    ∷ (codes "tk::EntryDown", with_word kind.Entry (codes "tk::EntryDown %W %x") word.Point)
    ∷ []

abbrev pub listbox_rows : List Row
listbox_rows =
    (codes "tk::ListboxDown", with_word kind.Listbox (codes "tk::ListboxDown %W %y") word.Press)
    ∷ (codes "tk::ListboxDrag", with_word kind.Listbox (codes "tk::ListboxDrag %W %y") word.Drag)
    ∷ (codes "tk::ListboxMove", with_word kind.Listbox (codes "tk::ListboxMove %W -1") word.Step)
    ∷ (codes "tk::ListboxSpace", on_path kind.Listbox (codes "tk::ListboxSpace %W") path.Choose)
    ∷ []

unfoldable pub class_command_named : List ℕ → Option ClassCommand
class_command_named name = lookup (bytes_eq name) (button_rows ++ entry_rows ++ listbox_rows)
