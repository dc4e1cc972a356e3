-- Meaning. The names of the commands that an application's panel serves, beside the paths of its windows.
use Rattle.std.specs.Prelude.{ℕ, List, [], ◌∷◌, ◌++◌, map, codes}
use Rattle.tk_base.specs.declared.kind.Kind.{Kind}
use Rattle.tk_options.specs.Rows.{kinds, row_of}

-- those that write lines, and have to do with time
abbrev pub moment_names : List (List ℕ)
moment_names = codes "after" ∷ codes "clock" ∷ codes "puts" ∷ codes "update" ∷ []

-- those of events and their bindings
abbrev pub binding_names : List (List ℕ)
binding_names = codes "bind" ∷ codes "bindtags" ∷ codes "event" ∷ codes "focus" ∷ []

-- those of all windows
abbrev pub window_names : List (List ℕ)
window_names = codes "destroy" ∷ codes "pack" ∷ codes "winfo" ∷ codes "wm" ∷ []

-- those that make widgets, one of each kind
abbrev pub command_of : Kind → List ℕ
command_of kind = (row_of kind).command

abbrev pub widget_names : List (List ℕ)
widget_names = map command_of kinds

-- those that the bindings of the class Button call
abbrev pub button_names : List (List ℕ)
button_names = codes "tk::ButtonDown" ∷ codes "tk::ButtonEnter" ∷ codes "tk::ButtonInvoke" ∷ codes "tk::ButtonLeave" ∷ codes "tk::ButtonUp" ∷ []

-- those that the bindings of the class Entry call
abbrev pub entry_names : List (List ℕ)
entry_names = codes "tk::EntryBackspace" ∷ codes "tk::EntryDelete" ∷ codes "tk::EntryDown" ∷ codes "tk::EntryInsert" ∷ codes "tk::EntryMove" ∷ []

-- those that the bindings of the class Listbox call
abbrev pub listbox_names : List (List ℕ)
listbox_names = codes "tk::ListboxDown" ∷ codes "tk::ListboxDrag" ∷ codes "tk::ListboxMove" ∷ codes "tk::ListboxSpace" ∷ []

abbrev pub plain_names : List (List ℕ)
plain_names = moment_names ++ (binding_names ++ (window_names ++ widget_names))

abbrev pub class_names : List (List ℕ)
class_names = button_names ++ (entry_names ++ listbox_names)

abbrev pub command_names : List (List ℕ)
command_names = plain_names ++ class_names
