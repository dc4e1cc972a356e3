-- Meaning. The kinds of widgets and their classes.
use Rattle.std.specs.Prelude.{ℕ, List, codes}
use Rattle.tk_base.specs.declared.kind.Kind.{Kind}
use Rattle.tk_base.specs.declared.kind.Kind.TheVariants.{Frame, Label, Button, Entry, Listbox}

-- the class of a window of this kind
abbrev pub class_of : Kind → List ℕ
class_of Frame = codes "Frame"
class_of Label = codes "Label"
class_of Button = codes "Button"
class_of Entry = codes "Entry"
class_of Listbox = codes "Listbox"
