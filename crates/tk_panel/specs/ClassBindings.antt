-- Meaning. The bindings that an application has for the classes of its widgets before its script runs, in the order in which they are made.
use Rattle.std.specs.Prelude.{ℕ, List, [], ◌∷◌, Result, Ok, Err, if◌then◌else◌}
use Rattle.tk_base.specs.declared.kind.Kind.{Kind}
use Rattle.tk_base.specs.declared.kind.Kind.TheVariants as kind
use Rattle.tk_base.specs.Kind.{class_of}
use Rattle.tk_options.specs.Rows.{ClassBinding, row_of}
use Rattle.tk_patterns.specs.declared.binding.Binding.{Binding}
use Rattle.tk_patterns.specs.Own.{refuses, with_binding, without_tag}
use Rattle.tk_sequences.specs.declared.fault.SequenceFault.{SequenceFault}
use Rattle.tk_sequences.specs.declared.sequence.Sequence.{Sequence}
use Rattle.tk_virtual.specs.Parse.{parsed}

-- what `bind` makes of a class, a sequence and a script: nothing where the text is no sequence, or 4,096 bindings are there
abbrev pub with_sequence : List ℕ → List ℕ → List Binding → Result Sequence SequenceFault → List Binding
with_sequence class script own (Ok sequence) = if refuses class sequence own then own else with_binding class sequence script own
with_sequence class script own (Err fault) = own

unfoldable pub with_row : List ℕ → ClassBinding → List Binding → List Binding
with_row class row own = with_sequence class row.script own (parsed row.sequence)

-- rows, one after another
unfoldable pub with_rows : List ℕ → List ClassBinding → List Binding → List Binding
with_rows class [] own = own
with_rows class (row ∷ rows) own = with_rows class rows (with_row class row own)

-- the bindings of the class of a kind
abbrev pub with_class : Kind → List Binding → List Binding
with_class kind own = with_rows (class_of kind) (row_of kind).bindings own

-- those of Button, then of Entry, then of Listbox: the classes of the other kinds bind nothing
abbrev pub with_class_bindings : List Binding → List Binding
with_class_bindings own = with_class kind.Listbox (with_class kind.Entry (with_class kind.Button own))

-- none for any of the three
abbrev pub without_class : Kind → List Binding → List Binding
without_class kind own = without_tag (class_of kind) own

abbrev pub without_class_bindings : List Binding → List Binding
without_class_bindings own = without_class kind.Listbox (without_class kind.Entry (without_class kind.Button own))
