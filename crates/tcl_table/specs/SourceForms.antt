-- Steps. A script that is to be run, however far it has been read.
use Rattle.std.specs.Prelude.{◌≡◌, ℕ, List, Err}
use Rattle.tcl_table.specs.Source.{script_of}
use Rattle.tcl_table.specs.declared.source.SourceForm.{SourceForm}
use Rattle.tcl_table.specs.declared.source.SourceForm.TheVariants.{Unread, Read, Faulty}

-- the text of a script, however far it has been read
abbrev pub source_text : SourceForm → List ℕ
source_text (Unread text) = text
source_text (Read script) = script
source_text (Faulty fault text) = text

-- where a fault is kept, it is the script's
abbrev pub HasFault : SourceForm → Type 0
HasFault (Unread text) = Unit {0}
HasFault (Read script) = Unit {0}
HasFault (Faulty fault text) = script_of text ≡ Err fault
