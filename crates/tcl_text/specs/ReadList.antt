-- Steps. What is kept of a text that was read as a list.
use Rattle.std.specs.Prelude.{◌≡◌, ℕ, List, Result, Ok}
use Rattle.tcl_text.specs.Readings.{list_of}
use Rattle.tcl_text.specs.declared.fault.ListFault.{ListFault}
use Rattle.tcl_text.specs.declared.shared.KeptAs.{KeptAs}
use Rattle.tcl_text.specs.declared.shared.KeptAs.TheVariants.{Forms, Items, Nothing}

-- what is read is the list of the items that are kept, or anything where nothing is
abbrev pub list_kept : KeptAs → Result (List (List ℕ)) ListFault → Result (List (List ℕ)) ListFault
list_kept (Forms r) read = Ok r.value
list_kept (Items items) read = Ok items
list_kept Nothing read = read

-- this is kept of the text
abbrev pub IsKeptOf : KeptAs → List ℕ → Type 0
IsKeptOf kept text = list_of text ≡ list_kept kept (list_of text)
