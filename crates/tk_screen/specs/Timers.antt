-- Meaning. The lines of what an application has waiting.
use Rattle.std.specs.Prelude.{ℕ, List, ◌++◌, Option, Some, None, codes, decimal, flat_map}
use Rattle.tk_after.specs.declared.waiting.WaitingScript.{WaitingScript}
use Rattle.tk_screen.specs.Fields.{escaped, field}

-- the name of a timer or an idle script, after a blank
abbrev pub name_field : ℕ → List ℕ
name_field id = codes " after#" ++ decimal id

-- up to the script: `timer ID DUE`, `idle ID`
abbrev pub kind_fields : Option ℕ → ℕ → List ℕ
kind_fields (Some due) id = codes "timer" ++ name_field id ++ field due
kind_fields None id = codes "idle" ++ name_field id

-- `timer ID DUE SCRIPT` or `idle ID SCRIPT`
abbrev pub entry_line : WaitingScript → List ℕ
entry_line entry = kind_fields entry.due entry.id ++ codes " " ++ escaped entry.script ++ codes "\n"

-- in the order of the numbers
abbrev pub timer_lines : List WaitingScript → List ℕ
timer_lines entries = flat_map entry_line entries
