-- Meaning. Whether a list has an item.
use Rattle.std.specs.Prelude.{◌≡◌, ℕ, Bool, List, Result, Ok, Err, bytes_eq, ⊤}
use Rattle.std.specs.List.{list_any}
use Rattle.tcl_text.specs.declared.fault.ListFault.{ListFault}
use Rattle.tcl_text.specs.declared.fault.SplitFault.{SplitFault}
use Rattle.tcl_text.specs.declared.fault.SplitFault.TheVariants.{BadList, NoMemory}

-- whether one of the items equals the text, or the list's fault
abbrev pub has_item : List ℕ → Result (List (List ℕ)) ListFault → Result Bool ListFault
has_item text (Ok items) = Ok (list_any (λ item. bytes_eq item text) items)
has_item text (Err fault) = Err fault

-- the answer is that, unless memory was refused
abbrev pub Tells : Result Bool SplitFault → Result Bool ListFault → Type 0
Tells (Ok found) told = told ≡ Ok found
Tells (Err (BadList fault)) told = told ≡ Err fault
Tells (Err NoMemory) told = ⊤
