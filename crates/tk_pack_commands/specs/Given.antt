-- Steps. What the steps that read lists of words gave.
use Rattle.std.specs.Prelude.{◌≡◌, ℕ, List, Result, Ok, Err, Vec, ⊤}
use Rattle.tcl_text.specs.declared.commands.answers.Refusal.{Refusal}
use Rattle.tcl_text.specs.declared.commands.answers.Refusal.TheVariants.{Error, NoMemory}

-- what a step gave, item by item, is what the definition says, unless memory was refused
abbrev pub GivesItems : {T Z : Type 0} → Result (Vec T Z) Refusal → Result (List T) (List ℕ) → Type 0
GivesItems (Ok list) wanted = wanted ≡ Ok list.items
GivesItems (Err (Error message)) wanted = wanted ≡ Err message
GivesItems (Err NoMemory) wanted = ⊤
