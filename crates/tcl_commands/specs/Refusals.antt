-- Steps. That the code did what a definition says, unless memory was refused.
use Rattle.std.specs.Prelude.{◌≡◌, ℕ, List, Result, Ok, Err, ⊤}
use Rattle.tcl_text.specs.declared.commands.answers.Refusal.{Refusal}
use Rattle.tcl_text.specs.declared.commands.answers.Refusal.TheVariants.{Error, NoMemory}
use Rattle.tcl_vars.specs.Store.{Store}
use Rattle.tcl_commands.specs.Done.{Done}

-- a step that left this store did what the definition says, unless memory was refused
abbrev pub Does : Result (List ℕ) Refusal → Store → Done → Type 0
Does (Ok text) store wanted = wanted ≡ record { store = store; answer = Ok text }
Does (Err (Error message)) store wanted = wanted ≡ record { store = store; answer = Err message }
Does (Err NoMemory) store wanted = ⊤

-- what holds where memory was refused
abbrev pub IfNoMemory : {T : Type 0} → Result T Refusal → Type 0 → Type 0
IfNoMemory (Ok value) fact = ⊤
IfNoMemory (Err (Error message)) fact = ⊤
IfNoMemory (Err NoMemory) fact = fact

-- a step was done as the definition says; where it was refused, or memory was, the variables stay
abbrev pub Steps : {U : Type 0} → Result U Refusal → Store → Store → Result Store (List ℕ) → Type 0
Steps (Ok unit) old new wanted = wanted ≡ Ok new
Steps (Err (Error message)) old new wanted = (wanted ≡ Err message) × (new ≡ old)
Steps (Err NoMemory) old new wanted = new ≡ old
