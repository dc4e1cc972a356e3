-- Steps. What a command leaves where a step gave or refused its answer.
use Rattle.std.specs.Prelude.{◌≡◌, ℕ, List, Result, Ok, Err, ⊤}
use Rattle.tcl_text.specs.declared.commands.answers.Refusal.{Refusal}
use Rattle.tcl_text.specs.declared.commands.answers.Refusal.TheVariants.{Error, NoMemory}
use Rattle.tcl_vars.specs.Store.{Store}
use Rattle.tk_screen.specs.Own.{Windowing}
use Rattle.tk_window_commands.specs.Answers.{Done, Told}

-- a step that left these did what the definition says, unless memory was refused
abbrev pub Does : Result (List ℕ) Refusal → Windowing → Store → Done → Type 0
Does (Ok text) own store wanted = wanted ≡ record { own = own; store = store; answer = Ok text }
Does (Err (Error message)) own store wanted = wanted ≡ record { own = own; store = store; answer = Err message }
Does (Err NoMemory) own store wanted = ⊤

abbrev pub DoesThere : Result (List ℕ) Refusal → Windowing → Told → Type 0
DoesThere (Ok text) own wanted = wanted ≡ record { own = own; answer = Ok text }
DoesThere (Err (Error message)) own wanted = wanted ≡ record { own = own; answer = Err message }
DoesThere (Err NoMemory) own wanted = ⊤
