-- Steps. What is told where a step gave or refused a word.
use Rattle.std.specs.Prelude.{◌≡◌, ◌≢◌, ℕ, List, Result, Ok, Err}
use Rattle.tcl_text.specs.Answers.{Answer, Gives}
use Rattle.tcl_text.specs.declared.commands.answers.Refusal.{Refusal}
use Rattle.tk_bind_commands.specs.Bind as bind
use Rattle.tk_bind_commands.specs.Bindtags as bindtags
use Rattle.tk_bind_commands.specs.Event as event
use Rattle.tk_bind_commands.specs.Words.{or_virtual_fault}
use Rattle.tk_patterns.specs.declared.binding.Binding.{Binding}
use Rattle.tk_sequences.specs.declared.sequence.Sequence.{Sequence}
use Rattle.tk_tree.specs.Own.{Tree}
use Rattle.tk_virtual.specs.declared.fault.VirtualFault.{VirtualFault}
use Rattle.tk_virtual.specs.declared.fault.VirtualFault.TheVariants.{NoMemory}
use Rattle.tk_virtual.specs.declared.pair.Pair.{Pair}
use Rattle.tk_virtual.specs.Virtual.{OrFault}

-- `with_script` and `with_word` of a step that gave or refused a script, or a sequence
abbrev pub IsWithScript : List ℕ → Sequence → Result (List ℕ) Refusal → List Binding → bind.Told → Type 0
IsWithScript tag sequence given own told = (script : Answer) → Gives given script → told ≡ bind.with_script tag sequence script own

abbrev pub IsWithWord : List ℕ → Result Sequence Refusal → List ℕ → List Binding → bind.Told → Type 0
IsWithWord tag given word own told = (sequence : Result Sequence (List ℕ)) → Gives given sequence → told ≡ bind.with_word tag sequence word own

-- `with_items` of a step that gave or refused a list
abbrev pub IsWithItems : ℕ → Result (List (List ℕ)) Refusal → Tree → bindtags.Told → Type 0
IsWithItems number given own told = (items : Result (List (List ℕ)) (List ℕ)) → Gives given items → told ≡ bindtags.with_items number items own

-- what is told where a change gave this fault, unless memory was refused
abbrev pub IsRefusal : VirtualFault → Answer → Type 0
IsRefusal fault answer = (own : List Pair) (outcome : OrFault (List Pair))
    → (fault ≢ NoMemory → outcome ≡ Err fault) → (own, answer) ≡ event.become own (or_virtual_fault outcome)
