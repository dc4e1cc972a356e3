-- Meaning. What a command answers: its result or the text of its error.
use Rattle.std.specs.Prelude.{◌≡◌, ℕ, ℤ, Bool, nat_le, if◌then◌else◌, List, length, Option, Some, None, Result, Ok, Err, codes, ⊤}
use Rattle.std.specs.Fmt.{decimal}
use Rattle.tcl_text.specs.Readings.{integer_of, list_of}
use Rattle.tcl_text.specs.declared.fault.ListFault.{ListFault}
use Rattle.tcl_text.specs.declared.commands.answers.Refusal.{Refusal}
use Rattle.tcl_text.specs.declared.commands.answers.Refusal.TheVariants.{Error, NoMemory}
use Rattle.tcl_text.specs.Limits.{most_bytes}
use Rattle.tcl_text.specs.FaultTexts.{integer_text, list_text}
pub use Rattle.tcl_text.specs.Messages.{limit_text, message, quoted, wrong_args_text, bad_option_text, bad_index_text, missing_value_text, too_large_text}
unfoldable pub use Rattle.tcl_text.specs.Messages.{bounded}

-- a command's result, or the text of its error
abbrev pub Answer : Type 0
Answer = Result (List ℕ) (List ℕ)

-- the rest of a command, unless a step before it was refused
infixl 10 ◌>>=◌
abbrev pub ◌>>=◌ : {T U : Type 0} → Result T (List ℕ) → (T → Result U (List ℕ)) → Result U (List ℕ)
Ok value >>= rest = rest value
Err text >>= rest = Err text

-- an error with this text
abbrev pub fails : {T : Type 0} → List ℕ → Result T (List ℕ)
fails text = Err (bounded text)

-- this result
unfoldable pub answers : List ℕ → Answer
answers text = if nat_le (length text) most_bytes then Ok text else Err limit_text

-- the errors of the commands on texts and lists
abbrev pub wrong_args : {T : Type 0} → List ℕ → Result T (List ℕ)
wrong_args usage = fails (wrong_args_text usage)

abbrev pub bad_option : {T : Type 0} → List ℕ → Result T (List ℕ)
bad_option word = fails (bad_option_text word)

abbrev pub bad_index : {T : Type 0} → List ℕ → Result T (List ℕ)
bad_index word = fails (bad_index_text word)

abbrev pub missing_value : {T : Type 0} → List ℕ → Result T (List ℕ)
missing_value word = fails (missing_value_text word)

abbrev pub too_large : {T : Type 0} → Result T (List ℕ)
too_large = fails too_large_text

abbrev pub expected_integer : {T : Type 0} → List ℕ → Result T (List ℕ)
expected_integer word = fails (integer_text word)

-- the integer that a word is
abbrev pub integer_or_error : List ℕ → Option ℤ → Result ℤ (List ℕ)
integer_or_error word (Some n) = Ok n
integer_or_error word None = expected_integer word

unfoldable pub integer_in : List ℕ → Result ℤ (List ℕ)
integer_in word = integer_or_error word (integer_of word)

-- the items of the list that a word is
abbrev pub items_or_error : Result (List (List ℕ)) ListFault → Result (List (List ℕ)) (List ℕ)
items_or_error (Ok items) = Ok items
items_or_error (Err fault) = fails (list_text fault)

unfoldable pub items_in : List ℕ → Result (List (List ℕ)) (List ℕ)
items_in word = items_or_error (list_of word)

-- 1 or 0, and an index or -1
abbrev pub truth : Bool → Answer
truth b = answers (if b then codes "1" else codes "0")

abbrev pub place : Option ℕ → Answer
place (Some k) = answers (decimal k)
place None = answers (codes "-1")

-- a refusal is an error with this text, unless memory was refused
abbrev pub Refuses : Refusal → List ℕ → Type 0
Refuses (Error message) text = text ≡ message
Refuses NoMemory text = ⊤

-- what a step gave is what the definition says, unless memory was refused
abbrev pub Gives : {T : Type 0} → Result T Refusal → Result T (List ℕ) → Type 0
Gives (Ok value) wanted = wanted ≡ Ok value
Gives (Err (Error message)) wanted = wanted ≡ Err message
Gives (Err NoMemory) wanted = ⊤

-- an answer is what the steps of a command gave
abbrev pub IsAnswerOf : Result (List ℕ) Refusal → Answer → Type 0
IsAnswerOf given answer = (wanted : Answer) → Gives given wanted → answer ≡ wanted
