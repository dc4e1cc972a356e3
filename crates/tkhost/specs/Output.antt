-- Meaning. What is written, and the text and the status of each outcome.
use Rattle.std.specs.Prelude.{◌≡◌, ℕ, List, [], ◌++◌, Option, Some, None, codes}
use Rattle.std.specs.Fmt.{decimal}
use Rattle.std.specs.Io.KnownBytes.{Appends}
use Rattle.tkhost.specs.declared.outcome.Outcome.{Outcome}
use Rattle.tkhost.specs.declared.outcome.Outcome.TheVariants.{Done, Refused, Usage, Read, Write, NoMemory}
use Rattle.tkhost.specs.declared.outcome.Ending.{Ending}
use Rattle.tkhost.specs.declared.playing.PlayFault.{PlayFault}
use Rattle.tkhost.specs.declared.playing.PlayFault.TheVariants as fault
use Rattle.tkhost.specs.declared.playing.Unplayed.{Unplayed}
use Rattle.tkhost.specs.declared.playing.Unplayed.TheVariants as unplayed

-- the known bytes grow by a front of the text
abbrev pub AppendsFront : Option (List ℕ) → Option (List ℕ) → List ℕ → Type 0
AppendsFront old new text = (front : List ℕ) × (rest : List ℕ) × (text ≡ front ++ rest) × Appends old new front

abbrev pub refusal : ℕ → ℕ → List ℕ
refusal number line = (codes "tkhost: fault " ++ decimal number) ++ ((codes " at line " ++ decimal line) ++ codes "\n")

abbrev pub status_of : Outcome → ℕ
status_of Done = 0
status_of (Refused number line) = 1
status_of Usage = 2
status_of Read = 3
status_of Write = 3
status_of NoMemory = 4

-- the line on standard error, if there is one
abbrev pub message_of : Outcome → List ℕ
message_of Done = []
message_of (Refused number line) = refusal number line
message_of Usage = codes "usage: tkhost\n"
message_of Read = codes "tkhost: read fault\n"
message_of Write = codes "tkhost: write fault\n"
message_of NoMemory = codes "tkhost: out of memory\n"

-- the line behind it, where it was an application that asked for the memory
abbrev pub asker_line : Option (List ℕ) → List ℕ
asker_line None = []
asker_line (Some name) = codes "tkhost: memory was refused to " ++ (name ++ codes "\n")

abbrev pub ending_message : Ending → List ℕ
ending_message ending = message_of ending.outcome ++ asker_line ending.asker

-- no application is known to have asked
abbrev pub unasked : PlayFault → Unplayed
unasked fault.Write = unplayed.Write
unasked fault.NoMemory = unplayed.NoMemory None
