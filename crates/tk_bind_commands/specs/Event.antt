-- Meaning. The command `event` (event(n)) without `generate`: what it answers, and what virtual events the application has then.
use Rattle.std.specs.Prelude.{ℕ, List, [], ◌∷◌, Result, Ok, Err, if◌then◌else◌, codes}
use Rattle.std.specs.Str.{bytes_eq}
use Rattle.tcl_text.specs.Answers.{Answer, ◌>>=◌, answers, bad_option, wrong_args}
use Rattle.tcl_text.specs.Readings.{list_form}
use Rattle.tk_bind_commands.specs.Words.{or_virtual_fault}
use Rattle.tk_sequences.specs.Words.{name_in}
use Rattle.tk_virtual.specs.declared.fault.VirtualFault.{VirtualFault}
use Rattle.tk_virtual.specs.declared.pair.Pair.{Pair}
use Rattle.tk_virtual.specs.Virtual.{OrFault, all_added, deleted, name_or_fault, written_names, written_of}

abbrev pub Told : Type 0
Told = List Pair × Answer

-- what the pairs become, with an empty answer; or they stay
abbrev pub become : List Pair → Result (List Pair) (List ℕ) → Told
become own (Ok pairs) = (pairs, Ok [])
become own (Err text) = (own, Err text)

-- the pairs of a name and sequences are added
unfoldable pub added_told : List ℕ → List (List ℕ) → List Pair → Told
added_told name sequences own = become own (or_virtual_fault (all_added name sequences own))

-- event add <<name>> sequence ?sequence ..?
abbrev pub add_words : List (List ℕ) → List Pair → Told
add_words (name ∷ sequence ∷ others) own = added_told name (sequence ∷ others) own
add_words _ own = (own, wrong_args (codes "event add <<name>> sequence ?sequence ..?"))

-- event delete <<name>> ?sequence ..?
abbrev pub delete_words : List (List ℕ) → List Pair → Told
delete_words (name ∷ sequences) own = become own (or_virtual_fault (deleted name sequences own))
delete_words [] own = (own, wrong_args (codes "event delete <<name>> ?sequence ..?"))

-- event info ?<<name>>?: the names, each where it first stands, or the sequences of a name
abbrev pub sequences_told : List ℕ → List Pair → Answer
sequences_told word own = do
  name ← or_virtual_fault (name_or_fault word (name_in word))
  answers (list_form (written_of name own))

abbrev pub info_words : List (List ℕ) → List Pair → Answer
info_words [] own = answers (list_form (written_names own))
info_words (name ∷ []) own = sequences_told name own
info_words _ own = wrong_args (codes "event info ?<<name>>?")

-- the words behind the command's name
unfoldable pub event_words : List (List ℕ) → List Pair → Told
event_words [] own = (own, wrong_args (codes "event option ?arg ..?"))
event_words (name ∷ words) own =
    if bytes_eq name (codes "add") then add_words words own
    else (if bytes_eq name (codes "delete") then delete_words words own
    else (if bytes_eq name (codes "info") then (own, info_words words own)
    else (own, bad_option name)))
