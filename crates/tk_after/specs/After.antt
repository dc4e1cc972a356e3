-- Meaning. The command of after(n): what it answers, and what its application has waiting then.
use Rattle.std.specs.Prelude.{ℕ, ◌+◌, min, ℤ, pos, negsuc, if◌then◌else◌, List, [], ◌∷◌, ◌++◌, map, find, Option, Some, None, Ok, Err, codes}
use Rattle.std.specs.Fmt.{decimal}
use Rattle.std.specs.Option.{option_map_or, option_or}
use Rattle.std.specs.Str.{bytes_eq}
use Rattle.tcl_text.specs.Answers.{Answer, answers, fails, quoted, wrong_args, bad_option}
use Rattle.tcl_text.specs.Readings.{integer_of, list_form}
use Rattle.tcl_text.specs.StringCommands.{concat_words}
use Rattle.tk_after.specs.declared.waiting.WaitingScript.{WaitingScript}
use Rattle.tk_after.specs.Timers.{Timers, is_full, with_entry, without, ids}
use Rattle.tk_base.specs.Limits.{last_moment}

-- what the application has after the command, and the command's answer
abbrev pub Told : Type 0
Told = Timers × Answer

-- ---- names

-- a number as scripts have it
unfoldable pub name_of : ℕ → List ℕ
name_of id = codes "after#" ++ decimal id

-- the entry of this name
abbrev pub entry_named : List ℕ → List WaitingScript → Option WaitingScript
entry_named text entries = find (λ entry. bytes_eq (name_of entry.id) text) entries

-- the entry of this name, or else the first made of those with this script
abbrev pub entry_meant : List ℕ → List WaitingScript → Option WaitingScript
entry_meant text entries = option_or (entry_named text entries) (find (λ entry. bytes_eq entry.script text) entries)

-- ---- the forms: each has the words after the one that names it

-- `after ms script ?script ..?`, `after idle script ?script ..?`: the scripts joined, unless they are too long or too many wait
abbrev pub add_script : Option ℕ → Answer → Timers → Told
add_script due (Err text) own = (own, Err text)
add_script due (Ok script) own =
    if is_full own then (own, Err (codes "limit reached: timers"))
    else (with_entry due script own, Ok (name_of own.next_number))

abbrev pub add_words : Option ℕ → List ℕ → List (List ℕ) → Timers → Told
add_words due usage [] own = (own, wrong_args usage)
add_words due usage (word ∷ words) own = add_script due (concat_words (word ∷ words)) own

-- `after cancel id|script ?script ..?`: takes out what the words joined mean, if anything
abbrev pub cancel_text : Answer → Timers → Told
cancel_text (Err text) own = (own, Err text)
cancel_text (Ok text) own = (option_map_or (λ entry. without entry.id own) (entry_meant text own.entries) own, Ok [])

abbrev pub cancel_words : List (List ℕ) → Timers → Told
cancel_words [] own = (own, wrong_args (codes "after cancel id|script ?script ..?"))
cancel_words (word ∷ words) own = cancel_text (concat_words (word ∷ words)) own

-- `after info ?id?`: the names in order, or the script and whether it is a timer or idle
abbrev pub kind_told : Option ℕ → List ℕ
kind_told (Some due) = codes "timer"
kind_told None = codes "idle"

abbrev pub info_of : List ℕ → Option WaitingScript → Answer
info_of name None = fails (codes "event " ++ quoted name ++ codes " doesn't exist")
info_of name (Some entry) = answers (list_form (entry.script ∷ kind_told entry.due ∷ []))

abbrev pub info_words : List (List ℕ) → List WaitingScript → Answer
info_words [] entries = answers (list_form (map name_of (ids entries)))
info_words (name ∷ []) entries = info_of name (entry_named name entries)
info_words (name ∷ other ∷ words) entries = wrong_args (codes "after info ?id?")

-- ---- the command

-- milliseconds from now: none below 0, and no more than 10^12
abbrev pub delay_of : ℤ → ℕ
delay_of (pos ms) = min ms last_moment
delay_of (negsuc n) = 0

abbrev pub delay_words : ℕ → List ℕ → Option ℤ → List (List ℕ) → Timers → Told
delay_words moment first None words own = (own, bad_option first)
delay_words moment first (Some ms) words own = add_words (Some (moment + delay_of ms)) (codes "after ms script ?script ..?") words own

-- the words after the command's name, at a moment
unfoldable pub after_words : ℕ → List (List ℕ) → Timers → Told
after_words moment [] own = (own, wrong_args (codes "after ms script ?script ..?"))
after_words moment (first ∷ words) own =
    if bytes_eq first (codes "cancel") then cancel_words words own
    else (if bytes_eq first (codes "idle") then add_words None (codes "after idle script ?script ..?") words own
    else (if bytes_eq first (codes "info") then (own, info_words words own.entries)
    else delay_words moment first (integer_of first) words own))
