-- Meaning. `puts`, `clock` and `after`: what they answer, and what is left of the application.
use Rattle.std.specs.Prelude.{ℕ, List, [], ◌∷◌, Ok, codes, if◌then◌else◌}
use Rattle.std.specs.Fmt.{decimal}
use Rattle.std.specs.Str.{bytes_eq}
use Rattle.tcl_text.specs.Answers.{Answer, bad_option, wrong_args}
use Rattle.tk_after.specs.After.{after_words}
use Rattle.tk_panel.specs.declared.transcript.Stream.TheVariants.{Out}
use Rattle.tk_panel.specs.Panel.{Panel}
use Rattle.tk_panel.specs.Reports.{with_line}

abbrev pub Told : Type 0
Told = Panel × Answer

-- a line is written, and the answer is the empty text
abbrev pub written : List ℕ → Panel → Told
written text panel = (with_line Out text panel, Ok [])

-- a line for a channel: there is none but stdout
abbrev pub put_to : List ℕ → List ℕ → Panel → Told
put_to channel text panel = if bytes_eq channel (codes "stdout") then written text panel else (panel, bad_option channel)

-- puts ?stdout? text
unfoldable pub puts_words : List (List ℕ) → Panel → Told
puts_words (text ∷ []) panel = written text panel
puts_words (channel ∷ text ∷ []) panel = put_to channel text panel
puts_words words panel = (panel, wrong_args (codes "puts ?stdout? text"))

-- clock milliseconds: the moment
abbrev pub milliseconds : List (List ℕ) → ℕ → Answer
milliseconds [] moment = Ok (decimal moment)
milliseconds (word ∷ words) moment = wrong_args (codes "clock milliseconds")

unfoldable pub clock_words : List (List ℕ) → ℕ → Answer
clock_words [] moment = wrong_args (codes "clock option ?arg ..?")
clock_words (option ∷ words) moment = if bytes_eq option (codes "milliseconds") then milliseconds words moment else bad_option option

-- after ms script .., after idle script .., after cancel .., after info ..: of the application's own list, from the moment on
abbrev pub after_told : List (List ℕ) → Panel → Told
after_told words panel = (let there = after_words panel.moment words panel.timers in (record panel { timers = there.0 }, there.1))
