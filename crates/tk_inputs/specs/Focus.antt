-- Meaning. Which window has the keys: what `focus` does.
use Rattle.std.specs.Prelude.{◌≡◌, ℕ, Bool, false, ◌==◌, ◌&&◌, not, List, [], ◌∷◌, ◌++◌, Option, Some, None, Result, Ok, codes, if◌then◌else◌}
use Rattle.std.specs.Option.{option_map_or}
use Rattle.std.specs.Str.{bytes_eq}
use Rattle.tcl_text.specs.declared.commands.answers.Refusal.{Refusal}
use Rattle.tcl_text.specs.Answers.{Answer, Gives, bad_option, fails, quoted, wrong_args}
use Rattle.tk_sequences.specs.declared.event.Event.{Event}
use Rattle.tk_inputs.specs.declared.inputs.Input.{Input}
use Rattle.tk_inputs.specs.Deliver.{Arrivals, plain_events}
use Rattle.tk_sequences.specs.declared.event_type.EventType.TheVariants as types
use Rattle.tk_tree.specs.declared.window.Window.{Window}
use Rattle.tk_tree.specs.Own.{Tree, at_path, window_at}
use Rattle.tk_tree.specs.Path.{bad_path}

-- what is left of the application, and what the command answers
pub record Told : Type 0 where
  pub arrivals : Arrivals
  pub answer : Answer

abbrev pub told : Arrivals → Answer → Told
told arrivals answer = record { arrivals = arrivals; answer = answer }

-- ---- a window gets the keys

-- The two windows are told where the application has the host's focus, and they are two.
abbrev pub focus_events : Bool → ℕ → ℕ → ℕ → Tree → List Event
focus_events tells last number moment own =
    if tells then plain_events types.FocusOut moment last own ++ plain_events types.FocusIn moment number own else []

abbrev pub focused : ℕ → ℕ → Tree → Arrivals → Arrivals
focused number moment own arrivals = record {
  input = record arrivals.input { focus = number };
  queue = arrivals.queue ++ focus_events (arrivals.input.has_focus && not (arrivals.input.focus == number)) arrivals.input.focus number moment own;
}

-- ---- the command

-- the path of the focus window
abbrev pub focus_path : Tree → Input → List ℕ
focus_path own input = option_map_or (λ window. window.path) (window_at input.focus own) []

-- focus: only where the application has the host's focus
abbrev pub focus_shown : Tree → Input → Answer
focus_shown own input = Ok (if input.has_focus then focus_path own input else [])

-- focus -lastfor path
abbrev pub last_of : List ℕ → Tree → Input → Option Window → Answer
last_of path own input None = bad_path path
last_of path own input (Some window) = Ok (focus_path own input)

abbrev pub last_for : List (List ℕ) → Tree → Input → Answer
last_for (path ∷ []) own input = last_of path own input (at_path path own)
last_for _ own input = wrong_args (codes "focus -lastfor path")

-- focus path
abbrev pub focus_window : List ℕ → ℕ → Tree → Arrivals → Option Window → Told
focus_window path moment own arrivals None = told arrivals (bad_path path)
focus_window path moment own arrivals (Some window) = told (focused window.number moment own arrivals) (Ok [])

abbrev pub is_empty : List ℕ → Bool
is_empty text = bytes_eq text []

abbrev pub focus_on : List ℕ → ℕ → Tree → Arrivals → Told
focus_on path moment own arrivals = if is_empty path then told arrivals (Ok []) else focus_window path moment own arrivals (at_path path own)

abbrev pub focus_one : List ℕ → List (List ℕ) → ℕ → Tree → Arrivals → Told
focus_one path [] moment own arrivals = focus_on path moment own arrivals
focus_one path (other ∷ words) moment own arrivals = told arrivals (wrong_args (codes "focus ?path?"))

-- a word in the place of an option
abbrev pub is_option : List ℕ → Bool
is_option [] = false
is_option (byte ∷ bytes) = byte == 45

-- the words behind the command's name, at a moment
unfoldable pub focus_words : List (List ℕ) → ℕ → Tree → Arrivals → Told
focus_words [] moment own arrivals = told arrivals (focus_shown own arrivals.input)
focus_words (first ∷ words) moment own arrivals =
    if bytes_eq first (codes "-lastfor") then told arrivals (last_for words own arrivals.input)
    else (if is_option first then told arrivals (bad_option first)
    else focus_one first words moment own arrivals)
