-- Steps. Scripts whose commands are done on their words: how far they came, and `if` whose body is known.
use Rattle.std.specs.Prelude.{◌≡◌, ◌≤◌, ◌+◌, ℕ, Bool, true, false, List, [], ◌∷◌, ◌++◌, length, drop, map, if◌then◌else◌, Option, Some, None, Ok, IsOk, ℤ, codes, bytes_eq}
use Rattle.std.specs.Fmt.{signed_decimal}
use Rattle.tcl_words.specs.declared.script.Command.{Command}
use Rattle.tcl_words.specs.declared.script.Word.{Word}
use Rattle.tcl_text.specs.Limits.{most_bytes}
use Rattle.tcl_vars.specs.Store.{Store}
use Rattle.tcl_control.specs.declared.code.Code.{Code}
use Rattle.tcl_control.specs.declared.code.Code.TheVariants.{Normal}
use Rattle.tcl_control.specs.declared.context.Context.{Context}
use Rattle.tcl_table.specs.Source.{script_of}
use Rattle.tcl_interp.specs.declared.chosen.Chosen.{Chosen}
use Rattle.tcl_interp.specs.declared.chosen.Chosen.TheVariants as chosen
use Rattle.tcl_interp.specs.declared.chosen.Switched.{Switched}
use Rattle.tcl_interp.specs.declared.chosen.Switched.TheVariants as switched
use Rattle.tcl_interp.specs.declared.machine.ScriptPlace.{ScriptPlace}
use Rattle.tcl_interp.specs.declared.reach.Came.{Came}
use Rattle.tcl_interp.specs.declared.reach.Came.TheVariants as came
use Rattle.tcl_interp.specs.declared.reach.Past.{Past}
use Rattle.tcl_interp.specs.declared.reach.Past.TheVariants as past
use Rattle.tcl_interp.specs.declared.reach.Reach.{Reach}
use Rattle.tcl_interp.specs.declared.reach.Reach.TheVariants as reach
use Rattle.tcl_interp.specs.declared.reach.Stop.{Stop}
use Rattle.tcl_control.specs.declared.plan.Plan.TheVariants.{Ends as PlanEnds, Runs as PlanRuns}
use Rattle.tcl_control.specs.Choices.{switch_plan}
use Rattle.tcl_control.specs.Expressions.{truth_of_text}
use Rattle.tcl_interp.specs.Finish.{Ends, ForCommand, GoesOn, Waiting}
use Rattle.tcl_interp.specs.Moves.{Moved, after_command, expression_begins, moved, standing}
use Rattle.tcl_interp.specs.Rests.{left_in}
use Rattle.tcl_interp.specs.Outside.{Outside}
use Rattle.tcl_interp.specs.Simple.{CommandEnds, IsWritten}
use Rattle.tcl_interp.specs.Steps.{TakesSteps}

module _ {K : Type 0} where
  -- a script at a place waits for its command
  abbrev pub waiting_at : ScriptPlace → Waiting K
  waiting_at place = ForCommand place.room (left_in place)

  -- a script has stopped, for which others wait
  abbrev pub stopped_in : Stop → List (Waiting K) → Moved K
  stopped_in stop waits = after_command stop.place.room (left_in stop.place) (map waiting_at stop.outer.items ++ waits) stop.code stop.text

  -- these commands of a script, with this room for scripts in it, came so far
  abbrev pub came_to : ℕ → List Command → Came → List (Waiting K) → Moved K
  came_to room commands (came.At next code text front) waits = after_command room (drop next commands) waits code text
  came_to room commands (came.Within stop) waits = stopped_in stop.value waits

  -- a script for which others wait came so far
  abbrev pub reached_to : ℕ → Reach → List (Waiting K) → Moved K
  reached_to room (reach.Whole text) waits = moved (GoesOn room [] text) waits
  reached_to room (reach.Stopped stop) waits = stopped_in stop waits

  -- the command at a place of these, behind one with this result, came so far
  abbrev pub past_to : ℕ → ℕ → List Command → List ℕ → Past → List (Waiting K) → Moved K
  past_to room place commands previous (past.Before front) waits = moved (GoesOn room (drop place commands) previous) waits
  past_to room place commands previous (past.Behind code text) waits = after_command room (drop (place + 1) commands) waits code text
  past_to room place commands previous (past.Within stop) waits = stopped_in stop.value waits

-- a text that is written at a place of the words
abbrev pub WrittenAt : ℕ → List Word → List ℕ → Type 0
WrittenAt place words text = IsWritten (drop place words) text × (length text ≤ most_bytes)

-- the words of `if`, written so: a condition, a body, and the body behind `else`, if there is one
abbrev pub IfWords : List Word → List ℕ → List ℕ → Option (List ℕ) → Type 0
IfWords words test body None =
    (length words ≡ 3) × WrittenAt 1 words test × WrittenAt 2 words body × (bytes_eq body (codes "then") ≡ false)
IfWords words test body (Some last) =
    (length words ≡ 5) × WrittenAt 1 words test × WrittenAt 2 words body × (bytes_eq body (codes "then") ≡ false) × WrittenAt 3 words (codes "else")
    × WrittenAt 4 words last

-- `switch` with these words behind its name ends so, or runs this body
abbrev pub Switches : List (List ℕ) → Switched → Type 0
Switches words (switched.Ends code text) = switch_plan words ≡ PlanEnds code text
Switches words (switched.Runs script) = (switch_plan words ≡ PlanRuns script) × IsOk (script_of script)
Switches words switched.Other = Unit {0}

module _ {S K : Type 0} (outside : Outside S K) where
  -- a command of these words came so far for so many steps, with these variables, where scripts in it have so much room
  abbrev pub Passes : ℕ → List Word → Store → Context → ℕ → Past → Store → Type 0
  Passes room words store context steps (past.Before front) store' = (steps ≡ 0) × (store' ≡ store)
  Passes room words store context steps (past.Behind code text) store' = CommandEnds outside room words store context steps store' code text
  Passes room words store context steps (past.Within stop) store' = ⊥

  -- a condition of this text is an integer behind so many steps, by which it holds or doesn't, whatever waits for it
  abbrev pub Decides : ℕ → Store → Context → List ℕ → ℕ → Bool → Type 0
  Decides room store context text count holds =
      (n : ℤ) × (truth_of_text (signed_decimal n) ≡ Ok holds)
      × ((waits : List (Waiting K)) (shows : S) → TakesSteps outside count (standing (moved (expression_begins room text) waits) store context) shows
      (standing (moved (Ends Normal (signed_decimal n)) waits) store context) shows)

  -- `if` of these words runs this body, or none, behind so many steps for its condition
  abbrev pub Chooses : ℕ → Store → Context → List Word → ℕ → Chosen → Type 0
  Chooses room store context words count chosen.Nothing = (test : List ℕ) × (body : List ℕ) × IfWords words test body None × Decides room store context test count false
  Chooses room store context words count (chosen.Body script) =
      (test : List ℕ) × (body : List ℕ) × (otherwise : Option (List ℕ)) × (holds : Bool) × IfWords words test body otherwise × Decides room store context test count holds
      × (Some script ≡ (if holds then Some body else otherwise)) × IsOk (script_of script)
