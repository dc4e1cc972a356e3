-- Meaning. *Settle* and `update`, by their equations, and how an application begins.
use Rattle.std.specs.Prelude.{◌≡◌, ℕ, List}
use Rattle.tcl_control.specs.declared.code.Code.{Code}
use Rattle.tcl_interp.specs.Evaluation.{State, Outcome, and_then}
use Rattle.tcl_interp.specs.Scripts.{out_of_global}
use Rattle.tk_tree.specs.Own.{IsSound}
use Rattle.tk_commands.specs.Ends.{with_end}
use Rattle.tk_app.specs.Commands.{Update, scripts_in}
use Rattle.tk_app.specs.Dispatch.{Action, global_meaning, with_whole_panel}
use Rattle.tk_app.specs.Items.{item_meaning, settle_item}
use Rattle.tk_app.specs.Seen.{Seen}
use Rattle.tcl_text.specs.Limits.{most_running}

-- The windows of the state are numbered as they were made, each behind its parent, none above the next number, and there are at most as many as the limit.
-- An application's are so, from its beginning on (`StaysSound`), and of such windows it is known that a layout of what was just laid out changes nothing; so the
-- equations are of these. What meets an equation in all states meets it in these.
abbrev pub IsSoundIn : State Seen → Type 0
IsSoundIn state = IsSound state.shows.panel.windowing.tree

-- The equation of `update` (update(n)): the first item that exists, and `update` again, where the scripts of any room are run by it. Something meets it
-- (`EquationsAreMet`), and all that does is one (`OneSettle`).
abbrev pub IsUpdate : Update → Type 0
IsUpdate update =
    (room : ℕ) (state : State Seen) → IsSoundIn state → update (scripts_in update room) state ≡ item_meaning (scripts_in update room) (update (scripts_in update room)) state

-- *Settle*'s equation, where scripts are run by what `update` is: it is the first item that exists, and *Settle* again. Something meets it, and all that
-- does is one, too.
abbrev pub IsSettle : Update → Action → Type 0
IsSettle update settle = (state : State Seen) → IsSoundIn state → settle state ≡ settle_item (scripts_in update most_running) settle state

-- Something meets both (law `settles`, clause `met`).
abbrev pub EquationsAreMet : Type 0
EquationsAreMet = (update : Update) × IsUpdate update × ((settle : Action) × IsSettle update settle)

-- Two pairs are one where they do the same in each state whose windows are numbered so: *Settle*, and, whatever room is left for scripts one in another,
-- `update` and each script.
module _ (update other_update : Update) (settle other_settle : Action) where
  pub record AreOne : Type 0 where
    pub settles : (state : State Seen) → IsSoundIn state → settle state ≡ other_settle state
    pub updates : (room : ℕ) (state : State Seen) → IsSoundIn state → update (scripts_in update room) state ≡ other_update (scripts_in other_update room) state
    pub scripts : (room : ℕ) (script : List ℕ) (state : State Seen) → IsSoundIn state → scripts_in update room script state ≡ scripts_in other_update room script state

-- Any two pairs that meet both are one (clause `one`).
abbrev pub OneSettle : Type 0
OneSettle = (update : Update) → IsUpdate update → (settle : Action) → IsSettle update settle
    → (other_update : Update) → IsUpdate other_update → (other_settle : Action) → IsSettle other_update other_settle
    → AreOne update other_update settle other_settle

-- By what *Settle* is: an error of the application's own script is told, and then comes what is to be done at the moment.
abbrev pub after_script : Action → State Seen → Code → List ℕ → Outcome Seen
after_script settle state code text = settle (with_whole_panel (with_end (out_of_global code) text state.shows.panel) state)

-- and by what `update` is, too: the script before that
abbrev pub start_meaning : Update → Action → List ℕ → State Seen → Outcome Seen
start_meaning update settle script state = and_then (global_meaning (scripts_in update most_running) script state) (after_script settle)
