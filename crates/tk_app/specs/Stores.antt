-- Meaning. Whatever the scripts of an application do, each link of its variables leads to an earlier frame, and each level is that of a frame that is there.
-- So a place leads where `LinksLead` says, without a count of links, and the frame that is seen is that of the last level.
use Rattle.std.specs.Prelude.{◌≡◌, ℕ, ◌<◌, List, [], ◌∷◌, All, Option, length}
use Rattle.tcl_vars.specs.Links.{follows}
use Rattle.tcl_vars.specs.Name.{Place}
use Rattle.tcl_vars.specs.Links.{FramesDescend}
use Rattle.tcl_vars.specs.Store.{Store, end_of}
use Rattle.tcl_table.specs.Levels.{own_place}
use Rattle.tcl_interp.specs.Evaluation.{State, Outcome, Ended, OutOfSteps, seen_frame}
use Rattle.tk_base.specs.declared.local_event.LocalEvent.{LocalEvent}
use Rattle.tk_app.specs.Application.{Application, fresh}
use Rattle.tk_app.specs.Commands.{Update, scripts_in}
use Rattle.tk_app.specs.Dispatch.{Action, global_meaning}
use Rattle.tk_app.specs.Moments.{delivered, settled_by, started_by}
use Rattle.tk_app.specs.Seen.{Meaning, Seen}
use Rattle.tk_app.specs.Settle.{IsSettle, IsSoundIn, IsUpdate}
use Rattle.tk_app.specs.Sound.{AreSound, RunsSound}
use Rattle.tk_app.specs.Spec.{Spec}

-- At these levels there is the global frame and that of each level, and each link leads to an earlier frame.
pub record Stands (levels : List ℕ) (store : Store) : Type 0 where
  pub rooted : 0 < length store
  pub there : All (λ level. level < length store) levels
  pub earlier : FramesDescend store

abbrev pub StandsIn : {S : Type 0} → State S → Type 0
StandsIn state = Stands state.context.levels state.store

-- ── what follows of a state ──

-- a place leads to itself where its variable is no link, and else where the place does that the link names, and nothing else is so; the frame that is seen
-- is that of the last level
pub record LeadsIn {S : Type 0} (state : State S) : Type 0 where
  pub leads : (place : Place) → end_of state.store place ≡ follows state.store (end_of state.store) place
  pub only : (other : Place → Option Place) → ((place : Place) → other place ≡ follows state.store other place) → (place : Place) → other place ≡ end_of state.store place
  pub seen : seen_frame state ≡ own_place state.context.levels

abbrev pub StandingLeads : Type 0
StandingLeads = (state : State Seen) → StandsIn state → LeadsIn state

-- ── scripts, by whatever meets the equation of `update` ──

-- What is left where something has ended: the levels that it began at, as many frames as there were, and links as before. Where it needed a step and none
-- was left it may be within a procedure, or at fewer levels, and so it is at the levels there.
abbrev pub EndsStanding : {S : Type 0} → State S → Outcome S → Type 0
EndsStanding begun (Ended left code text) = (left.context.levels ≡ begun.context.levels) × (length left.store ≡ length begun.store) × StandsIn left
EndsStanding begun (OutOfSteps left) = StandsIn left

-- so a script leaves them, at its levels and at global level
abbrev pub ScriptsStand : Type 0
ScriptsStand =
    (update : Update) → IsUpdate update → (room : ℕ) (script : List ℕ) (state : State Seen) → IsSoundIn state → StandsIn state
    → EndsStanding state (scripts_in update room script state) × EndsStanding state (global_meaning (scripts_in update room) script state)

-- ── an application by itself ──

-- its variables are so where its scripts find them, at global level
abbrev pub HasLinks : {M : Type 0} → Application M → Type 0
HasLinks application = Stands (0 ∷ []) application.store

module _ {M : Type 0} (answer : M → Meaning) where
  module _ (update : Update) (settle : Action) where
    -- They are so at first, once its script has run, once it was given an event, and once it has settled.
    pub record KeepsLinks : Type 0 where
      pub fresh : (spec : Spec M) → HasLinks (fresh spec)
      pub started : (moment : ℕ) (script : List ℕ) (application : Application M) → AreSound application.windowing → HasLinks application
          → HasLinks (started_by answer update settle moment script application)
      pub delivered : (event : LocalEvent) (application : Application M) → HasLinks application → HasLinks (delivered event application)
      pub settled : (moment : ℕ) (application : Application M) → RunsSound application → HasLinks application
          → HasLinks (settled_by answer settle moment application)

  -- by whatever meets the equations of `update` and *Settle*
  abbrev pub LinksStay : Type 0
  LinksStay = (update : Update) → IsUpdate update → (settle : Action) → IsSettle update settle → KeepsLinks update settle
