-- Links of an application's variables lead to earlier frames, and its levels are those of frames that are there.
use Rattle.std.proofs.Common.{◌≡◌, ℕ, zero, suc, ◌-◌, ◌<◌, Bool, true, false, nat_lt, ltb-false, if◌then◌else◌, List, [], ◌∷◌, All, length, refl, sym, subst, arith}
use Rattle.tcl_vars.specs.Links.{FramesDescend}
use Rattle.tcl_vars.specs.Store.{Store}
use Rattle.tcl_vars.proofs.BelowLemmas.{LinksDescend-frames}
use Rattle.tcl_vars.proofs.OnlyLinks.{links_lead, only_links_lead}
use Rattle.tcl_table.specs.Levels.{here, own_place}
use Rattle.tcl_interp.specs.Evaluation.{State, Outcome, Ended, OutOfSteps}
use Rattle.tcl_interp.specs.Outside.{Told}
use Rattle.tcl_interp.specs.Tasks.{looked_told}
use Rattle.tcl_interp.specs.Acts.{told_state}
use Rattle.tcl_interp.specs.Scripts.{out_of_global}
use Rattle.tcl_interp.specs.declared.job.Task.{Task}
use Rattle.tk_base.specs.declared.local_event.LocalEvent.{LocalEvent}
use Rattle.tk_commands.specs.Course.{with_end}
use Rattle.tk_panel.specs.declared.job.Job.{Job}
use Rattle.tk_app.specs.declared.state.AppState.{AppState}
use Rattle.tk_app.specs.declared.state.AppState.TheVariants.{Running, Exhausted, Closed}
use Rattle.tk_app.specs.Application.{Application}
use Rattle.tk_app.specs.Commands.{Update, scripts_in}
use Rattle.tk_app.specs.Dispatch.{Action, RunsScripts, global_meaning, with_whole_panel}
use Rattle.tk_app.specs.Jobs.{meaning}
use Rattle.tk_app.specs.Moments.{after_outcome, delivered, delivered_as, settled_as, settled_by, started_by, state_at}
use Rattle.tk_app.specs.MomentsByJob.{settled, started}
use Rattle.tk_app.specs.Outside.{course, outside, run_in}
use Rattle.tk_app.specs.Seen.{Meaning, Seen}
use Rattle.tk_app.specs.Settle.{IsSettle, IsUpdate, after_script, start_meaning}
use Rattle.tk_app.specs.SettleJob.{settle_meaning, settling, update_meaning}
use Rattle.tk_app.specs.Stores.{EndsStanding, HasLinks, KeepsLinks, LinksStay, ScriptsStand, Stands, StandingLeads, StandsIn}
use Rattle.tk_app.proofs.BySettle.{by_settle}
use Rattle.tk_app.proofs.ByUpdate.{global_same, scripts_same}
use Rattle.tk_app.proofs.Commands.{scripts_run}
use Rattle.tk_app.proofs.KeptByPanel.{outside_keeps}
use Rattle.tk_app.proofs.Standing.{At, Fits, Leaves, kept_act, kept_and_then, kept_run_at, kept_script, standing}

-- ── what follows of a state ──

own_below : (levels : List ℕ) (store : Store) → Stands levels store → own_place levels < length store
own_below [] store stands = stands.rooted
own_below (level ∷ levels) store stands = stands.there (length (level ∷ levels) - 1) 0 (omega arith)

seen_last : (levels : List ℕ) (store : Store) → Stands levels store → here levels store ≡ own_place levels
seen_last levels store stands = by (nat_lt (own_place levels) (length store)) refl
  where
    by : (b : Bool) → nat_lt (own_place levels) (length store) ≡ b → (if b then own_place levels else 0) ≡ own_place levels
    by true is = refl
    by false is = let over = ltb-false (own_place levels) (length store) is in let under = own_below levels store stands in absurd (omega (arith, over, under))

pub standing_leads : StandingLeads
standing_leads state stands = record {
  leads = links_lead state.store (LinksDescend-frames state.store stands.earlier);
  only = only_links_lead state.store (LinksDescend-frames state.store stands.earlier);
  seen = seen_last state.context.levels state.store stands;
}

-- ── scripts ──

fits_of : {levels : List ℕ} {store : Store} → Stands levels store → Fits levels (length store)
fits_of stands = record { rooted = stands.rooted; there = stands.there }

at_of : {levels : List ℕ} {store : Store} → Stands levels store → At levels (length store) levels store
at_of stands = record { seen = refl; many = refl; earlier = stands.earlier }

ends_standing : (begun : State Seen) → StandsIn begun → (outcome : Outcome Seen) → Leaves begun.context.levels (length begun.store) outcome → EndsStanding begun outcome
ends_standing begun stands (Ended left code text) at = (at.seen, at.many, standing (fits_of stands) at)
ends_standing begun stands (OutOfSteps left) left_so = left_so

script_stands : (room : ℕ) (script : List ℕ) (state : State Seen) → StandsIn state → EndsStanding state (run_in room script state)
script_stands room script state stands =
    ends_standing state stands (run_in room script state)
    (kept_script outside outside_keeps room state.context.levels (length state.store) (fits_of stands) script state (at_of stands))

global_stands : (room : ℕ) (script : List ℕ) (state : State Seen) → StandsIn state → EndsStanding state (global_meaning (run_in room) script state)
global_stands room script state stands =
    ends_standing state stands (global_meaning (run_in room) script state)
    (kept_run_at state.context.levels (length state.store) (fits_of stands) (run_in room) (kept_script outside outside_keeps room) 1 script state (at_of stands))

pub scripts_stand : ScriptsStand
scripts_stand update meets room script state sound stands = (
  subst (λ (o : Outcome Seen). EndsStanding state o) (scripts_same update meets room script state sound) (script_stands room script state stands),
  subst (λ (o : Outcome Seen). EndsStanding state o) (global_same room (scripts_in update room) (scripts_same update meets room) script state sound) (global_stands room script state stands),
)

-- ── an application by itself ──

alone : (frames : ℕ) → 0 < frames → All (λ level. level < frames) (0 ∷ [])
alone frames rooted zero d lt = rooted
alone frames rooted (suc k) d lt = absurd (omega (arith, lt))

at_global : {levels : List ℕ} {store : Store} → Stands levels store → Stands (0 ∷ []) store
at_global {levels} {store} stands = record { rooted = stands.rooted; there = alone (length store) stands.rooted; earlier = stands.earlier }

none_descend : FramesDescend ([] ∷ [])
none_descend zero = tt
none_descend (suc frame) = tt

module _ {M : Type 0} (answer : M → Meaning) where
  module _ (application : Application M) (held : HasLinks application) where
    abbrev Goes : Outcome Seen → Type 0
    Goes outcome = Leaves (0 ∷ []) (length application.store) outcome

    outcome_links : (outcome : Outcome Seen) → Goes outcome → HasLinks (after_outcome outcome application)
    outcome_links (Ended left code text) at = at_global (standing (fits_of held) at)
    outcome_links (OutOfSteps left) stands = at_global stands

    job_goes : (job : Job) (state : State Seen) → At (0 ∷ []) (length application.store) state.context.levels state.store → Goes (meaning 200 job state)
    job_goes job state at =
        let there : Told Seen (Task Job) = looked_told course state.shows state.store job in
        kept_act outside outside_keeps (run_in 200) (kept_script outside outside_keeps 200) (0 ∷ []) (length application.store) (fits_of held) [] (told_state there state) there.act at

    start_goes : (moment : ℕ) (script : List ℕ) → Goes (start_meaning update_meaning settle_meaning script (state_at answer moment application))
    unfolding settle_meaning
    start_goes moment script =
        let state : State Seen = state_at answer moment application in
        kept_and_then (0 ∷ []) (length application.store) (fits_of held) (global_meaning (scripts_in update_meaning 200) script state) (after_script settle_meaning)
        (subst (λ (run : RunsScripts). Goes (global_meaning run script state)) (sym (scripts_run 200))
        (kept_run_at (0 ∷ []) (length application.store) (fits_of held) (run_in 200) (kept_script outside outside_keeps 200) 1 script state (at_of held)))
        (λ left code text at. job_goes settling (with_whole_panel (with_end (out_of_global code) text left.shows.panel) left) at)

    started_links : (moment : ℕ) (script : List ℕ) → HasLinks (started answer moment script application)
    unfolding started_by
    started_links moment script = outcome_links (start_meaning update_meaning settle_meaning script (state_at answer moment application)) (start_goes moment script)

    settled_links : (moment : ℕ) → HasLinks (settled answer moment application)
    unfolding settle_meaning settled_by
    settled_links moment = by application.state
      where
        by : (s : AppState) → HasLinks (settled_as answer settle_meaning s moment application)
        by Running = outcome_links (settle_meaning (state_at answer moment application)) (job_goes settling (state_at answer moment application) (at_of held))
        by Exhausted = held
        by Closed = held

    delivered_links : (event : LocalEvent) → HasLinks (delivered event application)
    unfolding delivered
    delivered_links event = by application.state
      where
        by : (s : AppState) → HasLinks (delivered_as s event application)
        by Running = held
        by Exhausted = held
        by Closed = held

  module _ (update : Update) (is_update : IsUpdate update) (settle : Action) (meets : IsSettle update settle) where
    keeps_links : KeepsLinks answer update settle
    keeps_links = record {
      fresh = λ spec. record { rooted = omega arith; there = alone 1 (omega arith); earlier = none_descend };
      started = λ moment script application sound held.
          subst (λ (next : Application M). HasLinks next) ((by_settle answer).started update is_update settle meets moment script application sound) (started_links application held moment script);
      delivered = λ event application held. delivered_links application held event;
      settled = λ moment application sound held.
          subst (λ (next : Application M). HasLinks next) ((by_settle answer).settled update is_update settle meets moment application sound) (settled_links application held moment);
    }

pub links_stay : {M : Type 0} (answer : M → Meaning) → LinksStay answer
links_stay answer update is_update settle meets = keeps_links answer update is_update settle meets
