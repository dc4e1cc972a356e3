-- What scripts and jobs keep of windows, and of what is packed, holds of an application's as long as it runs; so they are numbered as they were made.
use Rattle.std.proofs.Common.{◌≡◌, ℕ, List, refl, sym, subst, arith}
use Rattle.tcl_control.specs.declared.code.Code.{Code}
use Rattle.tcl_interp.specs.Evaluation.{State, Outcome, Ended, OutOfSteps, and_then}
use Rattle.tcl_interp.specs.Scripts.{out_of_global}
use Rattle.tk_base.specs.declared.local_event.LocalEvent.{LocalEvent}
use Rattle.tk_base.specs.declared.local_event.LocalKind.{LocalKind}
use Rattle.tk_base.specs.declared.local_event.LocalKind.TheVariants as kinds
use Rattle.tk_inputs.specs.Deliver.{arrived}
use Rattle.tk_screen.specs.Own.{Windowing, with_size}
use Rattle.tk_tree.specs.Own.{IsSound}
use Rattle.tk_panel.specs.declared.job.Job.{Job}
use Rattle.tk_panel.specs.Deliver.{arrivals_in, delivered_panel, with_arrivals, with_rectangle}
use Rattle.tk_panel.specs.Fresh.{fresh as fresh_panel}
use Rattle.tk_panel.specs.Panel.{Panel}
use Rattle.tk_commands.specs.Course.{with_end}
use Rattle.tk_app.specs.declared.state.AppState.{AppState}
use Rattle.tk_app.specs.declared.state.AppState.TheVariants.{Running, Exhausted, Closed}
use Rattle.tk_app.specs.Application.{Application, panel_at}
use Rattle.tk_app.specs.Commands.{scripts_in}
use Rattle.tk_app.specs.Dispatch.{global_meaning, with_whole_panel}
use Rattle.tk_app.specs.Moments.{after_outcome, delivered, delivered_as, settled_as, settled_by, started_by, state_at}
use Rattle.tk_app.specs.MomentsByJob.{settled, started}
use Rattle.tk_app.specs.Seen.{Meaning, Seen}
use Rattle.tk_app.specs.Jobs.{meaning}
use Rattle.tk_app.specs.Settle.{after_script, start_meaning}
use Rattle.tk_app.specs.SettleJob.{settle_meaning, settling, update_meaning}
use Rattle.tk_app.specs.Sound.{AreSound, EndsWith, RunsWith, StaysWith}
use Rattle.tk_app.proofs.ByEquations.{updates}
use Rattle.tk_app.proofs.ByUpdate.{keeps_sound}
use Rattle.tk_app.proofs.Trees.{Scene, end_screen, scene_of}

-- what holds of windows, of what is packed, and of the size of the rectangle
module _ (holds : Scene → Type 0) where
  abbrev pub OnScreen : Windowing → Type 0
  OnScreen own = holds (scene_of own)

  abbrev pub OnState : State Seen → Type 0
  OnState state = OnScreen state.shows.panel.windowing

  -- and keeps holding where an event gives the rectangle a size
  abbrev pub TakesSize : LocalEvent → Type 0
  TakesSize event = (panel : Panel) → OnScreen panel.windowing → OnScreen (with_rectangle event.kind panel).windowing

  -- so it does by any event, where it does by any size
  pub takes_any : ((size : ℕ × ℕ) (own : Windowing) → OnScreen own → OnScreen (with_size size own)) → (event : LocalEvent) → TakesSize event
  takes_any sized event panel held = by event.kind
    where
      by : (kind : LocalKind) → OnScreen (with_rectangle kind panel).windowing
      by (kinds.Size width height) = sized (width, height) panel.windowing held
      by (kinds.Position x y) = held
      by (kinds.Press button x y) = held
      by (kinds.Release button x y) = held
      by (kinds.Keydown key) = held
      by (kinds.Keyup key) = held
      by kinds.FocusIn = held
      by kinds.FocusOut = held

  -- scripts and jobs keep it
  pub record IsKept : Type 0 where
    pub script : (state : State Seen) → OnState state → (script : List ℕ) → EndsWith OnScreen (global_meaning (scripts_in update_meaning 200) script state)
    pub job : (state : State Seen) → OnState state → (job : Job) → EndsWith OnScreen (meaning 200 job state)

  -- what comes behind something that ends so, where it ends so in each such state
  then_so : (o : Outcome Seen) (f : State Seen → Code → List ℕ → Outcome Seen) → EndsWith OnScreen o
      → ((state : State Seen) (code : Code) (text : List ℕ) → OnState state → EndsWith OnScreen (f state code text)) → EndsWith OnScreen (and_then o f)
  then_so (Ended state code text) f kept rest = rest state code text kept
  then_so (OutOfSteps state) f kept rest = tt

  module _ (keeps : IsKept) where
    start_so : (script : List ℕ) (state : State Seen) → OnState state → EndsWith OnScreen (start_meaning update_meaning settle_meaning script state)
    unfolding settle_meaning
    start_so script state held =
        then_so (global_meaning (scripts_in update_meaning 200) script state) (after_script settle_meaning) (keeps.script state held script)
        (λ left code text kept.
        keeps.job (with_whole_panel (with_end (out_of_global code) text left.shows.panel) left)
        (subst (λ (windowing : Windowing). OnScreen windowing) (sym (end_screen (out_of_global code) text left.shows.panel)) kept) settling)

    module _ {M : Type 0} (answer : M → Meaning) where
      outcome_so : (o : Outcome Seen) (application : Application M) → EndsWith OnScreen o → RunsWith OnScreen (after_outcome o application)
      outcome_so (Ended left code text) application kept = λ runs. kept
      outcome_so (OutOfSteps left) application kept = λ runs. absurd (cc)

      pub started_so : (moment : ℕ) (script : List ℕ) (application : Application M) → OnScreen application.windowing → RunsWith OnScreen (started answer moment script application)
      unfolding started_by
      started_so moment script application held =
          outcome_so (start_meaning update_meaning settle_meaning script (state_at answer moment application)) application (start_so script (state_at answer moment application) held)

      pub settled_so : (moment : ℕ) (application : Application M) → RunsWith OnScreen application → RunsWith OnScreen (settled answer moment application)
      unfolding settle_meaning settled_by
      settled_so moment application held = by application.state refl
        where
          by : (s : AppState) → application.state ≡ s → RunsWith OnScreen (settled_as answer settle_meaning s moment application)
          by Running is = outcome_so (settle_meaning (state_at answer moment application)) application (keeps.job (state_at answer moment application) (held is) settling)
          by Exhausted is = held
          by Closed is = held

      pub delivered_so : (event : LocalEvent) (application : Application M) → TakesSize event → RunsWith OnScreen application → RunsWith OnScreen (delivered event application)
      unfolding delivered delivered_panel
      delivered_so event application takes held = by application.state refl
        where
          by : (s : AppState) → application.state ≡ s → RunsWith OnScreen (delivered_as s event application)
          by Running is =
              let panel : Panel = panel_at event.moment application in
              λ runs. takes (with_arrivals (arrived event panel.windowing.tree (arrivals_in panel)) panel) (held is)
          by Exhausted is = held
          by Closed is = held

    -- so it holds of an application of which it holds at first
    module _ (first : (name : List ℕ) (size : ℕ × ℕ) → OnScreen (fresh_panel name size 0).windowing) (takes : (event : LocalEvent) → TakesSize event) {M : Type 0} (answer : M → Meaning) where
      pub stays_so : StaysWith answer update_meaning settle_meaning OnScreen
      stays_so = record {
        fresh = λ spec runs. first spec.name (spec.width, spec.height);
        started = started_so answer;
        delivered = λ event application held. delivered_so answer event application (takes event) held;
        settled = settled_so answer;
      }

-- ── numbered as they were made ──

pub first_sound : (name : List ℕ) (size : ℕ × ℕ) → IsSound (fresh_panel name size 0).windowing.tree
unfolding fresh_panel
first_sound name size = record { rising = (tt, tt); below = (omega arith, tt); parents = (tt, tt); few = omega arith }

pub stays_sound : {M : Type 0} (answer : M → Meaning) → StaysWith answer update_meaning settle_meaning AreSound
stays_sound answer =
    stays_so (λ scene. IsSound scene.0)
    (record { script = λ state sound script. (keeps_sound 200 state sound).0 update_meaning updates script; job = λ state sound job. (keeps_sound 200 state sound).1 job })
    first_sound (takes_any (λ scene. IsSound scene.0) (λ size own sound. sound)) answer
