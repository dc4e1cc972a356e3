-- What meets the equations of `update` and *Settle* makes the same of an application as the jobs do.
use Rattle.std.proofs.Common.{◌≡◌, ℕ, List, refl, sym, ap, ◌∙◌, subst}
use Rattle.tcl_control.specs.declared.code.Code.{Code}
use Rattle.tcl_interp.specs.Evaluation.{State, Outcome, Ended, OutOfSteps, and_then}
use Rattle.tcl_interp.specs.Plans.{levels_back, others, with_first_levels}
use Rattle.tcl_interp.specs.Scripts.{out_of_global}
use Rattle.tk_screen.specs.Own.{Windowing}
use Rattle.tk_tree.specs.Own.{IsSound}
use Rattle.tk_commands.specs.Course.{with_end}
use Rattle.tk_app.specs.declared.state.AppState.{AppState}
use Rattle.tk_app.specs.declared.state.AppState.TheVariants.{Running, Exhausted, Closed}
use Rattle.tk_app.specs.Application.{Application}
use Rattle.tk_app.specs.Commands.{Update, scripts_in}
use Rattle.tk_app.specs.Dispatch.{Action, global_meaning, with_whole_panel}
use Rattle.tk_app.specs.Moments.{after_outcome, settled_as, settled_by, started_by, state_at}
use Rattle.tk_app.specs.MomentsByJob.{settled, started}
use Rattle.tk_app.specs.Seen.{Meaning, Seen}
use Rattle.tk_app.specs.Settle.{IsSettle, IsSoundIn, IsUpdate, after_script, start_meaning}
use Rattle.tk_app.specs.SettleJob.{settle_meaning, update_meaning}
use Rattle.tk_app.specs.Sound.{EndsSound, RunsSound}
use Rattle.tk_app.specs.SoundByJob.{BySettle}
use Rattle.tk_app.proofs.ByEquations.{updates}
use Rattle.tk_app.proofs.ByUpdate.{keeps_sound, one_update, only_settle}
use Rattle.tk_app.proofs.Trees.{end_screen}

-- what comes behind something that ends so is the same where it is so in each such state
then_same : (o : Outcome Seen) (f g : State Seen → Code → List ℕ → Outcome Seen) → EndsSound o
    → ((state : State Seen) (code : Code) (text : List ℕ) → IsSoundIn state → f state code text ≡ g state code text) → and_then o f ≡ and_then o g
then_same (Ended state code text) f g sound same = same state code text sound
then_same (OutOfSteps state) f g sound same = refl

module _ (update : Update) (is_update : IsUpdate update) (settle : Action) (meets : IsSettle update settle) where
  same : (state : State Seen) → IsSoundIn state → settle_meaning state ≡ settle state
  same state sound = sym (only_settle update is_update settle meets state sound)

  script_same : (script : List ℕ) (state : State Seen) → IsSoundIn state → global_meaning (scripts_in update_meaning 200) script state ≡ global_meaning (scripts_in update 200) script state
  script_same script state sound =
      ap (λ (o : Outcome Seen). and_then o (levels_back (others 1 state.context))) (sym (one_update update is_update 200 script (record state { context = with_first_levels 1 state.context }) sound))

  start_same : (script : List ℕ) (state : State Seen) → IsSoundIn state → start_meaning update_meaning settle_meaning script state ≡ start_meaning update settle script state
  start_same script state sound =
      then_same (global_meaning (scripts_in update_meaning 200) script state) (after_script settle_meaning) (after_script settle) ((keeps_sound 200 state sound).0 update_meaning updates script)
      (λ left code text kept.
      same (with_whole_panel (with_end (out_of_global code) text left.shows.panel) left)
      (subst (λ (windowing : Windowing). IsSound windowing.tree) (sym (end_screen (out_of_global code) text left.shows.panel)) kept))
      ∙ ap (λ (o : Outcome Seen). and_then o (after_script settle)) (script_same script state sound)

  module _ {M : Type 0} (answer : M → Meaning) where
    started_same : (moment : ℕ) (script : List ℕ) (application : Application M) → IsSound application.windowing.tree
        → started answer moment script application ≡ started_by answer update settle moment script application
    unfolding started_by
    started_same moment script application sound = ap (λ o. after_outcome o application) (start_same script (state_at answer moment application) sound)

    settled_same : (moment : ℕ) (application : Application M) → RunsSound application → settled answer moment application ≡ settled_by answer settle moment application
    unfolding settled_by
    settled_same moment application sound = by application.state refl
      where
        by : (s : AppState) → application.state ≡ s → settled_as answer settle_meaning s moment application ≡ settled_as answer settle s moment application
        by Running is = ap (λ o. after_outcome o application) (same (state_at answer moment application) (sound is))
        by Exhausted is = refl
        by Closed is = refl

pub by_settle : {M : Type 0} (answer : M → Meaning) → BySettle answer
by_settle answer = record {
  started = λ update is_update settle meets. started_same update is_update settle meets answer;
  settled = λ update is_update settle meets. settled_same update is_update settle meets answer;
}
