-- By whatever meets the equations of `update` and *Settle* the windows of an application stay numbered as they were made, and lie as a layout puts them.
use Rattle.std.proofs.Common.{◌≡◌, ℕ, List, [], sym, ◌∙◌, subst}
use Rattle.tcl_control.specs.declared.code.Code.{Code}
use Rattle.tcl_control.specs.declared.code.Code.TheVariants.{Normal}
use Rattle.tcl_interp.specs.Evaluation.{State, Outcome, Ended}
use Rattle.tk_screen.specs.Own.{Windowing}
use Rattle.tk_app.specs.Application.{Application}
use Rattle.tk_app.specs.Commands.{Update}
use Rattle.tk_app.specs.Dispatch.{Action}
use Rattle.tk_app.specs.LaidOut.{LeavesLaidOut, LeavesSettled}
use Rattle.tk_app.specs.Seen.{Meaning, Seen}
use Rattle.tk_app.specs.Settle.{IsSettle, IsSoundIn, IsUpdate}
use Rattle.tk_app.specs.SettleJob.{settle_meaning, settling, update_meaning}
use Rattle.tk_app.specs.Sound.{AreSound, EndsSound, RunsWith, StaysSound, StaysWith}
use Rattle.tk_app.proofs.BySettle.{by_settle}
use Rattle.tk_app.proofs.ByUpdate.{keeps_sound, only_settle}
use Rattle.tk_app.proofs.LaidOut.{ends_laid_out, settles_twice}
use Rattle.tk_app.proofs.SoundParts.{stays_sound}

-- what holds of sound windows by the code's jobs holds by whatever meets the equations
pub stays_by : {M : Type 0} (answer : M → Meaning) (holds : Windowing → Type 0) → ((own : Windowing) → holds own → AreSound own)
    → StaysWith answer update_meaning settle_meaning holds → (update : Update) → IsUpdate update → (settle : Action) → IsSettle update settle → StaysWith answer update settle holds
stays_by {M} answer holds sound stays update is_update settle meets = record {
  fresh = stays.fresh;
  started = λ moment script application held.
      subst (λ (next : Application M). RunsWith holds next)
      ((by_settle answer).started update is_update settle meets moment script application (sound application.windowing held))
      (stays.started moment script application held);
  delivered = stays.delivered;
  settled = λ moment application held.
      subst (λ (next : Application M). RunsWith holds next)
      ((by_settle answer).settled update is_update settle meets moment application (λ runs. sound application.windowing (held runs)))
      (stays.settled moment application held);
}

pub stays_sound_by : {M : Type 0} (answer : M → Meaning) → StaysSound answer
stays_sound_by answer = stays_by answer AreSound (λ own sound. sound) (stays_sound answer)

module _ (update : Update) (is_update : IsUpdate update) (settle : Action) (meets : IsSettle update settle) (state after : State Seen) (code : Code) (text : List ℕ)
    (sound : IsSoundIn state) (is : settle state ≡ Ended after code text) where
  -- the job has ended so, too
  by_job : settle_meaning state ≡ Ended after code text
  by_job = sym (only_settle update is_update settle meets state sound) ∙ is

  left_sound : IsSoundIn after
  unfolding settle_meaning
  left_sound = subst (λ (o : Outcome Seen). EndsSound o) by_job ((keeps_sound 200 state sound).1 settling)

pub leaves_laid_out : LeavesLaidOut
leaves_laid_out update is_update settle meets state after code text sound is =
    ends_laid_out state after code text (by_job update is_update settle meets state after code text sound is) (left_sound update is_update settle meets state after code text sound is)

pub leaves_settled : LeavesSettled
leaves_settled update is_update settle meets state after code text sound is =
    let kept = left_sound update is_update settle meets state after code text sound is in
    only_settle update is_update settle meets after kept ∙ settles_twice state after code text (by_job update is_update settle meets state after code text sound is) kept
