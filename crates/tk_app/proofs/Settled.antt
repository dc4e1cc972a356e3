-- What is due of an application takes a step, and once it has settled nothing is due.
use Rattle.std.proofs.Common.{◌≡◌, ℕ, ◌≤◌, ◌<◌, Bool, true, false, cond, List, [], Option, Some, None, refl, sym, ap, ◌∙◌, subst}
use Rattle.std.specs.Prelude.{◌&&◌, ◌||◌, not, nat_le, is_some}
use Rattle.std.specs.Option.{option_map_or}
use Rattle.std.proofs.lemmas.Bool.{leb-false, le-leb}
use Rattle.std.proofs.lemmas.Option.{none-some}
use Rattle.tcl_vars.specs.Store.{Store}
use Rattle.tcl_control.specs.declared.code.Code.{Code}
use Rattle.tcl_control.specs.declared.code.Code.TheVariants.{Normal}
use Rattle.tcl_interp.specs.Evaluation.{State, Outcome, Ended, OutOfSteps, and_then}
use Rattle.tcl_interp.specs.declared.tasks.Act.{Act}
use Rattle.tcl_interp.specs.Scripts.{out_of_global}
use Rattle.tcl_interp.specs.declared.job.Looked.{Looked}
use Rattle.tcl_interp.specs.declared.job.Looked.TheVariants.{Ends}
use Rattle.tcl_interp.specs.declared.job.Task.{Task}
use Rattle.tcl_interp.specs.declared.job.Task.TheVariants as task
use Rattle.tcl_interp.specs.JobLaws.{EndsBelow, LookedLast}
use Rattle.tcl_interp.proofs.Ends.{ends_looked, steps_fall}
use Rattle.tcl_interp.specs.Leaves.{EndsWith, Leaves}
use Rattle.tcl_interp.proofs.LeavesSame.{task_leaves}
use Rattle.tk_after.specs.declared.waiting.WaitingScript.{WaitingScript}
use Rattle.tk_after.specs.Timers.{due_moments, idle_ids, least}
use Rattle.tk_app.specs.Due.{IsPast}
use Rattle.tk_panel.specs.declared.job.Job.{Job}
use Rattle.tk_panel.specs.Next.{next}
use Rattle.tk_panel.specs.Panel.{Panel}
use Rattle.tk_panel.specs.Settle.{is_closed, is_due, still_waiting}
use Rattle.tk_commands.specs.Course.{look, looked_of, with_end}
use Rattle.tk_commands.specs.Rests.{has_settled, is_empty, settles_last}
use Rattle.tk_commands.proofs.Settled.{due_comes}
use Rattle.tk_app.specs.declared.state.AppState.{AppState}
use Rattle.tk_app.specs.declared.state.AppState.TheVariants.{Running, Exhausted, Closed}
use Rattle.tk_app.specs.Application.{Application, next_due, next_due_as, panel_at}
use Rattle.tk_app.specs.Dues.{DueTakesAStep, SettledIsPast, StartedIsPast}
use Rattle.tk_app.specs.Outside.{calls, called_as, alias_act, course, outside}
use Rattle.tk_app.specs.Moments.{after_outcome, settled_as, settled_by, started_by, state_after, state_at}
use Rattle.tk_app.specs.MomentsByJob.{settled}
use Rattle.tk_app.specs.Seen.{Meaning, Seen}
use Rattle.tk_app.specs.Commands.{scripts_in}
use Rattle.tk_app.specs.Dispatch.{global_meaning, with_whole_panel}
use Rattle.tk_app.specs.Jobs.{comes_next}
use Rattle.tk_app.specs.Settle.{after_script, start_meaning}
use Rattle.tk_app.specs.SettleJob.{settle_meaning, settling, update_meaning}
use Rattle.tk_app.proofs.Homes.{keeps, look_stays, looked_last}
use Rattle.tk_app.proofs.Nexts.{goes_by_next}
use Rattle.tk_app.proofs.Parts.{settles, starts}

-- ── the moment stays ──

abbrev moment_of : Seen → ℕ
moment_of seen = seen.panel.moment

calls_stay : (seen : Seen) (store : Store) (words : List (List ℕ)) → moment_of (calls seen store words).shows ≡ moment_of seen
calls_stay seen store words = by (alias_act seen.serves words)
  where
    by : (act : Option (Act (Task Job))) → moment_of (called_as act words seen store).shows ≡ moment_of seen
    by (Some act) = refl
    by None = refl

resumes_stay : (seen : Seen) (store : Store) (task : Task Job) (code : Code) (text : List ℕ) → moment_of (outside.resumes seen store task code text).shows ≡ moment_of seen
resumes_stay seen store (task.Begins script job) code text = refl
resumes_stay seen store (task.Waits job) code text = refl
resumes_stay seen store (task.Runs job) code text = refl
resumes_stay seen store task.Invoked code text = refl

leaves : Leaves moment_of outside
leaves = record { calls = calls_stay; resumes = resumes_stay }

settle_stays : (state : State Seen) → EndsWith moment_of (moment_of state.shows) (settle_meaning state)
settle_stays state =
    subst (λ o. EndsWith moment_of (moment_of state.shows) o) (settles state)
    (task_leaves moment_of outside leaves (moment_of state.shows) 200 (task.Runs settling) state Normal [] refl)

start_stays : (script : List ℕ) (state : State Seen) → EndsWith moment_of (moment_of state.shows) (start_meaning update_meaning settle_meaning script state)
start_stays script state =
    subst (λ o. EndsWith moment_of (moment_of state.shows) o) (starts script state)
    (task_leaves moment_of outside leaves (moment_of state.shows) 200 (task.Begins script settling) state Normal [] refl)

-- ── nothing is left ──

abbrev pub Quiet : Outcome Seen → Type 0
Quiet (Ended state code text) = has_settled state.shows.panel ≡ true
Quiet (OutOfSteps state) = Unit {0}

-- the last look left it
quiet_last : (code : Code) (text : List ℕ) (after : State Seen) (last : LookedLast course settles_last code text after) → has_settled after.shows.panel ≡ true
quiet_last code text after last =
    let before : Panel = last.before.panel in
    let there : Panel × Looked Job = look before after.store last.last in
    let panel : record there.0 { moment = before.moment } ≡ after.shows.panel = ap (λ (p : Seen × Looked Job). p.0.panel) last.found in
    let ends : there.1 ≡ Ends code text = ap (λ (p : Seen × Looked Job). p.1) last.found in
    ap has_settled (sym panel)
    ∙ ap (λ m. has_settled (record there.0 { moment = m })) (sym (look_stays last.last after.store before last.is_kind))
    ∙ looked_last last.last after.store before there.0 code text last.is_kind (ap (λ (l : Looked Job). (there.0, l)) ends)

pub quiet_settle : (state : State Seen) → Quiet (settle_meaning state)
unfolding settle_meaning
quiet_settle state = by (settle_meaning state) refl
  where
    by : (o : Outcome Seen) → settle_meaning state ≡ o → Quiet o
    by (Ended after code text) is = quiet_last code text after (ends_looked course calls 200 settles_last keeps settling state after code text refl is)
    by (OutOfSteps after) is = tt

quiet_start : (script : List ℕ) (state : State Seen) → Quiet (start_meaning update_meaning settle_meaning script state)
quiet_start script state = by (global_meaning (scripts_in update_meaning 200) script state)
  where
    by : (o : Outcome Seen) → Quiet (and_then o (after_script settle_meaning))
    by (Ended left code text) = quiet_settle (with_whole_panel (with_end (out_of_global code) text left.shows.panel) left)
    by (OutOfSteps left) = tt

-- ── so nothing is due ──

not_due : (closed empty due idle : Bool) → (closed || (empty && (not due && idle))) ≡ true → closed ≡ false → due ≡ false
not_due true empty due idle settled held = cc
not_due false true false idle settled held = refl
not_due false true true idle settled held = cc
not_due false false due idle settled held = cc

due_past : (moment : ℕ) (entries : List WaitingScript) → is_due moment entries ≡ false → IsPast moment (least (due_moments entries))
due_past moment entries early = by (least (due_moments entries)) refl
  where
    by : (o : Option ℕ) → least (due_moments entries) ≡ o → IsPast moment o
    by None is = tt
    by (Some due) is = leb-false due moment (ap (λ o. option_map_or (λ due. nat_le due moment) o false) (sym is) ∙ early)

past_by : (moment : ℕ) (panel : Panel) → panel.moment ≡ moment → has_settled panel ≡ true → IsPast moment (next_due_as (state_after panel) panel.timers)
past_by moment panel at settled = by (is_closed panel) refl
  where
    by : (b : Bool) → is_closed panel ≡ b → IsPast moment (next_due_as (cond b Closed Running) panel.timers)
    by true is = tt
    by false is =
        due_past moment panel.timers.entries
        (ap (λ m. is_due m panel.timers.entries) (sym at)
        ∙ not_due (is_closed panel) (is_empty panel.queue) (is_due panel.moment panel.timers.entries) (is_empty (idle_ids panel.timers.entries)) settled is)

module _ {M : Type 0} where
  past_outcome : (moment : ℕ) (o : Outcome Seen) (application : Application M) → EndsWith moment_of moment o → Quiet o → IsPast moment (next_due (after_outcome o application))
  past_outcome moment (Ended left code text) application at quiet = past_by moment left.shows.panel at quiet
  past_outcome moment (OutOfSteps left) application at quiet = tt

  fewer_by : (o : Outcome Seen) (application : Application M) → EndsBelow application.steps o → (after_outcome o application).state ≡ Running → (after_outcome o application).steps < application.steps
  fewer_by (Ended left code text) application below runs = below
  fewer_by (OutOfSteps left) application below runs = cc

-- ── what is due takes a step ──

-- where something comes next, it takes a step
comes_below : (state : State Seen) (o : Option Job) → (next settling state.store state.shows.panel).1 ≡ o → is_some o ≡ true → EndsBelow state.steps (settle_meaning state)
unfolding settle_meaning
comes_below state None is comes = cc
comes_below state (Some job) is comes = (steps_fall course calls 200 settling state).1 job (ap looked_of is)

-- a main window that is gone ends it
closed_next : (panel : Panel) (store : Store) → is_closed panel ≡ true → next settling store panel ≡ (panel, None)
unfolding still_waiting
closed_next panel store closed = rw closed refl

closed_ends : (state : State Seen) → is_closed state.shows.panel ≡ true → settle_meaning state ≡ Ended state Normal []
unfolding settle_meaning
closed_ends state closed = goes_by_next 200 settling state ∙ ap (comes_next 200 state) (closed_next state.shows.panel state.store closed)

module _ {M : Type 0} (answer : M → Meaning) where
  due_now : (moment due : ℕ) (entries : List WaitingScript) → least (due_moments entries) ≡ Some due → due ≤ moment → is_due moment entries ≡ true
  due_now moment due entries next_is le = ap (λ o. option_map_or (λ due. nat_le due moment) o false) next_is ∙ le-leb due moment le

  fewer : (moment due : ℕ) (application : Application M) → least (due_moments application.timers.entries) ≡ Some due → due ≤ moment
      → (after_outcome (settle_meaning (state_at answer moment application)) application).state ≡ Running
      → (after_outcome (settle_meaning (state_at answer moment application)) application).steps < application.steps
  fewer moment due application next_is le runs = by (is_closed (panel_at moment application)) refl
    where
      by : (b : Bool) → is_closed (panel_at moment application) ≡ b → (after_outcome (settle_meaning (state_at answer moment application)) application).steps < application.steps
      by true closed =
          let here : State Seen = state_at answer moment application in
          let ends : (after_outcome (settle_meaning here) application).state ≡ Closed = ap (λ o. (after_outcome o application).state) (closed_ends here closed) ∙ ap (λ b. cond b Closed Running) closed in
          let wrong : Closed ≡ Running = sym ends ∙ runs in
          absurd cc
      by false held =
          let here : State Seen = state_at answer moment application in
          fewer_by (settle_meaning here) application
          (comes_below here (next settling here.store here.shows.panel).1 refl (due_comes here.store here.shows.panel held (due_now moment due application.timers.entries next_is le))) runs

  fewer_as : (s : AppState) (moment due : ℕ) (application : Application M) → next_due_as s application.timers ≡ Some due → due ≤ moment
      → (settled_as answer settle_meaning s moment application).state ≡ Running → (settled_as answer settle_meaning s moment application).steps < application.steps
  fewer_as Running moment due application next_is le runs = fewer moment due application next_is le runs
  fewer_as Exhausted moment due application next_is le runs = absurd (none-some due next_is)
  fewer_as Closed moment due application next_is le runs = absurd (none-some due next_is)

  pub due_takes_a_step : DueTakesAStep answer
  unfolding settled_by
  due_takes_a_step moment due application next_is le runs = fewer_as application.state moment due application next_is le runs

  past_as : (s : AppState) (moment : ℕ) (application : Application M) → application.state ≡ s → IsPast moment (next_due (settled_as answer settle_meaning s moment application))
  past_as Running moment application is =
      let state : State Seen = state_at answer moment application in past_outcome moment (settle_meaning state) application (settle_stays state) (quiet_settle state)
  past_as Exhausted moment application is = subst (λ s. IsPast moment (next_due_as s application.timers)) (sym is) tt
  past_as Closed moment application is = subst (λ s. IsPast moment (next_due_as s application.timers)) (sym is) tt

  pub settled_is_past : SettledIsPast answer
  unfolding settled_by
  settled_is_past moment application = past_as application.state moment application refl

  pub started_is_past : StartedIsPast answer
  unfolding started_by
  started_is_past moment script application =
      let state : State Seen = state_at answer moment application in past_outcome moment (start_meaning update_meaning settle_meaning script state) application (start_stays script state) (quiet_start script state)
