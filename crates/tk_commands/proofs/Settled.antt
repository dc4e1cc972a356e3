-- What comes next of a job that settles, and that nothing is left where nothing comes.
use Rattle.std.proofs.Common.{◌≡◌, ℕ, Bool, true, false, cond, List, [], ◌∷◌, refl, sym, ap, ◌∙◌}
use Rattle.std.specs.Prelude.{◌&&◌, ◌||◌, not, Option, Some, None, is_some}
use Rattle.tcl_vars.specs.Store.{Store}
use Rattle.tcl_control.specs.declared.code.Code.{Code}
use Rattle.tcl_control.specs.declared.code.Code.TheVariants.{Normal, Error, Return, Break, Continue}
use Rattle.tcl_interp.specs.declared.job.Looked.{Looked}
use Rattle.tcl_interp.specs.declared.job.Looked.TheVariants.{Wants, Ends}
use Rattle.tcl_interp.specs.JobLaws.{Keeps}
use Rattle.tcl_interp.proofs.Ends.{ends_looked}
use Rattle.tk_after.specs.declared.waiting.WaitingScript.{WaitingScript}
use Rattle.tk_after.specs.Timers.{first_due, idle_ids}
use Rattle.tk_panel.specs.declared.job.Home.{Home}
use Rattle.tk_panel.specs.declared.job.Home.TheVariants.{Settle, Update, IdleTasks, LastLayout}
use Rattle.tk_panel.specs.declared.job.Job.{Job}
use Rattle.tk_panel.specs.declared.job.Rest.{Rest}
use Rattle.tk_panel.specs.declared.job.Rest.TheVariants.{Ends as NoRest, Destroys, Rounds}
use Rattle.tk_panel.specs.Changes.{laid_out}
use Rattle.tk_panel.specs.Next.{next, next_event, next_rest}
use Rattle.tk_panel.specs.Panel.{Panel}
use Rattle.tk_panel.specs.Settle.{Next, after_layout, after_round, at_home, drained, idle_round, is_closed, is_due, on_event, on_round, on_timer, queue_or_round, still_waiting, turn}
use Rattle.tk_panel.specs.Start.{start_event, start_rest, timer_taken}
use Rattle.tk_commands.specs.Calls.{calls}
use Rattle.tk_commands.specs.Course.{bound_ended, course, ended_by, looked_of}
use Rattle.tk_commands.specs.Rests.{DueComes, Rests, has_settled, home_settles, is_empty, rest_settles, settles_last}
use Rattle.tk_commands.proofs.Drained.{LeavesTimers, drained_leaves, drained_out, layout_leaves, then}

-- What holds of all that comes next of a job that settles: it holds of what comes after a round, and where a script is there to run.
module _ (Comes : Store → Panel → Next → Type 0)
    (round : (store : Store) (left : List ℕ) (panel : Panel) → Comes store panel (after_round Settle store left panel))
    (script : (store : Store) (panel : Panel) (job : Job) → settles_last job ≡ true → Comes store panel (panel, Some job)) where
  rest_so : (rest : Rest) (store : Store) (panel : Panel) → rest_settles rest ≡ true → Comes store panel (next_rest rest store panel)
  rest_so NoRest store panel is = cc
  rest_so (Destroys window doomed paths) store panel is = cc
  rest_so (Rounds ids Settle) store panel is = round store (still_waiting ids panel.timers.entries) panel
  rest_so (Rounds ids Update) store panel is = cc
  rest_so (Rounds ids IdleTasks) store panel is = cc
  rest_so (Rounds ids LastLayout) store panel is = cc

  pub next_so : (job : Job) (store : Store) (panel : Panel) → settles_last job ≡ true → Comes store panel (next job store panel)
  next_so job store panel is = by job.event
    where
      by : (event : Option (List (List ℕ))) → Comes store panel (next_event event job.rest store panel)
      by (Some (one ∷ scripts)) = script store panel (record { event = Some (one ∷ scripts); rest = job.rest }) is
      by (Some []) = rest_so job.rest store panel is
      by None = rest_so job.rest store panel is

-- either nothing comes next, and nothing is left to do, or a job that settles too
abbrev pub OnJob : Panel → Option Job → Type 0
OnJob panel None = has_settled panel ≡ true
OnJob panel (Some job) = settles_last job ≡ true

abbrev pub On : Next → Type 0
On there = OnJob there.0 there.1

-- ── from the last to the first ──

nothing_left : (closed : Bool) {X Y : Type 0} (queue : List X) (due : Bool) (ids : List Y) → queue ≡ [] → due ≡ false → ids ≡ [] → (closed || (is_empty queue && (not due && is_empty ids))) ≡ true
nothing_left true queue due ids none early idle = refl
nothing_left false queue due ids none early idle = rw (none, early, idle) refl

round_comes : (panel : Panel) → panel.queue ≡ [] → is_due panel.moment panel.timers.entries ≡ false → On (idle_round Settle panel)
round_comes panel none early = by (idle_ids panel.timers.entries) refl
  where
    by : (ids : List ℕ) → idle_ids panel.timers.entries ≡ ids → On (on_round Settle ids panel)
    by [] is = nothing_left (is_closed panel) panel.queue (is_due panel.moment panel.timers.entries) (idle_ids panel.timers.entries) none early is
    by (id ∷ ids) is = refl

due_as : (old new : Panel) → LeavesTimers old new → is_due new.moment new.timers.entries ≡ is_due old.moment old.timers.entries
due_as old new left = rw (left.moment, left.timers) refl

layout_comes : (store : Store) (panel : Panel) → is_due panel.moment panel.timers.entries ≡ false → On (after_layout Settle store panel)
unfolding queue_or_round
layout_comes store panel early =
    let laid = laid_out store panel in
    let there : Panel × List (List ℕ) = drained laid.queue laid in
    by there.1 there.0 (drained_out laid.queue laid refl) (due_as panel there.0 (then (layout_leaves store panel) (drained_leaves laid.queue laid)) ∙ early)
  where
    by : (scripts : List (List ℕ)) (after : Panel) → (scripts ≡ [] → after.queue ≡ []) → is_due after.moment after.timers.entries ≡ false → On (on_event Settle (idle_round Settle) after scripts)
    by [] after out early = round_comes after (out refl) early
    by (script ∷ scripts) after out early = refl

timer_comes : (store : Store) (panel : Panel) → On (on_timer Settle (after_layout Settle store) panel)
timer_comes store panel = by (is_due panel.moment panel.timers.entries) refl
  where
    by : (b : Bool) → is_due panel.moment panel.timers.entries ≡ b → On (cond b (panel, Some (record { event = None; rest = Rounds [] Settle })) (after_layout Settle store panel))
    by true is = refl
    by false is = layout_comes store panel is

turn_comes : (store : Store) (panel : Panel) → On (turn Settle store panel)
unfolding turn
turn_comes store panel = let there : Panel × List (List ℕ) = drained panel.queue panel in by there.1 there.0
  where
    by : (scripts : List (List ℕ)) (after : Panel) → On (on_event Settle (on_timer Settle (after_layout Settle store)) after scripts)
    by [] after = timer_comes store after
    by (script ∷ scripts) after = refl

closed_left : (panel : Panel) → is_closed panel ≡ true → has_settled panel ≡ true
closed_left panel is = rw is refl

home_comes : (store : Store) (panel : Panel) → On (at_home Settle store panel)
home_comes store panel = by (is_closed panel) refl
  where
    by : (b : Bool) → is_closed panel ≡ b → On (cond b (panel, None) (turn Settle store panel))
    by true is = closed_left panel is
    by false is = turn_comes store panel

left_comes : (store : Store) (left : List ℕ) (panel : Panel) → On (after_round Settle store left panel)
left_comes store [] panel = home_comes store panel
left_comes store (id ∷ ids) panel = refl

pub comes : (job : Job) (store : Store) (panel : Panel) → settles_last job ≡ true → On (next job store panel)
comes job store panel is = next_so (λ store panel there. On there) left_comes (λ store panel job is. is) job store panel is

-- ── jobs that settle stay so ──

pub wanted : (panel : Panel) (found : Option Job) (job : Job) → OnJob panel found → looked_of found ≡ Wants job → settles_last job ≡ true
wanted panel None job on is = cc
wanted panel (Some next) job on is = let same : next ≡ job = cc in ap settles_last (sym same) ∙ on

timer_starts : (home : Home) (panel : Panel) (entry : Option WaitingScript) → home_settles home ≡ true → settles_last (timer_taken (Rounds [] home) panel entry).1.1 ≡ true
timer_starts home panel (Some entry) is = is
timer_starts home panel None is = is

rest_starts : (rest : Rest) (panel : Panel) → rest_settles rest ≡ true → settles_last (start_rest rest panel).1.1 ≡ true
rest_starts NoRest panel is = is
rest_starts (Destroys window doomed paths) panel is = is
rest_starts (Rounds [] home) panel is = timer_starts home panel (first_due panel.moment panel.timers.entries) is
rest_starts (Rounds (id ∷ ids) home) panel is = is

pub event_starts : (event : Option (List (List ℕ))) (rest : Rest) (panel : Panel) → rest_settles rest ≡ true → settles_last (start_event event rest panel).1.1 ≡ true
event_starts (Some (script ∷ scripts)) rest panel is = is
event_starts (Some []) rest panel is = rest_starts rest panel is
event_starts None rest panel is = rest_starts rest panel is

bound_ends : (code : Code) (text : List ℕ) (scripts : List (List ℕ)) (rest : Rest) (panel : Panel) → rest_settles rest ≡ true → settles_last (bound_ended code text scripts rest panel).1 ≡ true
bound_ends Normal text scripts rest panel is = is
bound_ends Error text scripts rest panel is = is
bound_ends (Return code) text scripts rest panel is = is
bound_ends Break text scripts rest panel is = is
bound_ends Continue text scripts rest panel is = is

pub script_ends : (event : Option (List (List ℕ))) (rest : Rest) (code : Code) (text : List ℕ) (panel : Panel) → rest_settles rest ≡ true → settles_last (ended_by event rest code text panel).1 ≡ true
script_ends (Some scripts) rest code text panel is = bound_ends code text scripts rest panel is
script_ends None rest code text panel is = is

keeps : Keeps course settles_last
keeps = record {
  looks = λ panel store job wants is found. (let there : Next = next job store panel in wanted there.0 there.1 wants (comes job store panel is) found);
  starts = λ panel store job is. event_starts job.event job.rest panel is;
  ends = λ code text panel job is. script_ends job.event job.rest code text panel is;
}

-- ── the laws ──

pub ended_at : (panel shows : Panel) (found : Option Job) (code : Code) (text : List ℕ) → OnJob panel found → panel ≡ shows → looked_of found ≡ Ends code text → has_settled shows ≡ true
ended_at panel shows None code text on same is = ap has_settled (sym same) ∙ on
ended_at panel shows (Some job) code text on same is = cc

pub rests : Rests
rests room job state after code text is came =
    let last = ends_looked course calls room settles_last keeps job state after code text is came in
    let there : Next = next last.last after.store last.before in
    ended_at there.0 after.shows there.1 code text (comes last.last after.store last.before last.is_kind)
    (ap (λ (t : Panel × Looked Job). t.0) last.found) (ap (λ (t : Panel × Looked Job). t.1) last.found)

pub due_comes : DueComes
unfolding still_waiting turn
due_comes store panel there_is due =
    let there : Panel × List (List ℕ) = drained panel.queue panel in
    rw there_is (by there.1 there.0 (due_as panel there.0 (drained_leaves panel.queue panel) ∙ due))
  where
    by : (scripts : List (List ℕ)) (after : Panel) → is_due after.moment after.timers.entries ≡ true → is_some (on_event Settle (on_timer Settle (after_layout Settle store)) after scripts).1 ≡ true
    by [] after due = rw due refl
    by (script ∷ scripts) after due = refl
