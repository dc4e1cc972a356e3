-- Jobs that settle stay such jobs, and where one of them has ended nothing is left to do.
use Rattle.std.proofs.Common.{◌≡◌, ℕ, Bool, true, false, cond, List, [], ◌∷◌, refl, sym, ap, ◌∙◌}
use Rattle.std.specs.Prelude.{Option, Some, None}
use Rattle.tcl_vars.specs.Store.{Store}
use Rattle.tcl_control.specs.declared.code.Code.{Code}
use Rattle.tcl_interp.specs.Evaluation.{State, Ended}
use Rattle.tcl_interp.specs.declared.job.Looked.{Looked}
use Rattle.tcl_interp.specs.declared.job.Looked.TheVariants.{Wants, Ends}
use Rattle.tcl_interp.specs.JobLaws.{Keeps, runs}
use Rattle.tcl_interp.specs.Meaning.{looked}
use Rattle.tcl_interp.proofs.Unrolled as jobs
use Rattle.tk_after.specs.Timers.{idle_ids}
use Rattle.tk_panel.specs.declared.job.Home.TheVariants.{Settle}
use Rattle.tk_panel.specs.declared.job.Job.{Job}
use Rattle.tk_panel.specs.declared.job.Rest.TheVariants.{Rounds}
use Rattle.tk_panel.specs.Changes.{laid_out}
use Rattle.tk_panel.specs.Next.{next}
use Rattle.tk_panel.specs.Panel.{Panel}
use Rattle.tk_panel.specs.Settle.{Next, after_layout, after_round, at_home, drained, idle_round, is_closed, is_due, on_event, on_round, on_timer, queue_or_round, turn}
use Rattle.tk_commands.specs.Calls.{calls as panel_calls}
use Rattle.tk_commands.specs.Course.{course as panel_course, look, looked_of}
use Rattle.tk_commands.specs.Laws.{meaning as panel_meaning}
use Rattle.tk_commands.specs.Rests.{has_settled, settles_last}
use Rattle.tk_commands.proofs.Drained.{drained_leaves, layout_leaves}
use Rattle.tk_commands.proofs.Settled.{event_starts, next_so, rests, script_ends}
use Rattle.tk_app.specs.Outside.{course}

-- ── what comes next of a job that settles ──

-- the moment stays, and what comes next settles, too
abbrev OnKind : Option Job → Type 0
OnKind None = Unit {0}
OnKind (Some job) = settles_last job ≡ true

abbrev Comes : Panel → Next → Type 0
Comes panel there = (there.0.moment ≡ panel.moment) × OnKind there.1

after : (first panel : Panel) (there : Next) → panel.moment ≡ first.moment → Comes panel there → Comes first there
after first panel there same comes = (comes.0 ∙ same, comes.1)

by_round : (ids : List ℕ) (panel : Panel) → Comes panel (on_round Settle ids panel)
by_round [] panel = (refl, tt)
by_round (id ∷ ids) panel = (refl, refl)

by_event : (otherwise : Panel → Next) → ((panel : Panel) → Comes panel (otherwise panel)) → (panel : Panel) (scripts : List (List ℕ)) → Comes panel (on_event Settle otherwise panel scripts)
by_event otherwise later panel [] = later panel
by_event otherwise later panel (script ∷ scripts) = (refl, refl)

by_layout : (store : Store) (panel : Panel) → Comes panel (after_layout Settle store panel)
unfolding queue_or_round
by_layout store panel =
    let laid : Panel = laid_out store panel in
    let there : Panel × List (List ℕ) = drained laid.queue laid in
    after panel there.0 (on_event Settle (idle_round Settle) there.0 there.1) ((drained_leaves laid.queue laid).moment ∙ (layout_leaves store panel).moment)
    (by_event (idle_round Settle) (λ panel. by_round (idle_ids panel.timers.entries) panel) there.0 there.1)

by_timer : (store : Store) (panel : Panel) → Comes panel (on_timer Settle (after_layout Settle store) panel)
by_timer store panel = by (is_due panel.moment panel.timers.entries)
  where
    by : (b : Bool) → Comes panel (cond b (panel, Some (record { event = None; rest = Rounds [] Settle })) (after_layout Settle store panel))
    by true = (refl, refl)
    by false = by_layout store panel

by_turn : (store : Store) (panel : Panel) → Comes panel (turn Settle store panel)
unfolding turn
by_turn store panel =
    let there : Panel × List (List ℕ) = drained panel.queue panel in
    after panel there.0 (on_event Settle (on_timer Settle (after_layout Settle store)) there.0 there.1) (drained_leaves panel.queue panel).moment
    (by_event (on_timer Settle (after_layout Settle store)) (by_timer store) there.0 there.1)

by_home : (store : Store) (panel : Panel) → Comes panel (at_home Settle store panel)
by_home store panel = by (is_closed panel)
  where
    by : (b : Bool) → Comes panel (cond b (panel, None) (turn Settle store panel))
    by true = (refl, tt)
    by false = by_turn store panel

by_left : (store : Store) (left : List ℕ) (panel : Panel) → Comes panel (after_round Settle store left panel)
by_left store [] panel = by_home store panel
by_left store (id ∷ ids) panel = (refl, refl)

by_job : (job : Job) (store : Store) (panel : Panel) → settles_last job ≡ true → Comes panel (next job store panel)
by_job job store panel is = next_so (λ store panel there. Comes panel there) by_left (λ store panel job is. (refl, is)) job store panel is

wanted : (found : Option Job) (job : Job) → OnKind found → looked_of found ≡ Wants job → settles_last job ≡ true
wanted None job on is = cc
wanted (Some next) job on is = let same : next ≡ job = cc in ap settles_last (sym same) ∙ on

pub keeps : Keeps course settles_last
keeps = record {
  looks = λ seen store job next_job is found. wanted (next job store seen.panel).1 next_job (by_job job store seen.panel is).1 found;
  starts = λ seen store job is. event_starts job.event job.rest seen.panel is;
  ends = λ code text seen job is. script_ends job.event job.rest code text seen.panel is;
}

-- ── where it has ended ──

-- what is looked for leaves the moment
pub look_stays : (job : Job) (store : Store) (panel : Panel) → settles_last job ≡ true → (look panel store job).0.moment ≡ panel.moment
look_stays job store panel is = (by_job job store panel is).0

-- the last look of a panel left nothing to do
pub looked_last : (job : Job) (store : Store) (before after : Panel) (code : Code) (text : List ℕ) → settles_last job ≡ true → look before store job ≡ (after, Ends code text) → has_settled after ≡ true
looked_last job store before after code text is found =
    let state : State Panel = record { shows = before; store = store; context = record { levels = []; commands = [] }; steps = 0 } in
    let there : Panel × Looked Job = look before store job in
    rests 200 job state (record state { shows = after }) code text is
    (jobs.unrolls panel_course panel_calls 200 job state
    ∙ ap (λ (l : Looked Job). looked panel_course (runs panel_course panel_calls 200) (panel_meaning 200) l (record state { shows = there.0 })) (ap (λ (p : Panel × Looked Job). p.1) found)
    ∙ ap (λ panel. Ended (record state { shows = panel }) code text) (ap (λ (p : Panel × Looked Job). p.0) found))
