-- Jobs are *Settle*, *Dispatch* and *Destroy*, where scripts are run as the interpreter runs them.
use Rattle.std.proofs.Common.{◌≡◌, ℕ, zero, suc, Bool, true, false, cond, List, [], ◌∷◌, Option, Some, None, refl, sym, ap, ◌∙◌}
use Rattle.std.specs.Prelude.{◌==◌, is_none, is_some, nat_le}
use Rattle.std.specs.Option.{option_map_or}
use Rattle.std.proofs.lemmas.Bool.{eq-eqb, false≢true, leb-true}
use Rattle.tcl_vars.specs.Store.{Store}
use Rattle.tcl_control.specs.declared.code.Code.{Code}
use Rattle.tcl_control.specs.declared.code.Code.TheVariants.{Normal, Error, Return, Break, Continue}
use Rattle.tcl_interp.specs.Evaluation.{State, Outcome, Ended, OutOfSteps, and_then, stepped, with_step}
use Rattle.tcl_interp.specs.Scripts.{out_of_global}
use Rattle.tk_after.specs.declared.waiting.WaitingScript.{WaitingScript}
use Rattle.tk_after.specs.Timers.{due_moments, entry_with, first_due, idle_ids, least}
use Rattle.tk_after.proofs.Dues.{first_due-at, least_found}
use Rattle.tk_packer.specs.declared.changes.PlaceChange.{PlaceChange}
use Rattle.tk_sequences.specs.declared.event.Event.{Event}
use Rattle.tk_screen.specs.Layout.{changes_due}
use Rattle.tk_tree.specs.declared.window.Window.{Window}
use Rattle.tk_tree.specs.Own.{IsSound, window_at}
use Rattle.tk_panel.specs.declared.job.Home.{Home}
use Rattle.tk_panel.specs.declared.job.Home.TheVariants.{Settle, Update, IdleTasks, LastLayout}
use Rattle.tk_panel.specs.declared.job.Job.{Job}
use Rattle.tk_panel.specs.declared.job.Rest.{Rest}
use Rattle.tk_panel.specs.declared.job.Rest.TheVariants.{Destroys as DestroysRest, Rounds}
use Rattle.tk_panel.specs.declared.transcript.Stream.TheVariants.{Err as Errors}
use Rattle.tk_panel.specs.Changes.{laid_out}
use Rattle.tk_panel.specs.Choice.{chosen}
use Rattle.tk_panel.specs.Destroy.{Doomed, destroy_chosen, destroys, doomed_by, doomed_next, marked, next_doomed, on_doomed, or_removed, removed}
use Rattle.tk_panel.specs.Next.{next}
use Rattle.tk_panel.specs.Panel.{Panel}
use Rattle.tk_panel.specs.Reports.{with_line}
use Rattle.tk_panel.specs.Settle.{Next, after_layout, at_home, drained, idle_round, is_closed, is_due, on_event, on_round, on_timer, or_later, queue_or_round, still_waiting, tasks_round, turn, with_queue}
use Rattle.tk_panel.specs.Start.{without_event}
use Rattle.tk_panel.proofs.Choices.{chosen_queue}
use Rattle.tk_commands.specs.Course.{bound_ended, destroying, event_job, settling as settling_to, with_end}
use Rattle.tk_commands.proofs.Drained.{LeavesTimers, drained_leaves, drained_out, layout_leaves, then}
use Rattle.tk_app.specs.Behind.{after_bound_behind, bound_behind, destroy_behind, destroyed_behind, dispatch_behind, idle_behind, idle_tasks_behind, item_behind, layout_or_behind, queued_or_behind, round_behind, round_or_behind, settle_item_behind, timer_or_behind, waiting_behind, windows_behind}
use Rattle.tk_app.specs.Dispatch.{Action, global_meaning, with_whole_panel}
use Rattle.tk_app.specs.Items.{waiting_taken, with_layout}
use Rattle.tk_app.specs.Jobs.{goes_on, meaning, on_next, starts, with_panel_but_moment}
use Rattle.tk_app.specs.Outside.{run_in}
use Rattle.tk_app.specs.Seen.{Seen}
use Rattle.tk_app.specs.Settle.{IsSoundIn}
use Rattle.tk_app.specs.SettleJob.{settle_meaning}
use Rattle.tk_app.proofs.Panels.{chosen_screen, laid_closed, next_moment, nothing_again, nothing_to_lay, same_closed}
use Rattle.tk_app.proofs.Nexts.{goes_by_next}

-- ── what is the same behind the same ──

then_same : (o : Outcome Seen) (f g : State Seen → Code → List ℕ → Outcome Seen) → ((state : State Seen) (code : Code) (text : List ℕ) → f state code text ≡ g state code text) → and_then o f ≡ and_then o g
then_same (Ended state code text) f g same = same state code text
then_same (OutOfSteps state) f g same = refl

stepped_same : (steps : ℕ) (state : State Seen) (f g : Action) → ((left : ℕ) → f (record state { steps = left }) ≡ g (record state { steps = left })) → stepped steps state f ≡ stepped steps state g
stepped_same zero state f g same = refl
stepped_same (suc left) state f g same = same left

step_same : (state : State Seen) (f g : Action) → ((left : ℕ) → f (record state { steps = left }) ≡ g (record state { steps = left })) → with_step state f ≡ with_step state g
step_same state f g same = stepped_same state.steps state f g same

shown_same : (panel : Panel) (state : State Seen) → panel.moment ≡ state.shows.panel.moment → with_panel_but_moment panel state ≡ with_whole_panel panel state
shown_same panel state is = ap (λ m. with_whole_panel (record panel { moment = m }) state) (sym is)

-- how a script that is no event's has ended
pub end_shown : (code : Code) (text : List ℕ) (state : State Seen) → with_panel_but_moment (with_end code text state.shows.panel) state ≡ with_whole_panel (with_end code text state.shows.panel) state
end_shown Normal text state = refl
end_shown Error text state = refl
end_shown (Return code) text state = refl
end_shown Break text state = refl
end_shown Continue text state = refl

-- ── the timer that is due ──

pub none_due : (moment : ℕ) (entries : List WaitingScript) → is_due moment entries ≡ false → first_due moment entries ≡ None
none_due moment entries early = by (least (due_moments entries)) refl
  where
    by : (o : Option ℕ) → least (due_moments entries) ≡ o → first_due moment entries ≡ None
    by None is = rw is refl
    by (Some due) is = let late : nat_le due moment ≡ false = ap (λ o. option_map_or (λ due. nat_le due moment) o false) (sym is) ∙ early in rw (is, late) refl

some_due : (moment : ℕ) (entries : List WaitingScript) → is_due moment entries ≡ true → first_due moment entries ≡ None → ⊥
some_due moment entries due none = by (least (due_moments entries)) refl
  where
    by : (o : Option ℕ) → least (due_moments entries) ≡ o → ⊥
    by None is = absurd (cc (rw is at due))
    by (Some first) is =
        let in_time : nat_le first moment ≡ true = ap (λ o. option_map_or (λ due. nat_le due moment) o false) (sym is) ∙ due in
        least_found entries first is (sym (first_due-at moment first entries is (leb-true first moment in_time)) ∙ none)

module _ (room : ℕ) where
  -- what comes next, in a panel of the same moment
  abbrev comes : State Seen → Next → Outcome Seen
  comes state there = on_next room (with_whole_panel there.0 state) there.1

  goes : (job : Job) (state : State Seen) → meaning room job state ≡ comes state (next job state.store state.shows.panel)
  goes job state =
      let there : Next = next job state.store state.shows.panel in
      goes_by_next room job state ∙ ap (λ s. on_next room s there.1) (shown_same there.0 state (next_moment job state.store state.shows.panel))

  -- ── *Dispatch* ──

  bound_end : (scripts : List (List ℕ)) (rest : Rest) (others : Action) → ((state : State Seen) → meaning room (event_job scripts rest) state ≡ others state)
      → ((state : State Seen) → meaning room (event_job [] rest) state ≡ meaning room (without_event rest) state) → (state : State Seen) (code : Code) (text : List ℕ)
      → (let there : Panel × Job = bound_ended code text scripts rest state.shows.panel in meaning room there.1 (with_panel_but_moment there.0 state))
      ≡ after_bound_behind (run_in room) others (meaning room (without_event rest)) state code text
  bound_end scripts rest others same none state Normal text = same state
  bound_end scripts rest others same none state Error text = none (with_whole_panel (with_line Errors text state.shows.panel) state)
  bound_end scripts rest others same none state (Return code) text = same state
  bound_end scripts rest others same none state Break text = none state
  bound_end scripts rest others same none state Continue text = same state

  none_bound : (rest : Rest) (state : State Seen) → meaning room (event_job [] rest) state ≡ meaning room (without_event rest) state
  none_bound rest state = goes (event_job [] rest) state ∙ sym (goes (without_event rest) state)

  bound : (scripts : List (List ℕ)) (rest : Rest) (state : State Seen) → meaning room (event_job scripts rest) state ≡ bound_behind (run_in room) scripts (meaning room (without_event rest)) state
  bound [] rest state = none_bound rest state
  bound (script ∷ scripts) rest state =
      let behind : Action = meaning room (without_event rest) in
      let others : Action = bound_behind (run_in room) scripts behind in
      goes (event_job (script ∷ scripts) rest) state
      ∙ step_same state (starts room (event_job (script ∷ scripts) rest)) (λ begun. and_then (global_meaning (run_in room) script begun) (λ left code text. after_bound_behind (run_in room) others behind left (out_of_global code) text))
      (λ steps. then_same (global_meaning (run_in room) script (record state { steps = steps })) (goes_on room (event_job scripts rest)) (λ left code text. after_bound_behind (run_in room) others behind left (out_of_global code) text)
      (λ left code text. bound_end scripts rest others (bound scripts rest) (none_bound rest) left (out_of_global code) text))

  -- scripts behind which comes the same
  pub bound_same : (scripts : List (List ℕ)) (f g : Action) → ((state : State Seen) → f state ≡ g state) → (state : State Seen) → bound_behind (run_in room) scripts f state ≡ bound_behind (run_in room) scripts g state
  bound_same [] f g same state = same state
  bound_same (script ∷ scripts) f g same state =
      step_same state (λ begun. and_then (global_meaning (run_in room) script begun) (λ left code text. after_bound_behind (run_in room) (bound_behind (run_in room) scripts f) f left (out_of_global code) text))
      (λ begun. and_then (global_meaning (run_in room) script begun) (λ left code text. after_bound_behind (run_in room) (bound_behind (run_in room) scripts g) g left (out_of_global code) text))
      (λ steps. then_same (global_meaning (run_in room) script (record state { steps = steps })) (λ left code text. after_bound_behind (run_in room) (bound_behind (run_in room) scripts f) f left (out_of_global code) text)
      (λ left code text. after_bound_behind (run_in room) (bound_behind (run_in room) scripts g) g left (out_of_global code) text)
      (λ left code text. by (bound_same scripts f g same) left (out_of_global code) text))
    where
      by : ((state : State Seen) → bound_behind (run_in room) scripts f state ≡ bound_behind (run_in room) scripts g state) → (left : State Seen) (code : Code) (text : List ℕ) → after_bound_behind (run_in room) (bound_behind (run_in room) scripts f) f left code text ≡ after_bound_behind (run_in room) (bound_behind (run_in room) scripts g) g left code text
      by others left Normal text = others left
      by others left Error text = same (with_whole_panel (with_line Errors text left.shows.panel) left)
      by others left (Return code) text = others left
      by others left Break text = same left
      by others left Continue text = others left

  -- the scripts that were chosen, where there are some, are what comes next
  event_comes : (panel : Panel) (script : List ℕ) (scripts : List (List ℕ)) (rest : Rest) (state : State Seen)
      → comes state (panel, Some (record { event = Some (script ∷ scripts); rest = rest })) ≡ bound_behind (run_in room) (script ∷ scripts) (meaning room (without_event rest)) (with_whole_panel panel state)
  event_comes panel script scripts rest state = sym (goes (event_job (script ∷ scripts) rest) (with_whole_panel panel state)) ∙ bound (script ∷ scripts) rest (with_whole_panel panel state)

  -- ── *Destroy* ──

  -- what stands behind the windows of a path
  abbrev Later : List (List ℕ) → Type 0
  Later paths = (state : State Seen) → comes state (destroys paths state.shows.panel) ≡ destroy_behind (run_in room) paths state

  chosen_dispatched : (number : ℕ) (window : Option Window) (behind : Action) (state : State Seen) → window_at number state.shows.panel.windowing.tree ≡ window
      → (let there : Panel × List (List ℕ) = destroy_chosen number state.shows.panel in bound_behind (run_in room) there.1 behind (with_whole_panel there.0 state)) ≡ destroyed_behind (run_in room) window behind state
  chosen_dispatched number None behind state is = rw is refl
  chosen_dispatched number (Some window) behind state is = rw is refl

  windows_go : (paths : List (List ℕ)) → Later paths → (numbers : List ℕ) (state : State Seen)
      → comes state (doomed_next paths (destroys paths) numbers state.shows.panel) ≡ windows_behind (run_in room) numbers (destroy_behind (run_in room) paths) state
  unfolding next_doomed
  windows_go paths later [] state = later state
  windows_go paths later (number ∷ numbers) state =
      let there : Panel × List (List ℕ) = destroy_chosen number state.shows.panel in
      by there.1 there.0 (windows_go paths later numbers) ∙ chosen_dispatched number (window_at number state.shows.panel.windowing.tree) gone state refl
    where
      gone : Action
      gone left = windows_behind (run_in room) numbers (destroy_behind (run_in room) paths) (with_whole_panel (removed number left.shows.panel) left)

      by : (scripts : List (List ℕ)) (after : Panel) → ((state : State Seen) → comes state (doomed_next paths (destroys paths) numbers state.shows.panel) ≡ windows_behind (run_in room) numbers (destroy_behind (run_in room) paths) state)
          → (let doomed : Doomed = or_removed number numbers (next_doomed numbers) after scripts in comes state (on_doomed paths (destroys paths) doomed.panel doomed.rest doomed.found))
          ≡ bound_behind (run_in room) scripts gone (with_whole_panel after state)
      by [] after rest = rest (with_whole_panel (removed number after) state)
      by (script ∷ scripts) after rest =
          event_comes after script scripts (DestroysRest (Some number) numbers paths) state
          ∙ bound_same (script ∷ scripts) (meaning room (without_event (DestroysRest (Some number) numbers paths))) gone
          (λ left. goes (without_event (DestroysRest (Some number) numbers paths)) left ∙ rest (with_whole_panel (removed number left.shows.panel) left)) (with_whole_panel after state)

  destroyed : (paths : List (List ℕ)) → Later paths
  unfolding destroys
  destroyed [] state = refl
  destroyed (path ∷ paths) state =
      let numbers : List ℕ = doomed_by path state.shows.panel in windows_go paths (destroyed paths) numbers (with_whole_panel (marked numbers state.shows.panel) state)

  -- ── a timer, or an idle script ──

  entry_starts : (id : ℕ) (script : List ℕ) (rest : Rest) (behind : Action) → ((state : State Seen) → meaning room (without_event rest) state ≡ behind state) → (state : State Seen)
      → and_then (global_meaning (run_in room) script (with_panel_but_moment (waiting_taken id state.shows.panel) state)) (goes_on room (without_event rest)) ≡ waiting_behind (run_in room) id script behind state
  entry_starts id script rest behind same state =
      then_same (global_meaning (run_in room) script (with_whole_panel (waiting_taken id state.shows.panel) state)) (goes_on room (without_event rest))
      (λ left code text. behind (with_whole_panel (with_end (out_of_global code) text left.shows.panel) left))
      (λ left code text. ap (meaning room (without_event rest)) (end_shown (out_of_global code) text left) ∙ same (with_whole_panel (with_end (out_of_global code) text left.shows.panel) left))

  -- ── a round ──

  -- an idle script that is among those that wait is there
  pub idle_there : (id : ℕ) (ids : List ℕ) (entries : List WaitingScript) → idle_ids entries ≡ id ∷ ids → is_some (entry_with id entries) ≡ true
  idle_there id ids [] is = absurd (cc)
  idle_there id ids (entry ∷ entries) is = by (entry.id == id) refl (is_none entry.due) refl (λ rest. idle_there id ids entries rest)
    where
      by : (b : Bool) → (entry.id == id) ≡ b → (c : Bool) → is_none entry.due ≡ c → (idle_ids entries ≡ id ∷ ids → is_some (entry_with id entries) ≡ true)
          → is_some (entry_with id (entry ∷ entries)) ≡ true
      by true same c idle later = rw same refl
      by false differs true idle later =
          let first : entry.id ∷ idle_ids entries ≡ id ∷ ids = rw idle at is in let here : entry.id ≡ id = cc in absurd (false≢true (sym differs ∙ eq-eqb entry.id id here))
      by false differs false idle later = rw differs (later (rw idle at is))

  module _ (home : Home) where
    abbrev again : Action
    again = meaning room (without_event (Rounds [] home))

    round : (ids : List ℕ) (state : State Seen) → meaning room (without_event (Rounds ids home)) state ≡ round_behind (run_in room) ids again state
    unfolding still_waiting
    round [] state = refl
    round (id ∷ ids) state = by (entry_with id state.shows.panel.timers.entries) refl (round ids)
      where
        by : (entry : Option WaitingScript) → entry_with id state.shows.panel.timers.entries ≡ entry
            → ((state : State Seen) → meaning room (without_event (Rounds ids home)) state ≡ round_behind (run_in room) ids again state)
            → meaning room (without_event (Rounds (id ∷ ids) home)) state ≡ idle_behind (run_in room) id entry (round_behind (run_in room) ids again) state
        by None is others = goes (without_event (Rounds (id ∷ ids) home)) state ∙ rw is refl ∙ sym (goes (without_event (Rounds ids home)) state) ∙ others state
        by (Some entry) is others =
            goes (without_event (Rounds (id ∷ ids) home)) state
            ∙ rw is refl
            ∙ step_same state (starts room (without_event (Rounds (id ∷ ids) home))) (waiting_behind (run_in room) id entry.script (round_behind (run_in room) ids again))
            (λ left. rw is (entry_starts id entry.script (Rounds ids home) (round_behind (run_in room) ids again) others (record state { steps = left })))

    idle_item : (ids : List ℕ) (state : State Seen) → idle_ids state.shows.panel.timers.entries ≡ ids → comes state (on_round home ids state.shows.panel) ≡ round_or_behind (run_in room) ids again state
    unfolding still_waiting
    idle_item [] state is = refl
    idle_item (id ∷ ids) state is =
        let here : meaning room (without_event (Rounds (id ∷ ids) home)) state ≡ comes state (on_round home (id ∷ ids) state.shows.panel) =
        goes (without_event (Rounds (id ∷ ids) home)) state ∙ rw (idle_there id ids state.shows.panel.timers.entries is) refl in
        sym here ∙ round (id ∷ ids) state

    -- with no event that waits, a round is next
    round_alone : (panel : Panel) → panel.queue ≡ [] → queue_or_round home panel ≡ idle_round home panel
    unfolding queue_or_round drained
    round_alone panel none = ap (λ queue. (let there : Panel × List (List ℕ) = drained queue panel in on_event home (idle_round home) there.0 there.1)) none

  -- ── *Settle* ──

  -- a home to which a round goes on as long as this holds of the panel, which hangs on whether there is a main window
  module _ (home : Home) (Open : Panel → Type 0) (takes_turns : (store : Store) (panel : Panel) → Open panel → at_home home store panel ≡ turn home store panel)
      (stays : (old new : Panel) → is_closed new ≡ is_closed old → Open old → Open new) where
    abbrev otherwise : Store → Panel → Next
    otherwise store = on_timer home (after_layout home store)

    turned : (state : State Seen) → Open state.shows.panel → again home state ≡ comes state (turn home state.store state.shows.panel)
    unfolding still_waiting
    turned state held = goes (without_event (Rounds [] home)) state ∙ ap (comes state) (takes_turns state.store state.shows.panel held)

    first_event : (event : Event) (events : List Event) (state : State Seen) → state.shows.panel.queue ≡ event ∷ events → Open state.shows.panel
        → comes state (turn home state.store state.shows.panel) ≡ dispatch_behind (run_in room) event (again home) (with_whole_panel (with_queue events state.shows.panel) state)
    unfolding turn drained
    first_event event events state is held =
        let panel : Panel = state.shows.panel in
        let there : Panel × List (List ℕ) = chosen event (with_queue events panel) in
        ap (λ queue. (let found : Panel × List (List ℕ) = drained queue panel in comes state (on_event home (otherwise state.store) found.0 found.1))) is
        ∙ by there.1 there.0 (chosen_queue event (with_queue events panel)) (stays panel there.0 (same_closed panel there.0 (chosen_screen event (with_queue events panel))) held)
      where
        by : (scripts : List (List ℕ)) (after : Panel) → after.queue ≡ events → Open after
            → (let found : Panel × List (List ℕ) = or_later (drained events) after scripts in comes state (on_event home (otherwise state.store) found.0 found.1))
            ≡ bound_behind (run_in room) scripts (again home) (with_whole_panel after state)
        by [] after left still =
            ap (λ queue. (let found : Panel × List (List ℕ) = drained queue after in comes state (on_event home (otherwise state.store) found.0 found.1))) (sym left)
            ∙ sym (turned (with_whole_panel after state) still)
        by (script ∷ scripts) after left still = event_comes after script scripts (Rounds [] home) state

    due_as : (old new : Panel) → LeavesTimers old new → is_due new.moment new.timers.entries ≡ is_due old.moment old.timers.entries
    due_as old new left = rw (left.moment, left.timers) refl

    layout_item : (changes : List PlaceChange) (state : State Seen) → changes_due state.shows.panel.windowing state.store ≡ changes → state.shows.panel.queue ≡ []
        → is_due state.shows.panel.moment state.shows.panel.timers.entries ≡ false → IsSound state.shows.panel.windowing.tree → Open state.shows.panel
        → comes state (after_layout home state.store state.shows.panel) ≡ layout_or_behind (run_in room) changes (again home) state
    unfolding turn queue_or_round
    layout_item [] state is none early sound held =
        let panel : Panel = state.shows.panel in
        ap (λ p. comes state (queue_or_round home p)) (nothing_to_lay state.store panel is)
        ∙ ap (comes state) (round_alone home panel none)
        ∙ idle_item home (idle_ids panel.timers.entries) state refl
    layout_item (change ∷ changes) state is none early sound held =
        let panel : Panel = state.shows.panel in
        let l : Panel = laid_out state.store panel in
        let there : Panel × List (List ℕ) = drained l.queue l in
        by there.1 there.0 (drained_out l.queue l refl) (due_as panel there.0 (then (layout_leaves state.store panel) (drained_leaves l.queue l)) ∙ early) (nothing_again state.store panel sound)
        ∙ sym (turned (with_whole_panel l state) (stays panel l (laid_closed state.store panel) held))
      where
        by : (scripts : List (List ℕ)) (after : Panel) → (scripts ≡ [] → after.queue ≡ []) → is_due after.moment after.timers.entries ≡ false → changes_due after.windowing state.store ≡ []
            → comes state (on_event home (idle_round home) after scripts) ≡ comes state (on_event home (otherwise state.store) after scripts)
        by [] after out early nothing =
            ap (comes state) (sym (rw early (ap (queue_or_round home) (nothing_to_lay state.store after nothing) ∙ round_alone home after (out refl))))
        by (script ∷ scripts) after out early nothing = refl

    timer_item : (first : Option WaitingScript) (state : State Seen) → first_due state.shows.panel.moment state.shows.panel.timers.entries ≡ first → state.shows.panel.queue ≡ []
        → IsSound state.shows.panel.windowing.tree → Open state.shows.panel
        → comes state (otherwise state.store state.shows.panel) ≡ timer_or_behind (run_in room) first (again home) state
    timer_item first state is none sound held = by (is_due state.shows.panel.moment state.shows.panel.timers.entries) refl first is
      where
        panel : Panel
        panel = state.shows.panel

        by : (due : Bool) → is_due state.shows.panel.moment state.shows.panel.timers.entries ≡ due → (first : Option WaitingScript) → first_due state.shows.panel.moment state.shows.panel.timers.entries ≡ first
            → comes state (cond due (state.shows.panel, Some (without_event (Rounds [] home))) (after_layout home state.store state.shows.panel)) ≡ timer_or_behind (run_in room) first (again home) state
        by true due None is = absurd (some_due state.shows.panel.moment state.shows.panel.timers.entries due is)
        by true due (Some entry) is =
            step_same state (starts room (without_event (Rounds [] home))) (waiting_behind (run_in room) entry.id entry.script (again home))
            (λ left. rw is (entry_starts entry.id entry.script (Rounds [] home) (again home) (λ state. refl) (record state { steps = left })))
        by false due None is = layout_item (changes_due state.shows.panel.windowing state.store) state refl none due sound held
        by false due (Some entry) is = let wrong : None ≡ Some entry = sym (none_due state.shows.panel.moment state.shows.panel.timers.entries due) ∙ is in absurd (cc)

    items : (queue : List Event) (state : State Seen) → state.shows.panel.queue ≡ queue → IsSound state.shows.panel.windowing.tree → Open state.shows.panel
        → comes state (turn home state.store state.shows.panel) ≡ queued_or_behind (run_in room) queue (again home) state
    unfolding turn drained
    items [] state none sound held =
        ap (λ queue. (let found : Panel × List (List ℕ) = drained queue state.shows.panel in comes state (on_event home (otherwise state.store) found.0 found.1))) none
        ∙ timer_item (first_due state.shows.panel.moment state.shows.panel.timers.entries) state refl none sound held
    items (event ∷ events) state is sound held = first_event event events state is held

    item : (state : State Seen) → IsSound state.shows.panel.windowing.tree → Open state.shows.panel → again home state ≡ item_behind (run_in room) (again home) state
    item state sound held = turned state held ∙ items state.shows.panel.queue state refl sound held

  -- ── `update` ──

  abbrev AnyPanel : Panel → Type 0
  AnyPanel panel = Unit {0}

  updated : (state : State Seen) → IsSound state.shows.panel.windowing.tree → again Update state ≡ item_behind (run_in room) (again Update) state
  updated state sound = item Update AnyPanel (λ store panel held. refl) (λ old new same held. tt) state sound tt

  last_layout : (state : State Seen) → again LastLayout state ≡ with_layout state
  unfolding still_waiting
  last_layout state = goes (without_event (Rounds [] LastLayout)) state

  round_same : (ids : List ℕ) (f g : Action) → ((state : State Seen) → f state ≡ g state) → (state : State Seen) → round_behind (run_in room) ids f state ≡ round_behind (run_in room) ids g state
  round_same [] f g same state = same state
  round_same (id ∷ ids) f g same state = by (entry_with id state.shows.panel.timers.entries) (round_same ids f g same)
    where
      by : (entry : Option WaitingScript) → ((state : State Seen) → round_behind (run_in room) ids f state ≡ round_behind (run_in room) ids g state)
          → idle_behind (run_in room) id entry (round_behind (run_in room) ids f) state ≡ idle_behind (run_in room) id entry (round_behind (run_in room) ids g) state
      by None rest = rest state
      by (Some entry) rest =
          step_same state (waiting_behind (run_in room) id entry.script (round_behind (run_in room) ids f)) (waiting_behind (run_in room) id entry.script (round_behind (run_in room) ids g))
          (λ steps. then_same (global_meaning (run_in room) entry.script (with_whole_panel (waiting_taken id state.shows.panel) (record state { steps = steps })))
          (λ left code text. round_behind (run_in room) ids f (with_whole_panel (with_end (out_of_global code) text left.shows.panel) left))
          (λ left code text. round_behind (run_in room) ids g (with_whole_panel (with_end (out_of_global code) text left.shows.panel) left))
          (λ left code text. rest (with_whole_panel (with_end (out_of_global code) text left.shows.panel) left)))

  updated_idle : (state : State Seen) → again IdleTasks state ≡ (let first : Panel = laid_out state.store state.shows.panel in round_behind (run_in room) (idle_ids first.timers.entries) with_layout (with_whole_panel first state))
  unfolding still_waiting
  updated_idle state =
      let first : Panel = laid_out state.store state.shows.panel in
      goes (without_event (Rounds [] IdleTasks)) state ∙ by (idle_ids first.timers.entries) (with_whole_panel first state) refl
    where
      by : (ids : List ℕ) (state : State Seen) → idle_ids state.shows.panel.timers.entries ≡ ids → comes state (tasks_round state.store ids state.shows.panel) ≡ round_behind (run_in room) ids with_layout state
      by [] state is = refl
      by (id ∷ ids) state is = idle_item LastLayout (id ∷ ids) state is ∙ round_same (id ∷ ids) (again LastLayout) with_layout last_layout state

-- ── as the interpreter runs scripts ──

pub dispatch_goes : (room : ℕ) (event : Event) (rest : Rest) (state : State Seen)
    → (let there : Panel × List (List ℕ) = chosen event state.shows.panel in meaning room (event_job there.1 rest) (with_whole_panel there.0 state))
    ≡ dispatch_behind (run_in room) event (meaning room (without_event rest)) state
dispatch_goes room event rest state = (let there : Panel × List (List ℕ) = chosen event state.shows.panel in bound room there.1 rest (with_whole_panel there.0 state))

pub destroy_goes : (room : ℕ) (paths : List (List ℕ)) (state : State Seen) → meaning room (destroying paths) state ≡ destroy_behind (run_in room) paths state
unfolding next_doomed
destroy_goes room paths state = goes room (without_event (DestroysRest None [] paths)) state ∙ destroyed room paths state

pub update_goes : (room : ℕ) (state : State Seen) → IsSoundIn state → meaning room (settling_to Update) state ≡ item_behind (run_in room) (meaning room (settling_to Update)) state
update_goes room state sound = updated room state sound

pub idle_tasks_go : (room : ℕ) (state : State Seen) → meaning room (settling_to IdleTasks) state ≡ idle_tasks_behind (run_in room) state
idle_tasks_go room state = updated_idle room state

closed_next : (state : State Seen) → is_closed state.shows.panel ≡ true → next (without_event (Rounds [] Settle)) state.store state.shows.panel ≡ (state.shows.panel, None)
unfolding still_waiting
closed_next state closed = rw closed refl

pub settle_goes : (state : State Seen) → IsSoundIn state → settle_meaning state ≡ settle_item_behind (run_in 200) settle_meaning state
unfolding settle_meaning
settle_goes state sound = by (is_closed state.shows.panel) refl
  where
    by : (closed : Bool) → is_closed state.shows.panel ≡ closed → again 200 Settle state ≡ cond closed (Ended state Normal []) (item_behind (run_in 200) (again 200 Settle) state)
    by true closed = goes 200 (without_event (Rounds [] Settle)) state ∙ ap (comes 200 state) (closed_next state closed)
    by false held = item 200 Settle (λ panel. is_closed panel ≡ false) (λ store panel held. rw held refl) (λ old new same held. same ∙ held) state sound held
