-- Only one function meets the equation of *Settle*, and only one that of `update`, by whichever of two ways scripts are run that are the same where windows
-- are sound: each item takes a step, or an event out of the queue, or is a layout, behind which nothing is to be laid out.
use Rattle.std.proofs.Common.{◌≡◌, ℕ, zero, suc, ◌≤◌, Bool, true, false, cond, List, [], ◌∷◌, Option, Some, None, refl, sym, ap, ◌∙◌, subst, arith}
use Rattle.std.specs.Prelude.{is_some}
use Rattle.tcl_control.specs.declared.code.Code.{Code}
use Rattle.tcl_control.specs.declared.code.Code.TheVariants.{Normal, Error, Return, Break, Continue}
use Rattle.tcl_interp.specs.Evaluation.{State, Outcome, Ended, OutOfSteps, and_then, stepped}
use Rattle.tcl_interp.specs.Scripts.{out_of_global}
use Rattle.tcl_interp.specs.ScriptLaws.{AgreesRun}
use Rattle.tcl_interp.proofs.Agreeing.{same_run_at}
use Rattle.tcl_interp.proofs.Bounds.{Within, within_run_at, within_script}
use Rattle.tk_after.specs.declared.waiting.WaitingScript.{WaitingScript}
use Rattle.tk_after.specs.Timers.{entry_with, first_due, idle_ids}
use Rattle.tk_packer.specs.declared.changes.PlaceChange.{PlaceChange}
use Rattle.tk_sequences.specs.declared.event.Event.{Event}
use Rattle.tk_screen.specs.Layout.{changes_due}
use Rattle.tk_screen.specs.Own.{Windowing}
use Rattle.tk_tree.specs.Own.{IsSound}
use Rattle.tk_panel.specs.declared.transcript.Stream.TheVariants.{Err as Errors}
use Rattle.tk_panel.specs.Changes.{laid_out}
use Rattle.tk_panel.specs.Choice.{chosen}
use Rattle.tk_panel.specs.Panel.{Panel}
use Rattle.tk_panel.specs.Reports.{with_line}
use Rattle.tk_panel.specs.Settle.{with_queue}
use Rattle.tk_panel.proofs.Choices.{chosen_queue}
use Rattle.tk_commands.specs.Course.{with_end}
use Rattle.tk_app.specs.Behind.{after_bound_behind, bound_behind, idle_behind, item_behind, layout_or_behind, queued_or_behind, round_behind, round_or_behind, timer_or_behind, waiting_behind}
use Rattle.tk_app.specs.Dispatch.{Action, RunsScripts, global_meaning, with_whole_panel}
use Rattle.tk_app.specs.Items.{waiting_taken}
use Rattle.tk_app.specs.Outside.{outside, run_in}
use Rattle.tk_app.specs.Seen.{Seen}
use Rattle.tk_app.specs.Settle.{IsSoundIn}
use Rattle.tk_app.specs.Sound.{EndsSound}
use Rattle.tk_app.proofs.Equations.{idle_there}
use Rattle.tk_app.proofs.Panels.{chosen_screen, laid_screen}
use Rattle.tk_app.proofs.Sound.{IsSoundShown, StaysSound, run_keeps, scripts_sound, sound_on_scene}
use Rattle.tk_app.proofs.Trees.{OnTrees, end_screen, laid}
use Rattle.tk_screen.proofs.Twice.{laid_twice}

-- the same where windows are sound and at most so many steps are left
abbrev pub Agree : ℕ → Action → Action → Type 0
Agree n f g = (state : State Seen) → IsSoundIn state → state.steps ≤ n → f state ≡ g state

-- the same once a step is taken
abbrev Less : Action → Action → State Seen → Type 0
Less f g state = (left : ℕ) → state.steps ≡ suc left → Agree left f g

step_then : (steps : ℕ) (state : State Seen) (f g : Action) → ((left : ℕ) → steps ≡ suc left → f (record state { steps = left }) ≡ g (record state { steps = left })) → stepped steps state f ≡ stepped steps state g
step_then zero state f g same = refl
step_then (suc left) state f g same = same left refl

pub sound_screen : (old new : Panel) → new.windowing ≡ old.windowing → IsSound old.windowing.tree → IsSound new.windowing.tree
sound_screen old new same sound = subst (λ (windowing : Windowing). IsSound windowing.tree) (sym same) sound

-- scripts as the interpreter runs them, and another way to run them that is the same where windows are sound
module _ (room : ℕ) (run : RunsScripts) (same_run : AgreesRun IsSoundShown (run_in room) run) where
  -- what comes behind a script at global level, which leaves windows sound and no more steps
  ran_same : (script : List ℕ) (state : State Seen) (f g : State Seen → Code → List ℕ → Outcome Seen) → IsSoundIn state
      → ((left : State Seen) (code : Code) (text : List ℕ) → IsSoundIn left → left.steps ≤ state.steps → f left code text ≡ g left code text)
      → and_then (global_meaning (run_in room) script state) f ≡ and_then (global_meaning run script state) g
  ran_same script state f g sound same =
      by (global_meaning (run_in room) script state) (scripts_sound room state sound script)
      (within_run_at (run_in room) (within_script outside room) state.steps 1 script state (omega arith))
      ∙ ap (λ (o : Outcome Seen). and_then o g) (same_run_at IsSoundShown (run_in room) run same_run (run_keeps room) 1 script state sound)
    where
      by : (o : Outcome Seen) → EndsSound o → Within state.steps o → and_then o f ≡ and_then o g
      by (Ended left code text) kept within = same left code text kept within
      by (OutOfSteps left) kept within = refl

  bound_ends : (n : ℕ) (others more f g : Action) → Agree n others more → Agree n f g → (left : State Seen) (code : Code) (text : List ℕ) → IsSoundIn left → left.steps ≤ n
      → after_bound_behind (run_in room) others f left code text ≡ after_bound_behind run more g left code text
  bound_ends n others more f g rest same left Normal text sound few = rest left sound few
  bound_ends n others more f g rest same left Error text sound few = same (with_whole_panel (with_line Errors text left.shows.panel) left) sound few
  bound_ends n others more f g rest same left (Return code) text sound few = rest left sound few
  bound_ends n others more f g rest same left Break text sound few = same left sound few
  bound_ends n others more f g rest same left Continue text sound few = rest left sound few

  -- the first of the scripts takes a step, and the others are run with what it leaves
  bound_after : (f g : Action) (script : List ℕ) (scripts : List (List ℕ)) (state : State Seen)
      → ((steps : ℕ) → state.steps ≡ suc steps → Agree steps f g × Agree steps (bound_behind (run_in room) scripts f) (bound_behind run scripts g))
      → IsSoundIn state → bound_behind (run_in room) (script ∷ scripts) f state ≡ bound_behind run (script ∷ scripts) g state
  bound_after f g script scripts state same sound =
      step_then state.steps state
      (λ begun. and_then (global_meaning (run_in room) script begun) (λ left code text. after_bound_behind (run_in room) (bound_behind (run_in room) scripts f) f left (out_of_global code) text))
      (λ begun. and_then (global_meaning run script begun) (λ left code text. after_bound_behind run (bound_behind run scripts g) g left (out_of_global code) text))
      (λ steps is. ran_same script (record state { steps = steps })
      (λ left code text. after_bound_behind (run_in room) (bound_behind (run_in room) scripts f) f left (out_of_global code) text)
      (λ left code text. after_bound_behind run (bound_behind run scripts g) g left (out_of_global code) text) sound
      (λ left code text kept fewer.
      bound_ends steps (bound_behind (run_in room) scripts f) (bound_behind run scripts g) f g (same steps is).1 (same steps is).0 left (out_of_global code) text kept fewer))

  pub bound_same : (n : ℕ) (f g : Action) → Agree n f g → (scripts : List (List ℕ)) → Agree n (bound_behind (run_in room) scripts f) (bound_behind run scripts g)
  bound_same n f g same [] state sound few = same state sound few
  bound_same n f g same (script ∷ scripts) state sound few =
      bound_after f g script scripts state
      (λ steps is. (λ left sound fewer. same left sound (omega (arith, fewer, is, few)), λ left sound fewer. bound_same n f g same scripts left sound (omega (arith, fewer, is, few)))) sound

  entry_same : (n : ℕ) (f g : Action) → Agree n f g → (id : ℕ) (script : List ℕ) → Agree n (waiting_behind (run_in room) id script f) (waiting_behind run id script g)
  entry_same n f g same id script state sound few =
      ran_same script (with_whole_panel (waiting_taken id state.shows.panel) state)
      (λ left code text. f (with_whole_panel (with_end (out_of_global code) text left.shows.panel) left))
      (λ left code text. g (with_whole_panel (with_end (out_of_global code) text left.shows.panel) left)) sound
      (λ left code text kept fewer.
      same (with_whole_panel (with_end (out_of_global code) text left.shows.panel) left)
      (sound_screen left.shows.panel (with_end (out_of_global code) text left.shows.panel) (end_screen (out_of_global code) text left.shows.panel) kept) (omega (arith, fewer, few)))

  -- an entry, once its step is taken
  entry_step : (n : ℕ) (f g : Action) → Agree n f g → (id : ℕ) (script : List ℕ) (state : State Seen) → IsSoundIn state → state.steps ≤ suc n
      → stepped state.steps state (waiting_behind (run_in room) id script f) ≡ stepped state.steps state (waiting_behind run id script g)
  entry_step n f g same id script state sound few =
      step_then state.steps state (waiting_behind (run_in room) id script f) (waiting_behind run id script g)
      (λ steps is. entry_same n f g same id script (record state { steps = steps }) sound (omega (arith, is, few)))

  pub round_same : (n : ℕ) (f g : Action) → Agree n f g → (ids : List ℕ) → Agree n (round_behind (run_in room) ids f) (round_behind run ids g)
  round_same n f g same [] state sound few = same state sound few
  round_same n f g same (id ∷ ids) state sound few = by (entry_with id state.shows.panel.timers.entries) (round_same n f g same ids)
    where
      by : (entry : Option WaitingScript) → Agree n (round_behind (run_in room) ids f) (round_behind run ids g)
          → idle_behind (run_in room) id entry (round_behind (run_in room) ids f) state ≡ idle_behind run id entry (round_behind run ids g) state
      by None rest = rest state sound few
      by (Some entry) rest = entry_step n (round_behind (run_in room) ids f) (round_behind run ids g) rest id entry.script state sound (omega (arith, few))

  -- two functions that meet the same equation: what is to be done first, where this test holds nothing
  module _ (is_over : State Seen → Bool) (f g : Action)
      (f_meets : (state : State Seen) → IsSoundIn state → f state ≡ cond (is_over state) (Ended state Normal []) (item_behind (run_in room) f state))
      (g_meets : (state : State Seen) → IsSoundIn state → g state ≡ cond (is_over state) (Ended state Normal []) (item_behind run g state)) where
    meets : (state : State Seen) → IsSoundIn state → item_behind (run_in room) f state ≡ item_behind run g state → f state ≡ g state
    meets state sound same = f_meets state sound ∙ by (is_over state) ∙ sym (g_meets state sound)
      where
        by : (b : Bool) → cond b (Ended state Normal []) (item_behind (run_in room) f state) ≡ cond b (Ended state Normal []) (item_behind run g state)
        by true = refl
        by false = same

    -- where no step is left, a step ends it
    with_less : (state : State Seen) (one other : Action) → ((left : ℕ) → state.steps ≡ suc left → one (record state { steps = left }) ≡ other (record state { steps = left }))
        → stepped state.steps state one ≡ stepped state.steps state other
    with_less state one other same = step_then state.steps state one other same

    entry_less : (id : ℕ) (script : List ℕ) (state : State Seen) (one other : Action) → ((left : ℕ) → state.steps ≡ suc left → Agree left one other) → IsSoundIn state
        → stepped state.steps state (waiting_behind (run_in room) id script one) ≡ stepped state.steps state (waiting_behind run id script other)
    entry_less id script state one other less sound =
        with_less state (waiting_behind (run_in room) id script one) (waiting_behind run id script other)
        (λ left is. entry_same left one other (less left is) id script (record state { steps = left }) sound (omega arith))

    bound_less : (script : List ℕ) (scripts : List (List ℕ)) (state : State Seen) → Less f g state → IsSoundIn state
        → bound_behind (run_in room) (script ∷ scripts) f state ≡ bound_behind run (script ∷ scripts) g state
    bound_less script scripts state less sound =
        bound_after f g script scripts state (λ steps is. (less steps is, bound_same steps f g (less steps is) scripts)) sound

    idle_less : (ids : List ℕ) (state : State Seen) → idle_ids state.shows.panel.timers.entries ≡ ids → IsSoundIn state → Less f g state → round_or_behind (run_in room) ids f state ≡ round_or_behind run ids g state
    idle_less [] state is sound less = refl
    idle_less (id ∷ ids) state is sound less = by (entry_with id state.shows.panel.timers.entries) (idle_there room id ids state.shows.panel.timers.entries is)
      where
        by : (entry : Option WaitingScript) → is_some entry ≡ true → idle_behind (run_in room) id entry (round_behind (run_in room) ids f) state ≡ idle_behind run id entry (round_behind run ids g) state
        by None there = absurd (cc)
        by (Some entry) there =
            entry_less id entry.script state (round_behind (run_in room) ids f) (round_behind run ids g) (λ left is. round_same left f g (less left is) ids) sound

    timer_less : (first : Option WaitingScript) (state : State Seen) → IsSoundIn state → Less f g state
        → layout_or_behind (run_in room) (changes_due state.shows.panel.windowing state.store) f state ≡ layout_or_behind run (changes_due state.shows.panel.windowing state.store) g state
        → timer_or_behind (run_in room) first f state ≡ timer_or_behind run first g state
    timer_less None state sound less layout = layout
    timer_less (Some entry) state sound less layout = entry_less entry.id entry.script state f g less sound

    -- what a layout finds hangs on the screen alone
    module _ (Ready : State Seen → Type 0) (stays : (state : State Seen) (panel : Panel) → panel.windowing ≡ state.shows.panel.windowing → Ready state → Ready (with_whole_panel panel state))
        (lays : (state : State Seen) → Ready state → IsSoundIn state → Less f g state
        → layout_or_behind (run_in room) (changes_due state.shows.panel.windowing state.store) f state ≡ layout_or_behind run (changes_due state.shows.panel.windowing state.store) g state) where
      solved : (queue : List Event) (state : State Seen) → state.shows.panel.queue ≡ queue → Ready state → IsSoundIn state → Less f g state → f state ≡ g state
      solved [] state is ready sound less =
          meets state sound
          (ap (λ queue. queued_or_behind (run_in room) queue f state) is
          ∙ timer_less (first_due state.shows.panel.moment state.shows.panel.timers.entries) state sound less (lays state ready sound less)
          ∙ sym (ap (λ queue. queued_or_behind run queue g state) is))
      solved (event ∷ events) state is ready sound less =
          let taken : Panel = with_queue events state.shows.panel in
          let there : Panel × List (List ℕ) = chosen event taken in
          meets state sound
          (ap (λ queue. queued_or_behind (run_in room) queue f state) is
          ∙ by there.1 there.0 (chosen_screen event taken) (solved events (with_whole_panel there.0 state) (chosen_queue event taken))
          ∙ sym (ap (λ queue. queued_or_behind run queue g state) is))
        where
          by : (scripts : List (List ℕ)) (after : Panel) → after.windowing ≡ state.shows.panel.windowing
              → (Ready (with_whole_panel after state) → IsSoundIn (with_whole_panel after state) → Less f g (with_whole_panel after state) → f (with_whole_panel after state) ≡ g (with_whole_panel after state))
              → bound_behind (run_in room) scripts f (with_whole_panel after state) ≡ bound_behind run scripts g (with_whole_panel after state)
          by [] after same rest = rest (stays state after same ready) (sound_screen state.shows.panel after same sound) less
          by (script ∷ scripts) after same rest = bound_less script scripts (with_whole_panel after state) less (sound_screen state.shows.panel after same sound)

    -- nothing is to be laid out
    abbrev IsLaid : State Seen → Type 0
    IsLaid state = changes_due state.shows.panel.windowing state.store ≡ []

    laid_stays : (state : State Seen) (panel : Panel) → panel.windowing ≡ state.shows.panel.windowing → IsLaid state → IsLaid (with_whole_panel panel state)
    laid_stays state panel same is = ap (λ (windowing : Windowing). changes_due windowing state.store) same ∙ is

    laid_lays : (state : State Seen) → IsLaid state → IsSoundIn state → Less f g state
        → layout_or_behind (run_in room) (changes_due state.shows.panel.windowing state.store) f state ≡ layout_or_behind run (changes_due state.shows.panel.windowing state.store) g state
    laid_lays state is sound less =
        ap (λ changes. layout_or_behind (run_in room) changes f state) is
        ∙ idle_less (idle_ids state.shows.panel.timers.entries) state refl sound less
        ∙ sym (ap (λ changes. layout_or_behind run changes g state) is)

    any_lays : (state : State Seen) → Unit {0} → IsSoundIn state → Less f g state
        → layout_or_behind (run_in room) (changes_due state.shows.panel.windowing state.store) f state ≡ layout_or_behind run (changes_due state.shows.panel.windowing state.store) g state
    any_lays state ready sound less = by (changes_due state.shows.panel.windowing state.store)
      where
        by : (changes : List PlaceChange) → layout_or_behind (run_in room) changes f state ≡ layout_or_behind run changes g state
        by [] = idle_less (idle_ids state.shows.panel.timers.entries) state refl sound less
        by (change ∷ changes) =
            let panel : Panel = laid_out state.store state.shows.panel in
            solved IsLaid laid_stays laid_lays panel.queue (with_whole_panel panel state) refl
            (ap (λ (windowing : Windowing). changes_due windowing state.store) (laid_screen state.store state.shows.panel) ∙ laid_twice state.shows.panel.windowing state.store sound)
            (laid (OnTrees StaysSound) sound_on_scene state.store state.shows.panel sound) less

    agrees : (n : ℕ) → Agree n f g
    agrees zero state sound few =
        solved (λ state. Unit {0}) (λ state panel same ready. tt) any_lays state.shows.panel.queue state refl tt sound (λ left is. absurd (omega (arith, is, few)))
    agrees (suc n) state sound few =
        solved (λ state. Unit {0}) (λ state panel same ready. tt) any_lays state.shows.panel.queue state refl tt sound
        (λ left is other kept fewer. agrees n other kept (omega (arith, fewer, is, few)))

    pub only_one : (state : State Seen) → IsSoundIn state → f state ≡ g state
    only_one state sound = agrees state.steps state sound (omega arith)
