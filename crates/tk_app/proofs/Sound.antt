-- Windows stay numbered as they were made, whatever an application does.
use Rattle.std.proofs.Common.{◌≡◌, ℕ, suc, ◌<◌, ◌≤◌, Bool, true, false, cond, List, [], ◌∷◌, length, Option, Some, None, MatchOption, refl, sym, ap, ◌∙◌, subst, arith}
use Rattle.std.specs.Prelude.{◌==◌, ◌||◌, not, filter, is_some, map, nat_le}
use Rattle.std.specs.Option.{option_map, option_and_then, option_or}
use Rattle.std.specs.Str.{bytes_eq}
use Rattle.std.proofs.lemmas.Bool.{leb-false}
use Rattle.std.proofs.lemmas.List.{length-append}
use Rattle.tcl_vars.specs.Store.{Store}
use Rattle.tcl_control.specs.declared.code.Code.{Code}
use Rattle.tcl_control.specs.declared.code.Code.TheVariants.{Normal}
use Rattle.tcl_interp.specs.declared.job.Task.{Task}
use Rattle.tcl_interp.specs.declared.job.Task.TheVariants.{Begins, Waits, Runs, Invoked}
use Rattle.tcl_interp.specs.declared.tasks.Act.{Act}
use Rattle.tcl_interp.specs.Evaluation.{State, Outcome, Ended, OutOfSteps}
use Rattle.tcl_interp.proofs.Kept.{Keeps, Kept, KeepsRun, kept_run_at, kept_script, kept_task}
use Rattle.tcl_interp.proofs.Unrolled as jobs
use Rattle.tk_base.specs.Numbered.{AllAbove, AllBelow, IsRising}
use Rattle.tk_panel.specs.declared.job.Job.{Job}
use Rattle.tk_panel.specs.declared.job.Rest.{Rest}
use Rattle.tk_panel.specs.Choice.{chosen}
use Rattle.tk_panel.specs.Next.{next}
use Rattle.tk_panel.specs.Panel.{Panel}
use Rattle.tk_panel.specs.Start.{start}
use Rattle.tk_commands.specs.Calls.{calls as panel_calls, outcome_told}
use Rattle.tk_commands.specs.Commands.{panel_command}
use Rattle.tk_commands.specs.Course.{ended as panel_ended, job_of}
use Rattle.tk_commands.specs.declared.outcome.Begun.{Begun}
use Rattle.tk_commands.specs.declared.outcome.Begun.TheVariants.{Updates, UpdatesIdleTasks, Destroys, Dispatches}
use Rattle.tk_commands.specs.declared.outcome.CommandOutcome.{CommandOutcome}
use Rattle.tk_commands.specs.declared.outcome.CommandOutcome.TheVariants as outcome
use Rattle.tk_commands.specs.Outcomes.{Done}
use Rattle.tk_screen.specs.Own.{Windowing}
use Rattle.tk_tree.specs.Create.{parent_number, place_refusal, refusal, taken_refusal}
use Rattle.tk_tree.specs.declared.fault.WindowFault.{WindowFault}
use Rattle.tk_tree.specs.declared.fault.WindowFault.TheVariants.{Exists, Full}
use Rattle.tk_tree.specs.declared.window.Window.{Window}
use Rattle.tk_tree.specs.Own.{HasOlderParent, HaveOlderParents, IsSound, Tree, at_path, is_full, most_windows}
use Rattle.tk_tree.specs.Path.{parent_and_name}
use Rattle.tk_tree.specs.Window.{new_window, number_of}
use Rattle.tk_tree.proofs.Lists.{below_more, find_below, parents_more, rising_more}
use Rattle.tk_app.specs.Dispatch.{global_meaning}
use Rattle.tk_app.specs.Jobs.{meaning}
use Rattle.tk_app.specs.Outside.{alias_act, called_as, calls, course, outside, run_in}
use Rattle.tk_app.specs.Seen.{Seen}
use Rattle.tk_app.specs.Settle.{IsSoundIn}
use Rattle.tk_app.specs.Sound.{EndsSound, EndsWith}
use Rattle.tk_app.proofs.CommandTrees.{command_acts}
use Rattle.tk_app.proofs.Panels.{chosen_screen}
use Rattle.tk_app.proofs.Trees.{Acts, HoldsOfActs, HoldsOnScene, KeepsPlace, OnTrees, Scene, both, by_screen, ended_acts, next_acts, on_trees, scene_of, start_acts}

-- ── scripts and jobs do what holds of their acts ──

module _ (Q : Scene → Scene → Type 0) (acts : HoldsOnScene Q) (first : Scene) where
  -- what has been done since the windows, and what is packed, were these
  abbrev pub Since : Seen → Type 0
  Since seen = Q first (scene_of seen.panel.windowing)

  on : (old new : Panel) → Q first (scene_of old.windowing) → Acts Q acts old new → Q first (scene_of new.windowing)
  on old new since done = acts.after first (scene_of old.windowing) (scene_of new.windowing) since done

  begun_acts : (begun : Begun) (panel : Panel) → Acts Q acts panel (job_of begun panel).0
  begun_acts Updates panel = acts.same (scene_of panel.windowing)
  begun_acts UpdatesIdleTasks panel = acts.same (scene_of panel.windowing)
  begun_acts (Destroys paths) panel = acts.same (scene_of panel.windowing)
  begun_acts (Dispatches event) panel = by_screen Q acts panel (chosen event panel).0 (chosen_screen event panel)

  told_acts : (came : CommandOutcome) (panel : Panel) (store : Store) → Acts Q acts panel (outcome_told came panel store).shows
  told_acts (outcome.Acts act) panel store = acts.same (scene_of panel.windowing)
  told_acts (outcome.Begins begun) panel store =
      let there : Panel × Job = job_of begun panel in
      both Q acts panel there.0 (next there.1 store there.0).0 (begun_acts begun panel) (next_acts Q acts there.1 store there.0)
  told_acts outcome.Unknown panel store = acts.same (scene_of panel.windowing)

  called_acts : (panel : Panel) (store : Store) (words : List (List ℕ)) → Acts Q acts panel (panel_calls panel store words).shows
  unfolding panel_calls
  called_acts panel store words =
      let came : Done = panel_command words panel store in
      both Q acts panel came.panel (outcome_told came.outcome came.panel came.store).shows (command_acts Q acts words panel store) (told_acts came.outcome came.panel came.store)

  call_since : (seen : Seen) (store : Store) (words : List (List ℕ)) → Since seen → Since (calls seen store words).shows
  call_since seen store words since = by (alias_act seen.serves words)
    where
      by : (served : Option (Act (Task Job))) → Since (called_as served words seen store).shows
      by (Some act) = since
      by None = on seen.panel (panel_calls seen.panel store words).shows since (called_acts seen.panel store words)

  task_since : (seen : Seen) (store : Store) (task : Task Job) (code : Code) (text : List ℕ) → Since seen → Since (outside.resumes seen store task code text).shows
  task_since seen store (Begins script job) code text since = since
  task_since seen store (Waits job) code text since =
      on seen.panel (start job seen.panel).0 since (start_acts Q acts job seen.panel)
  task_since seen store (Runs job) code text since =
      let there : Panel × Job = panel_ended code text seen.panel job in
      let left : Panel = record there.0 { moment = seen.panel.moment } in
      on left (next there.1 store left).0 (on seen.panel there.0 since (ended_acts Q acts code text seen.panel job)) (next_acts Q acts there.1 store left)
  task_since seen store Invoked code text since = since

  keeps : Keeps Since outside
  keeps = (call_since, task_since)

  pub script_since : (room : ℕ) (script : List ℕ) (state : State Seen) → Since state.shows → Kept Since (run_in room script state)
  script_since room script state since = kept_script Since outside keeps room script state since

  pub global_since : (room : ℕ) (script : List ℕ) (state : State Seen) → Since state.shows → Kept Since (global_meaning (run_in room) script state)
  global_since room script state since = kept_run_at Since (run_in room) (script_since room) 1 script state since

  -- a job is where a task is that goes on with it
  job_ends : (event : Option (List (List ℕ))) (rest : Rest) (seen : Seen) → course.ended Normal [] seen (record { event = event; rest = rest }) ≡ (seen, record { event = event; rest = rest })
  job_ends (Some scripts) rest seen = refl
  job_ends None rest seen = refl

  pub job_since : (room : ℕ) (job : Job) (state : State Seen) → Since state.shows → Kept Since (meaning room job state)
  job_since room job state since =
      let done = λ (there : Seen × Job). meaning room there.1 (record state { shows = there.0 }) in
      subst (Kept Since) ((jobs.goes_on course calls room job state Normal [] []).0 ∙ ap done (job_ends job.event job.rest state.shows))
      (kept_task Since outside keeps (run_in room) (script_since room) (Runs job) state Normal [] since)

-- ── what holds of windows, and of what is packed, where scripts and jobs end ──

module _ (holds : Scene → Type 0) (acts : HoldsOnScene (λ old new. holds old → holds new)) where
  abbrev pub OnScreen : Windowing → Type 0
  OnScreen own = holds (scene_of own)

  ends_so : (first : Scene) (outcome : Outcome Seen) → holds first → Kept (Since (λ old new. holds old → holds new) acts first) outcome → EndsWith OnScreen outcome
  ends_so first (Ended state code text) held kept = kept held
  ends_so first (OutOfSteps state) held kept = tt

  pub scripts_so : (room : ℕ) (state : State Seen) → OnScreen state.shows.panel.windowing → (script : List ℕ) → EndsWith OnScreen (global_meaning (run_in room) script state)
  scripts_so room state held script =
      let first : Scene = scene_of state.shows.panel.windowing in
      ends_so first (global_meaning (run_in room) script state) held (global_since (λ old new. holds old → holds new) acts first room script state (λ same. same))

  pub jobs_so : (room : ℕ) (state : State Seen) → OnScreen state.shows.panel.windowing → (job : Job) → EndsWith OnScreen (meaning room job state)
  jobs_so room state held job =
      let first : Scene = scene_of state.shows.panel.windowing in
      ends_so first (meaning room job state) held (job_since (λ old new. holds old → holds new) acts first room job state (λ same. same))

-- ── numbers, and older parents ──

module _ (change : Window → Window) (keeps_place : KeepsPlace change) (n : ℕ) where
  abbrev pub at : Window → Window
  at window = cond (window.number == n) (change window) window

  -- what a change keeps of a window, it keeps of all
  same_of : {T : Type 0} (of : Window → T) (window : Window) → of (change window) ≡ of window → of (at window) ≡ of window
  same_of of window same = by (window.number == n)
    where
      by : (b : Bool) → of (cond b (change window) window) ≡ of window
      by true = same
      by false = refl

  pub same_number : (window : Window) → (at window).number ≡ window.number
  same_number window = same_of (λ (w : Window). w.number) window (keeps_place.number window)

  pub same_parent : (window : Window) → (at window).parent ≡ window.parent
  same_parent window = same_of (λ (w : Window). w.parent) window (keeps_place.parent window)

  above_changed : (m : ℕ) (windows : List Window) → AllAbove number_of m windows → AllAbove number_of m (map at windows)
  above_changed m [] above = tt
  above_changed m (window ∷ windows) above = (subst (λ k. m < k) (sym (same_number window)) above.0, above_changed m windows above.1)

  rising_changed : (windows : List Window) → IsRising number_of windows → IsRising number_of (map at windows)
  rising_changed [] rising = tt
  rising_changed (window ∷ windows) rising =
      (subst (λ k. AllAbove number_of k (map at windows)) (sym (same_number window)) (above_changed window.number windows rising.0), rising_changed windows rising.1)

  below_changed : (m : ℕ) (windows : List Window) → AllBelow number_of m windows → AllBelow number_of m (map at windows)
  below_changed m [] below = tt
  below_changed m (window ∷ windows) below = (subst (λ k. k < m) (sym (same_number window)) below.0, below_changed m windows below.1)

  older_changed : (window : Window) → HasOlderParent window → HasOlderParent (at window)
  older_changed window older =
      subst (λ k. MatchOption (at window).parent (Unit {0}) (λ parent. parent < k)) (sym (same_number window))
      (subst (λ (o : Option ℕ). MatchOption o (Unit {0}) (λ parent. parent < window.number)) (sym (same_parent window)) older)

  parents_changed : (windows : List Window) → HaveOlderParents windows → HaveOlderParents (map at windows)
  parents_changed [] older = tt
  parents_changed (window ∷ windows) older = (older_changed window older.0, parents_changed windows older.1)

  length_changed : (windows : List Window) → length (map at windows) ≡ length windows
  length_changed [] = refl
  length_changed (window ∷ windows) = ap suc (length_changed windows)

module _ (n : ℕ) where
  abbrev pub others : List Window → List Window
  others windows = filter (λ (window : Window). not (window.number == n)) windows

  -- what holds of each window holds of each that is left
  pub each_gone : (all : List Window → Type 0) (each : Window → Type 0) → ((window : Window) (windows : List Window) → all (window ∷ windows) → each window × all windows)
      → ((window : Window) (windows : List Window) → each window → all windows → all (window ∷ windows)) → (windows : List Window) → all windows → all (others windows)
  each_gone all each parts whole [] held = held
  each_gone all each parts whole (window ∷ windows) held = by (window.number == n) (each_gone all each parts whole windows (parts window windows held).1)
    where
      by : (b : Bool) → all (others windows) → all (cond (not b) (window ∷ others windows) (others windows))
      by true rest = rest
      by false rest = whole window (others windows) (parts window windows held).0 rest

  above_gone : (m : ℕ) (windows : List Window) → AllAbove number_of m windows → AllAbove number_of m (others windows)
  above_gone m = each_gone (AllAbove number_of m) (λ window. m < window.number) (λ window windows held. held) (λ window windows one rest. (one, rest))

  rising_gone : (windows : List Window) → IsRising number_of windows → IsRising number_of (others windows)
  rising_gone [] rising = tt
  rising_gone (window ∷ windows) rising = by (window.number == n) (rising_gone windows rising.1)
    where
      by : (b : Bool) → IsRising number_of (others windows) → IsRising number_of (cond (not b) (window ∷ others windows) (others windows))
      by true rest = rest
      by false rest = (above_gone window.number windows rising.0, rest)

  below_gone : (m : ℕ) (windows : List Window) → AllBelow number_of m windows → AllBelow number_of m (others windows)
  below_gone m = each_gone (AllBelow number_of m) (λ window. window.number < m) (λ window windows held. held) (λ window windows one rest. (one, rest))

  parents_gone : (windows : List Window) → HaveOlderParents windows → HaveOlderParents (others windows)
  parents_gone = each_gone HaveOlderParents HasOlderParent (λ window windows held. held) (λ window windows one rest. (one, rest))

  length_gone : (windows : List Window) → length (others windows) ≤ length windows
  length_gone [] = omega arith
  length_gone (window ∷ windows) = by (window.number == n) (length_gone windows)
    where
      by : (b : Bool) → length (others windows) ≤ length windows → length (cond (not b) (window ∷ others windows) (others windows)) ≤ suc (length windows)
      by true rest = omega (arith, rest)
      by false rest = omega (arith, rest)

-- ── a window more ──

module _ (path : List ℕ) (tree : Tree) (sound : IsSound tree) where
  abbrev IsOlder : Option ℕ → Type 0
  IsOlder parent = MatchOption parent (Unit {0}) (λ parent. parent < tree.next_number)

  found_older : (found : Option Window) → ((window : Window) → found ≡ Some window → window.number < tree.next_number) → IsOlder (option_map (λ (parent : Window). parent.number) found)
  found_older None lt = tt
  found_older (Some window) lt = lt window refl

  names_older : (names : Option (List ℕ × List ℕ)) → IsOlder (option_map (λ (parent : Window). parent.number) (option_and_then (λ (parts : List ℕ × List ℕ). at_path parts.0 tree) names))
  names_older None = tt
  names_older (Some parts) =
      found_older (at_path parts.0 tree) (λ window is. find_below number_of tree.next_number (λ w. bytes_eq parts.0 w.path) window tree.windows sound.below is)

  parent_older : IsOlder (parent_number path tree)
  parent_older = names_older (parent_and_name path)

-- where neither of two tests refuses, the first doesn't, and nor does the other
pub neither : (one other : Option WindowFault) → option_or one other ≡ None → (one ≡ None) × (other ≡ None)
neither None other is = (refl, is)
neither (Some fault) other is = absurd (cc)

pub passes_last : (first last : Bool) (one other : WindowFault) → cond first (Some one) (cond last (Some other) None) ≡ None → last ≡ false
passes_last true last one other is = absurd (cc)
passes_last false true one other is = absurd (cc)
passes_last false false one other is = refl

one_false : (a b : Bool) → a || b ≡ false → a ≡ false
one_false true b is = absurd (cc)
one_false false b is = refl

-- there is room for one more where none of the tests refuses
has_room : (path : List ℕ) (tree : Tree) → refusal path tree ≡ None → length tree.windows < 512
has_room path tree may =
    leb-false 512 (length tree.windows)
    (one_false (nat_le 512 (length tree.windows)) (tree.next_number == 18446744073709551615) (passes_last (is_some (at_path path tree)) (is_full tree) Exists Full (neither (place_refusal path tree) (taken_refusal path tree) may).1))

-- ── sound stays sound ──

abbrev pub StaysSound : Tree → Tree → Type 0
StaysSound old new = IsSound old → IsSound new

pub sound_acts : HoldsOfActs StaysSound
sound_acts = record {
  same = λ tree sound. sound;
  after = λ first mid last one other sound. other (one sound);
  changed = λ number change tree keeps_place sound. record {
    rising = rising_changed change keeps_place number tree.windows sound.rising;
    below = below_changed change keeps_place number tree.next_number tree.windows sound.below;
    parents = parents_changed change keeps_place number tree.windows sound.parents;
    few = subst (λ k. k ≤ most_windows) (sym (length_changed change keeps_place number tree.windows)) sound.few;
  };
  gone = λ number tree sound. record {
    rising = rising_gone number tree.windows sound.rising;
    below = below_gone number tree.next_number tree.windows sound.below;
    parents = parents_gone number tree.windows sound.parents;
    few = omega (arith, length_gone number tree.windows, sound.few);
  };
  made = λ path kind tree named may sound. (let window : Window = new_window tree.next_number path kind (parent_number path tree) in record {
    rising = rising_more number_of tree.windows window sound.rising sound.below;
    below = below_more number_of tree.next_number tree.windows window sound.below refl;
    parents = parents_more tree.windows window sound.parents (parent_older path tree sound);
    few = omega (arith, length-append tree.windows (window ∷ []), has_room path tree may);
  });
}

pub sound_on_scene : HoldsOnScene (OnTrees StaysSound)
sound_on_scene = on_trees StaysSound sound_acts

-- ── the law ──

-- the windows that are shown are numbered so
abbrev pub IsSoundShown : Seen → Type 0
IsSoundShown seen = IsSound seen.panel.windowing.tree

pub shown_keeps : Keeps IsSoundShown outside
shown_keeps = (
  λ seen store words sound. call_since (OnTrees StaysSound) sound_on_scene (scene_of seen.panel.windowing) seen store words (λ same. same) sound,
  λ seen store task code text sound. task_since (OnTrees StaysSound) sound_on_scene (scene_of seen.panel.windowing) seen store task code text (λ same. same) sound,
)

pub run_keeps : (room : ℕ) → KeepsRun IsSoundShown (run_in room)
run_keeps room = kept_script IsSoundShown outside shown_keeps room

pub scripts_sound : (room : ℕ) (state : State Seen) → IsSoundIn state → (script : List ℕ) → EndsSound (global_meaning (run_in room) script state)
scripts_sound = scripts_so (λ scene. IsSound scene.0) sound_on_scene

pub jobs_sound : (room : ℕ) (state : State Seen) → IsSoundIn state → (job : Job) → EndsSound (meaning room job state)
jobs_sound = jobs_so (λ scene. IsSound scene.0) sound_on_scene
