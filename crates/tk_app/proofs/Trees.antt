-- What commands and jobs do to the windows of an application, and to what is packed: a few acts, one after another.
use Rattle.std.proofs.Common.{◌≡◌, ◌⊎◌, inl, inr, ℕ, Bool, true, false, cond, List, [], ◌∷◌, Option, Some, None, refl, sym, subst}
use Rattle.std.specs.Prelude.{codes, length, ◌==◌}
use Rattle.std.specs.Str.{bytes_eq}
use Rattle.tcl_vars.specs.Store.{Store}
use Rattle.tcl_control.specs.declared.code.Code.{Code}
use Rattle.tcl_control.specs.declared.code.Code.TheVariants.{Normal, Error, Return, Break, Continue}
use Rattle.tk_after.specs.declared.waiting.WaitingScript.{WaitingScript}
use Rattle.tk_after.specs.Timers.{first_due, idle_ids}
use Rattle.tk_base.specs.declared.kind.Kind.{Kind}
use Rattle.tk_base.specs.declared.rect.Rect.{Rect}
use Rattle.tk_packer.specs.declared.changes.PlaceChange.{PlaceChange}
use Rattle.tk_packer.specs.declared.changes.PlaceChange.TheVariants.{Unmap, Configure, Map}
use Rattle.tk_packer.specs.Packs.{Packing, without_window as without_packs}
use Rattle.tk_pack_commands.specs.Pack.{pack_words}
use Rattle.tk_screen.specs.Layout.{changes_due, laid_out_windowing, size_of}
use Rattle.tk_screen.specs.Own.{Windowing}
use Rattle.tk_screen.specs.Placing.{mapped_as, placed_at, with_changed, with_changes}
use Rattle.tk_screen.specs.Shapes.{shapes}
use Rattle.tk_tree.specs.Change.{dying, with_place}
use Rattle.tk_tree.specs.Create.{parent_number, refusal, with_window}
use Rattle.tk_tree.specs.declared.window.Window.{Window}
use Rattle.tk_tree.specs.Own.{Tree, child_numbers, window_at, with_change, without_window}
use Rattle.tk_panel.specs.declared.job.Home.{Home}
use Rattle.tk_panel.specs.declared.job.Home.TheVariants.{Settle, Update, IdleTasks, LastLayout}
use Rattle.tk_panel.specs.declared.job.Job.{Job}
use Rattle.tk_panel.specs.declared.job.Rest.{Rest}
use Rattle.tk_panel.specs.declared.job.Rest.TheVariants.{Ends as NoRest, Destroys, Rounds}
use Rattle.tk_panel.specs.Changes.{laid_out as laid_out_panel}
use Rattle.tk_panel.specs.Destroy.{Doomed, all_dying, destroy_at, destroy_chosen, destroy_event, destroys, doomed_by, doomed_next, marked, next_doomed, on_doomed, or_removed, removed, removed_at, without_last, without_path}
use Rattle.tk_panel.specs.Next.{next, next_event, next_rest}
use Rattle.tk_panel.specs.Panel.{Panel}
use Rattle.tk_panel.specs.Settle.{Next, after_layout, after_round, at_home, drained, idle_round, is_closed, is_due, on_event, on_round, on_timer, queue_or_round, still_waiting, tasks_round, turn}
use Rattle.tk_panel.specs.Start.{start, start_event, start_rest, timer_taken}
use Rattle.tk_commands.specs.Course.{bound_ended, ended, ended_by, with_end}
use Rattle.tk_app.proofs.Panels.{chosen_screen, drained_screen, laid_screen}
use Rattle.tk_app.proofs.Within.{AllPlace, EndsWithin, PlacesWithin, layout_changes}

-- a change that leaves a window its number and its parent, and doesn't let it live again
pub record KeepsPlace (change : Window → Window) : Type 0 where
  pub number : (window : Window) → (change window).number ≡ window.number
  pub parent : (window : Window) → (change window).parent ≡ window.parent
  pub dying : (window : Window) → window.dying ≡ true → (change window).dying ≡ true

-- and leaves it where it lies
abbrev pub KeepsRectangle : (Window → Window) → Type 0
KeepsRectangle change = (window : Window) → (change window).rectangle ≡ window.rectangle

-- what holds of each of these acts on windows, and of one after another
pub record HoldsOfActs (Q : Tree → Tree → Type 0) : Type 0 where
  pub same : (tree : Tree) → Q tree tree
  pub after : (first mid last : Tree) → Q first mid → Q mid last → Q first last
  pub changed : (number : ℕ) (change : Window → Window) (tree : Tree) → KeepsPlace change → Q tree (with_change number change tree)
  pub gone : (number : ℕ) (tree : Tree) → Q tree (without_window number tree)
  pub made : (path : List ℕ) (kind : Kind) (tree : Tree) → bytes_eq path (codes ".") ≡ false → refusal path tree ≡ None → Q tree (with_window path kind (parent_number path tree) tree)

-- windows, what is packed of them, and the size of the application's rectangle
abbrev pub Scene : Type 0
Scene = Tree × (Packing × (ℕ × ℕ))

abbrev pub scene_of : Windowing → Scene
scene_of own = (own.tree, (own.packs, size_of own))

-- the rectangle is that of a window that is there
pub record IsOfWindow (tree : Tree) (place : Rect) : Type 0 where
  pub number : ℕ
  pub window : Window
  pub there : window_at number tree ≡ Some window
  pub its : place ≡ window.rectangle

-- a window may get the rectangle: one that ends within the application's, or that of a window
abbrev pub MayLie : Scene → Rect → Type 0
MayLie scene place = EndsWithin scene.1.1 place ⊎ IsOfWindow scene.0 place

-- what holds of each of these acts on windows and on what is packed, and of one after another
pub record HoldsOnScene (Q : Scene → Scene → Type 0) : Type 0 where
  pub same : (scene : Scene) → Q scene scene
  pub after : (first mid last : Scene) → Q first mid → Q mid last → Q first last
  pub changed : (number : ℕ) (change : Window → Window) (scene : Scene) → KeepsPlace change → KeepsRectangle change → Q scene (with_change number change scene.0, scene.1)
  pub placed : (number : ℕ) (place : Rect) (is_mapped : Bool) (scene : Scene) → MayLie scene place → Q scene (with_change number (with_place place is_mapped) scene.0, scene.1)
  pub gone : (number : ℕ) (scene : Scene) → Q scene (without_window number scene.0, (without_packs number scene.1.0, scene.1.1))
  pub made : (path : List ℕ) (kind : Kind) (scene : Scene) → bytes_eq path (codes ".") ≡ false → refusal path scene.0 ≡ None
      → Q scene (with_window path kind (parent_number path scene.0) scene.0, scene.1)
  pub packed : (words : List (List ℕ)) (scene : Scene) → Q scene (scene.0, ((pack_words words scene.0 scene.1.0).0, scene.1.1))

-- a window that is laid out is the one that it was
pub placing_keeps : (place : Rect) (is_mapped : Bool) → KeepsPlace (with_place place is_mapped)
placing_keeps place is_mapped = record { number = λ w. refl; parent = λ w. refl; dying = λ w is. is }

-- what holds of windows, whatever is packed
abbrev pub OnTrees : (Tree → Tree → Type 0) → Scene → Scene → Type 0
OnTrees Q old new = Q old.0 new.0

pub on_trees : (Q : Tree → Tree → Type 0) → HoldsOfActs Q → HoldsOnScene (OnTrees Q)
on_trees Q acts = record {
  same = λ scene. acts.same scene.0;
  after = λ first mid last. acts.after first.0 mid.0 last.0;
  changed = λ number change scene keeps_place keeps_rectangle. acts.changed number change scene.0 keeps_place;
  placed = λ number place is_mapped scene may. acts.changed number (with_place place is_mapped) scene.0 (placing_keeps place is_mapped);
  gone = λ number scene. acts.gone number scene.0;
  made = λ path kind scene. acts.made path kind scene.0;
  packed = λ words scene. acts.same scene.0;
}

-- ── what leaves the screen ──

timer_screen : (rest : Rest) (panel : Panel) (entry : Option WaitingScript) → (timer_taken rest panel entry).0.windowing ≡ panel.windowing
timer_screen rest panel None = refl
timer_screen rest panel (Some entry) = refl

rest_screen : (rest : Rest) (panel : Panel) → (start_rest rest panel).0.windowing ≡ panel.windowing
rest_screen NoRest panel = refl
rest_screen (Destroys window doomed paths) panel = refl
rest_screen (Rounds [] home) panel = timer_screen (Rounds [] home) panel (first_due panel.moment panel.timers.entries)
rest_screen (Rounds (id ∷ ids) home) panel = refl

event_screen : (event : Option (List (List ℕ))) (rest : Rest) (panel : Panel) → (start_event event rest panel).0.windowing ≡ panel.windowing
event_screen (Some (script ∷ scripts)) rest panel = refl
event_screen (Some []) rest panel = rest_screen rest panel
event_screen None rest panel = rest_screen rest panel

pub start_screen : (job : Job) (panel : Panel) → (start job panel).0.windowing ≡ panel.windowing
start_screen job panel = event_screen job.event job.rest panel

pub end_screen : (code : Code) (text : List ℕ) (panel : Panel) → (with_end code text panel).windowing ≡ panel.windowing
end_screen Normal text panel = refl
end_screen Error text panel = refl
end_screen (Return code) text panel = refl
end_screen Break text panel = refl
end_screen Continue text panel = refl

bound_screen : (code : Code) (text : List ℕ) (scripts : List (List ℕ)) (rest : Rest) (panel : Panel) → (bound_ended code text scripts rest panel).0.windowing ≡ panel.windowing
bound_screen Normal text scripts rest panel = refl
bound_screen Error text scripts rest panel = refl
bound_screen (Return code) text scripts rest panel = refl
bound_screen Break text scripts rest panel = refl
bound_screen Continue text scripts rest panel = refl

by_event : (event : Option (List (List ℕ))) (rest : Rest) (code : Code) (text : List ℕ) (panel : Panel) → (ended_by event rest code text panel).0.windowing ≡ panel.windowing
by_event (Some scripts) rest code text panel = bound_screen code text scripts rest panel
by_event None rest code text panel = end_screen code text panel

pub ended_screen : (code : Code) (text : List ℕ) (panel : Panel) (job : Job) → (ended code text panel job).0.windowing ≡ panel.windowing
ended_screen code text panel job = by_event job.event job.rest code text panel

destroy_screen : (panel : Panel) (window : Option Window) → (destroy_at panel window).0.windowing ≡ panel.windowing
destroy_screen panel None = refl
destroy_screen panel (Some window) = chosen_screen (destroy_event window panel.moment) panel

module _ (Q : Scene → Scene → Type 0) (acts : HoldsOnScene Q) where
  -- ── layout ──

  mapped : (number : ℕ) (is_mapped : Bool) (scene : Scene) (found : Option Window) → window_at number scene.0 ≡ found → Q scene (mapped_as number is_mapped found scene.0, scene.1)
  mapped number is_mapped scene None is = acts.same scene
  mapped number is_mapped scene (Some window) is = acts.placed number window.rectangle is_mapped scene (inr (record { number = number; window = window; there = is; its = refl }))

  placed : (number : ℕ) (place : Rect) (scene : Scene) → EndsWithin scene.1.1 place → (found : Option Window) → Q scene (placed_at number place found scene.0, scene.1)
  placed number place scene ends None = acts.same scene
  placed number place scene ends (Some window) = acts.placed number place window.mapped scene (inl ends)

  one_changed : (change : PlaceChange) (scene : Scene) → PlacesWithin scene.1.1 change → Q scene (with_changed change scene.0, scene.1)
  one_changed (Unmap number) scene places = mapped number false scene (window_at number scene.0) refl
  one_changed (Configure number place) scene places = placed number place scene places (window_at number scene.0)
  one_changed (Map number) scene places = mapped number true scene (window_at number scene.0) refl

  all_changed : (changes : List PlaceChange) (scene : Scene) → AllPlace scene.1.1 changes → Q scene (with_changes changes scene.0, scene.1)
  unfolding with_changes
  all_changed [] scene place = acts.same scene
  all_changed (change ∷ changes) scene place =
      let next : Scene = (with_changed change scene.0, scene.1) in
      acts.after scene next (with_changes changes next.0, scene.1) (one_changed change scene place.0) (all_changed changes next place.1)

  laid_scene : (own : Windowing) (store : Store) → Q (scene_of own) (scene_of (laid_out_windowing own store))
  unfolding laid_out_windowing changes_due
  laid_scene own store = all_changed (changes_due own store) (scene_of own) (layout_changes (size_of own) own.packs.packs (shapes own store))

  -- from one panel to another
  abbrev pub Acts : Panel → Panel → Type 0
  Acts old new = Q (scene_of old.windowing) (scene_of new.windowing)

  pub by_screen : (old new : Panel) → new.windowing ≡ old.windowing → Acts old new
  by_screen old new same = subst (λ (windowing : Windowing). Q (scene_of old.windowing) (scene_of windowing)) (sym same) (acts.same (scene_of old.windowing))

  pub both : (first mid last : Panel) → Acts first mid → Acts mid last → Acts first last
  both first mid last one other = acts.after (scene_of first.windowing) (scene_of mid.windowing) (scene_of last.windowing) one other

  pub laid : (store : Store) (panel : Panel) → Acts panel (laid_out_panel store panel)
  laid store panel = subst (λ (windowing : Windowing). Q (scene_of panel.windowing) (scene_of windowing)) (sym (laid_screen store panel)) (laid_scene panel.windowing store)

  -- ── *Destroy* ──

  pub removed_acts : (number : ℕ) (panel : Panel) → Acts panel (removed number panel)
  unfolding removed
  removed_acts number panel = by (window_at number panel.windowing.tree)
    where
      leaf : (window : Window) (b : Bool) → Acts panel (cond b (without_path number window.path panel) panel)
      leaf window true = acts.gone number (scene_of panel.windowing)
      leaf window false = acts.same (scene_of panel.windowing)

      by : (window : Option Window) → Acts panel (removed_at number panel window)
      by None = acts.same (scene_of panel.windowing)
      by (Some window) = leaf window (length (child_numbers number panel.windowing.tree.windows) == 0)

  pub dying_acts : (numbers : List ℕ) (scene : Scene) → Q scene (all_dying numbers scene.0, scene.1)
  unfolding all_dying
  dying_acts [] scene = acts.same scene
  dying_acts (number ∷ numbers) scene =
      let next : Scene = (with_change number dying scene.0, scene.1) in
      acts.after scene next (all_dying numbers next.0, scene.1)
      (acts.changed number dying scene (record { number = λ w. refl; parent = λ w. refl; dying = λ w is. refl }) (λ w. refl))
      (dying_acts numbers next)

  pub marked_acts : (numbers : List ℕ) (panel : Panel) → Acts panel (marked numbers panel)
  marked_acts numbers panel = dying_acts numbers (scene_of panel.windowing)

  doomed_acts : (numbers : List ℕ) (panel : Panel) → Acts panel (next_doomed numbers panel).panel
  unfolding next_doomed
  doomed_acts [] panel = acts.same (scene_of panel.windowing)
  doomed_acts (number ∷ numbers) panel =
      let there : Panel × List (List ℕ) = destroy_chosen number panel in
      by there.1 there.0 (destroy_screen panel (window_at number panel.windowing.tree)) (doomed_acts numbers (removed number there.0))
    where
      by : (scripts : List (List ℕ)) (after : Panel) → after.windowing ≡ panel.windowing → Acts (removed number after) (next_doomed numbers (removed number after)).panel
          → Acts panel (or_removed number numbers (next_doomed numbers) after scripts).panel
      by [] after one later =
          both panel after (next_doomed numbers (removed number after)).panel (by_screen panel after one)
          (both after (removed number after) (next_doomed numbers (removed number after)).panel (removed_acts number after) later)
      by (script ∷ scripts) after one later = by_screen panel after one

  -- ── what comes next of a job ──

  abbrev Comes : Panel → Next → Type 0
  Comes panel there = Acts panel there.0

  doomed_comes : (paths : List (List ℕ)) (later : Panel → Next) → ((panel : Panel) → Comes panel (later panel)) → (numbers : List ℕ) (panel : Panel) → Comes panel (doomed_next paths later numbers panel)
  doomed_comes paths later rest numbers panel = let doomed : Doomed = next_doomed numbers panel in by doomed.panel doomed.rest doomed.found (doomed_acts numbers panel)
    where
      by : (after : Panel) (left : List ℕ) (found : Option (ℕ × List (List ℕ))) → Acts panel after → Comes panel (on_doomed paths later after left found)
      by after left None one = both panel after (later after).0 one (rest after)
      by after left (Some found) one = one

  destroys_come : (paths : List (List ℕ)) (panel : Panel) → Comes panel (destroys paths panel)
  unfolding destroys
  destroys_come [] panel = acts.same (scene_of panel.windowing)
  destroys_come (path ∷ paths) panel =
      let numbers : List ℕ = doomed_by path panel in
      both panel (marked numbers panel) (doomed_next paths (destroys paths) numbers (marked numbers panel)).0 (marked_acts numbers panel)
      (doomed_comes paths (destroys paths) (destroys_come paths) numbers (marked numbers panel))

  last_acts : (window : Option ℕ) (panel : Panel) → Acts panel (without_last window panel)
  last_acts None panel = acts.same (scene_of panel.windowing)
  last_acts (Some number) panel = removed_acts number panel

  round_comes : (home : Home) (ids : List ℕ) (panel : Panel) → Comes panel (on_round home ids panel)
  round_comes home [] panel = acts.same (scene_of panel.windowing)
  round_comes home (id ∷ ids) panel = acts.same (scene_of panel.windowing)

  event_comes : (home : Home) (otherwise : Panel → Next) → ((panel : Panel) → Comes panel (otherwise panel)) → (panel : Panel) (scripts : List (List ℕ)) → Comes panel (on_event home otherwise panel scripts)
  event_comes home otherwise later panel [] = later panel
  event_comes home otherwise later panel (script ∷ scripts) = acts.same (scene_of panel.windowing)

  layout_comes : (home : Home) (store : Store) (panel : Panel) → Comes panel (after_layout home store panel)
  unfolding queue_or_round
  layout_comes home store panel =
      let l : Panel = laid_out_panel store panel in
      let there : Panel × List (List ℕ) = drained l.queue l in
      both panel l (on_event home (idle_round home) there.0 there.1).0 (laid store panel)
      (both l there.0 (on_event home (idle_round home) there.0 there.1).0 (by_screen l there.0 (drained_screen l.queue l))
      (event_comes home (idle_round home) (λ panel. round_comes home (idle_ids panel.timers.entries) panel) there.0 there.1))

  timer_comes : (home : Home) (store : Store) (panel : Panel) → Comes panel (on_timer home (after_layout home store) panel)
  timer_comes home store panel = by (is_due panel.moment panel.timers.entries)
    where
      by : (b : Bool) → Comes panel (cond b (panel, Some (record { event = None; rest = Rounds [] home })) (after_layout home store panel))
      by true = acts.same (scene_of panel.windowing)
      by false = layout_comes home store panel

  turn_comes : (home : Home) (store : Store) (panel : Panel) → Comes panel (turn home store panel)
  unfolding turn
  turn_comes home store panel =
      let there : Panel × List (List ℕ) = drained panel.queue panel in
      both panel there.0 (on_event home (on_timer home (after_layout home store)) there.0 there.1).0 (by_screen panel there.0 (drained_screen panel.queue panel))
      (event_comes home (on_timer home (after_layout home store)) (timer_comes home store) there.0 there.1)

  tasks_come : (store : Store) (ids : List ℕ) (panel : Panel) → Comes panel (tasks_round store ids panel)
  tasks_come store [] panel = laid store panel
  tasks_come store (id ∷ ids) panel = acts.same (scene_of panel.windowing)

  home_comes : (home : Home) (store : Store) (panel : Panel) → Comes panel (at_home home store panel)
  home_comes Settle store panel = by (is_closed panel)
    where
      by : (b : Bool) → Comes panel (cond b (panel, None) (turn Settle store panel))
      by true = acts.same (scene_of panel.windowing)
      by false = turn_comes Settle store panel
  home_comes Update store panel = turn_comes Update store panel
  home_comes IdleTasks store panel =
      let l : Panel = laid_out_panel store panel in
      both panel l (tasks_round store (idle_ids l.timers.entries) l).0 (laid store panel) (tasks_come store (idle_ids l.timers.entries) l)
  home_comes LastLayout store panel = laid store panel

  left_comes : (home : Home) (store : Store) (ids : List ℕ) (panel : Panel) → Comes panel (after_round home store ids panel)
  left_comes home store [] panel = home_comes home store panel
  left_comes home store (id ∷ ids) panel = acts.same (scene_of panel.windowing)

  rest_comes : (rest : Rest) (store : Store) (panel : Panel) → Comes panel (next_rest rest store panel)
  rest_comes NoRest store panel = acts.same (scene_of panel.windowing)
  rest_comes (Destroys window doomed paths) store panel =
      both panel (without_last window panel) (doomed_next paths (destroys paths) doomed (without_last window panel)).0 (last_acts window panel)
      (doomed_comes paths (destroys paths) (destroys_come paths) doomed (without_last window panel))
  rest_comes (Rounds ids home) store panel = left_comes home store (still_waiting ids panel.timers.entries) panel

  by_next : (event : Option (List (List ℕ))) (rest : Rest) (store : Store) (panel : Panel) → Comes panel (next_event event rest store panel)
  by_next (Some (script ∷ scripts)) rest store panel = acts.same (scene_of panel.windowing)
  by_next (Some []) rest store panel = rest_comes rest store panel
  by_next None rest store panel = rest_comes rest store panel

  pub next_acts : (job : Job) (store : Store) (panel : Panel) → Acts panel (next job store panel).0
  next_acts job store panel = by_next job.event job.rest store panel

  pub start_acts : (job : Job) (panel : Panel) → Acts panel (start job panel).0
  start_acts job panel = by_screen panel (start job panel).0 (start_screen job panel)

  pub ended_acts : (code : Code) (text : List ℕ) (panel : Panel) (job : Job) → Acts panel (ended code text panel job).0
  ended_acts code text panel job = by_screen panel (ended code text panel job).0 (ended_screen code text panel job)
