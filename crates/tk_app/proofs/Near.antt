-- The windows of an application lie near one another, whatever it does.
use Rattle.std.proofs.Common.{◌≡◌, inl, inr, ℕ, ◌+◌, ◌*◌, ◌≤◌, Bool, true, false, cond, List, [], ◌∷◌, ◌++◌, length, Option, Some, None, refl, sym, subst, arith}
use Rattle.std.specs.Prelude.{◌==◌, map, reverse, sum_by}
use Rattle.std.specs.List.{AllByRecursion}
use Rattle.std.specs.Option.{option_map_or}
use Rattle.std.proofs.lemmas.List.{length-reverse}
use Rattle.std.proofs.lemmas.List.Sums.{sum_by-cons}
use Rattle.tk_base.specs.declared.local_event.LocalEvent.{LocalEvent}
use Rattle.tk_base.specs.declared.local_event.LocalKind.{LocalKind}
use Rattle.tk_base.specs.declared.local_event.LocalKind.TheVariants as kinds
use Rattle.tk_base.specs.declared.rect.Rect.{Rect}
use Rattle.tk_base.specs.Numbered.{numbered}
use Rattle.tk_base.specs.Rect.{most_pixels}
use Rattle.tk_panel.specs.Deliver.{with_rectangle}
use Rattle.tk_panel.specs.Fresh.{fresh as fresh_panel}
use Rattle.tk_screen.specs.declared.toplevel.Toplevel.{Toplevel}
use Rattle.tk_screen.specs.Layout.{size_of}
use Rattle.tk_screen.specs.Own.{Windowing, with_size}
use Rattle.tk_tree.specs.Change.{with_place}
use Rattle.tk_tree.specs.Corners.{across, asked, corner, down}
use Rattle.tk_tree.specs.Create.{parent_number}
use Rattle.tk_tree.specs.declared.window.Window.{Window}
use Rattle.tk_tree.specs.Own.{most_windows, window_at, with_change}
use Rattle.tk_tree.specs.Ways.{way_to, way_up}
use Rattle.tk_tree.specs.Window.{new_window, number_of}
use Rattle.tk_tree.proofs.Corners.{few_up}
use Rattle.tk_app.specs.Application.{Application}
use Rattle.tk_app.specs.Near.{AreNear, CornersNear, EndsNear, IsNear, ItemsKeepNear, NearStays, RunsNear, ScriptsKeepNear}
use Rattle.tk_app.specs.Ranges.{IsEventInRange, IsKindInRange, IsSize}
use Rattle.tk_app.specs.Seen.{Meaning}
use Rattle.tk_app.specs.SettleJob.{update_meaning}
use Rattle.tk_app.proofs.ByEquations.{updates}
use Rattle.tk_app.proofs.BySettle.{by_settle}
use Rattle.tk_app.proofs.Items.{items_keep, scripts_keep}
use Rattle.tk_app.proofs.Sound.{each_gone, jobs_so, others, sound_acts}
use Rattle.tk_app.proofs.SoundParts.{IsKept, TakesSize, delivered_so, first_sound, settled_so, started_so}
use Rattle.tk_app.proofs.Trees.{HoldsOnScene, KeepsPlace, MayLie, Scene, placing_keeps}

-- ── windows that end near ──

abbrev AllNear : List Window → Type 0
AllNear windows = AllByRecursion EndsNear windows

abbrev RectNear : Rect → Type 0
RectNear rect = (rect.x + rect.width ≤ most_pixels) × (rect.y + rect.height ≤ most_pixels)

near_found : (n : ℕ) (windows : List Window) (window : Window) → AllNear windows → numbered number_of n windows ≡ Some window → EndsNear window
near_found n [] window near is = absurd (cc)
near_found n (first ∷ windows) window near is = by (first.number == n) (λ later. near_found n windows window near.1 later) is
  where
    IsFound : Option Window → Type 0
    IsFound None = Unit {0}
    IsFound (Some found) = EndsNear found

    by : (b : Bool) → (numbered number_of n windows ≡ Some window → EndsNear window) → cond b (Some first) (numbered number_of n windows) ≡ Some window → EndsNear window
    by true rest here = subst IsFound here near.0
    by false rest later = rest later

-- the window with a number is another
near_changed : (n : ℕ) (change : Window → Window) (windows : List Window) → ((window : Window) → EndsNear window → EndsNear (change window)) → AllNear windows
    → AllNear (map (λ (window : Window). cond (window.number == n) (change window) window) windows)
near_changed n change [] keeps near = tt
near_changed n change (window ∷ windows) keeps near = (by (window.number == n), near_changed n change windows keeps near.1)
  where
    by : (b : Bool) → EndsNear (cond b (change window) window)
    by true = keeps window near.0
    by false = near.0

near_gone : (n : ℕ) (windows : List Window) → AllNear windows → AllNear (others n windows)
near_gone n = each_gone n AllNear EndsNear (λ window windows held. held) (λ window windows one rest. (one, rest))

near_more : (windows : List Window) (new : Window) → AllNear windows → EndsNear new → AllNear (windows ++ new ∷ [])
near_more [] new near is = (is, tt)
near_more (window ∷ windows) new near is = (near.0, near_more windows new near.1 is)

-- ── they stay so ──

abbrev pub Near : Scene → Type 0
Near scene = IsNear scene.0 scene.1.1

abbrev pub StaysNear : Scene → Scene → Type 0
StaysNear old new = Near old → Near new

rect_near : (scene : Scene) (place : Rect) → Near scene → MayLie scene place → RectNear place
rect_near scene place held (inl ends) =
    let right = ends.right in
    let bottom = ends.bottom in
    let wide = held.size_fits.0 in
    let high = held.size_fits.1 in
    (omega (arith, right, wide), omega (arith, bottom, high))
rect_near scene place held (inr its) = subst RectNear (sym its.its) (near_found its.number scene.0.windows its.window held.near its.there)

changed_near : (number : ℕ) (change : Window → Window) (scene : Scene) → KeepsPlace change → ((window : Window) → EndsNear window → EndsNear (change window)) → Near scene
    → Near (with_change number change scene.0, scene.1)
changed_near number change scene keeps_place keeps held = record {
  sound = sound_acts.changed number change scene.0 keeps_place held.sound;
  size_fits = held.size_fits;
  near = near_changed number change scene.0.windows keeps held.near;
}

pub near_acts : HoldsOnScene StaysNear
near_acts = record {
  same = λ scene held. held;
  after = λ first mid last one other held. other (one held);
  changed = λ number change scene keeps_place keeps_rectangle held.
      changed_near number change scene keeps_place (λ window near. subst RectNear (sym (keeps_rectangle window)) near) held;
  placed = λ number place is_mapped scene may held.
      changed_near number (with_place place is_mapped) scene (placing_keeps place is_mapped) (λ window near. rect_near scene place held may) held;
  gone = λ number scene held. record {
    sound = sound_acts.gone number scene.0 held.sound;
    size_fits = held.size_fits;
    near = near_gone number scene.0.windows held.near;
  };
  made = λ path kind scene named may held. record {
    sound = sound_acts.made path kind scene.0 named may held.sound;
    size_fits = held.size_fits;
    near = near_more scene.0.windows (new_window scene.0.next_number path kind (parent_number path scene.0)) held.near (omega arith, omega arith);
  };
  packed = λ words scene held. record { sound = held.sound; size_fits = held.size_fits; near = held.near };
}

-- ── whatever an application does ──

pub scripts_keep_near : ScriptsKeepNear
scripts_keep_near = scripts_keep Near near_acts (λ scene held. held.sound)

pub items_keep_near : ItemsKeepNear
items_keep_near = items_keep Near near_acts (λ scene held. held.sound)

first_near : (name : List ℕ) (size : ℕ × ℕ) → IsSize size.0 size.1 → AreNear (fresh_panel name size 0).windowing
unfolding fresh_panel
first_near name size fits = record { sound = first_sound name size; size_fits = fits; near = ((omega arith, omega arith), tt) }

sized_near : (size : ℕ × ℕ) (own : Windowing) → IsSize size.0 size.1 → AreNear own → AreNear (with_size size own)
sized_near size own fits held = by own.toplevel
  where
    by : (toplevel : Option Toplevel) → IsNear own.tree (size_of (with_size size (record own { toplevel = toplevel })))
    by None = record { sound = held.sound; size_fits = (omega arith, omega arith); near = held.near }
    by (Some toplevel) = record { sound = held.sound; size_fits = fits; near = held.near }

takes_near : (event : LocalEvent) → IsEventInRange event → TakesSize Near event
takes_near event in_range panel held = by event.kind in_range
  where
    by : (kind : LocalKind) → IsKindInRange kind → AreNear (with_rectangle kind panel).windowing
    by (kinds.Size width height) is = sized_near (width, height) panel.windowing is held
    by (kinds.Position x y) is = held
    by (kinds.Press button x y) is = held
    by (kinds.Release button x y) is = held
    by (kinds.Keydown key) is = held
    by (kinds.Keyup key) is = held
    by kinds.FocusIn is = held
    by kinds.FocusOut is = held

near_kept : IsKept Near
near_kept = record { script = λ state held script. scripts_keep_near update_meaning updates 200 script state held; job = jobs_so Near near_acts 200 }

pub near_stays : {M : Type 0} (answer : M → Meaning) → NearStays answer
near_stays {M} answer update is_update settle meets = record {
  fresh = λ spec fits runs. first_near spec.name (spec.width, spec.height) fits;
  started = λ moment script application held.
      subst (λ (next : Application M). RunsNear next) ((by_settle answer).started update is_update settle meets moment script application held.sound)
      (started_so Near near_kept answer moment script application held);
  delivered = λ event application in_range held. delivered_so Near near_kept answer event application (takes_near event in_range) held;
  settled = λ moment application held.
      subst (λ (next : Application M). RunsNear next) ((by_settle answer).settled update is_update settle meets moment application (λ runs. (held runs).sound))
      (settled_so Near near_kept answer moment application held);
}

-- ── corners ──

sum_small : (f : ℕ → ℕ) → ((n : ℕ) → f n ≤ most_pixels) → (ns : List ℕ) → sum_by f ns ≤ most_pixels * length ns
sum_small f few [] = omega arith
sum_small f few (n ∷ ns) = (let all = sum_by-cons f n ns in let rest = sum_small f few ns in let one = few n in omega (arith, all, rest, one))

module _ (own : Windowing) (held : AreNear own) where
  asked_small : (part : Window → ℕ) → ((window : Window) → EndsNear window → part window ≤ most_pixels) → (number : ℕ) → asked part own.tree number ≤ most_pixels
  asked_small part small number = by (window_at number own.tree) refl
    where
      by : (window : Option Window) → window_at number own.tree ≡ window → option_map_or part window 0 ≤ most_pixels
      by None is = omega arith
      by (Some window) is = small window (near_found number own.tree.windows window held.near is)

  way_small : (f : ℕ → ℕ) → ((n : ℕ) → f n ≤ most_pixels) → (number : ℕ) → sum_by f (way_to number own.tree) ≤ most_pixels * most_windows
  way_small f few number =
      let small = sum_small f few (way_to number own.tree) in
      let short = few_up own.tree held.sound (Some number) in
      let same = length-reverse (way_up (Some number) (reverse own.tree.windows)) in
      omega (arith, small, short, same)

  corner_near : (number : ℕ) → ((corner number own.tree).x ≤ most_pixels * most_windows) × ((corner number own.tree).y ≤ most_pixels * most_windows)
  unfolding corner
  corner_near number = (
    way_small (across own.tree) (asked_small (λ w. w.rectangle.x) (λ w near. omega (arith, near.0))) number,
    way_small (down own.tree) (asked_small (λ w. w.rectangle.y) (λ w near. omega (arith, near.1))) number,
  )

pub corners_near : CornersNear
corners_near own number held = corner_near own held number
