-- A window that may look otherwise is touched.
use Rattle.std.proofs.Common.{◌≡◌, ◌≢◌, ℕ, Bool, true, false, List, [], ◌∷◌, Option, None, Some, nat_eq, refl, sym, ap, ◌∙◌, subst}
use Rattle.std.specs.Prelude.{◌==◌, Result, Ok, Err, is_some, option_and_then}
use Rattle.std.specs.BTreeSet.{contains}
use Rattle.std.specs.Map.{lookup, set_value}
use Rattle.std.specs.Option.{option_map_or}
use Rattle.std.specs.Ordering.{nat_cmp}
use Rattle.std.proofs.lemmas.Bool.{eqb-true}
use Rattle.tcl_vars.specs.Store.{Store}
use Rattle.tk_packer.specs.declared.packed.Packed.{Packed}
use Rattle.tk_packer.specs.Standing.{Inputs}
use Rattle.tk_tree.proofs.Lists.{find_passes, some_same}
use Rattle.tk_tree.specs.declared.window.Window.{Window}
use Rattle.tk_tree.specs.Own.{window_at}
use Rattle.tk_widgets.specs.Commands.{made, variable_write}
use Rattle.tk_widgets.specs.declared.outcome.WidgetChange.{WidgetChange}
use Rattle.tk_widgets.specs.declared.widget.Widget.{Widget}
use Rattle.tk_screen.specs.Changes.{changed, changed_after, stays, wrote}
use Rattle.tk_screen.specs.declared.marks.Mark.{Mark}
use Rattle.tk_screen.specs.declared.marks.Marks.{Marks}
use Rattle.tk_screen.specs.declared.screen.Screen.{Screen}
use Rattle.tk_screen.specs.Marks.{mark_of, IsTouched, IsTouchedMark, LeavesOtherMarks}
use Rattle.tk_screen.specs.Own.{Windowing}
use Rattle.tk_screen.specs.Reads.{IsKept, Reads, read_at, read_of}
use Rattle.tk_screen.specs.Seen.{AllMarked, IsMarked, IsSeen, IsSettled}
use Rattle.tk_screen.specs.Shapes.{pre_order, shape_at, shape_by, shape_of, shapes}
use Rattle.tk_screen.specs.Shared.{own_of, LeavesOthers}
use Rattle.tk_screen.specs.Touch.{IsTouch}
use Rattle.tk_screen.specs.Widgets.{OwnWidgets, made_at, told_of, widget_at}
use Rattle.tk_screen.proofs.Alike.{Moves, all_moved}
use Rattle.tk_screen.proofs.KeptMarks.{all_marked}

-- ── what is seen stays seen ──

module _ (own : Windowing) (widgets : OwnWidgets) (store : Store) (touched after : ℕ → Bool) (reads : Reads) (number : ℕ) (others : (m : ℕ) → m ≢ number → widget_at m widgets ≡ widget_at m own.widgets) (some : (m : ℕ) → is_some (widget_at m widgets) ≡ is_some (widget_at m own.widgets)) (fewer : (m : ℕ) → after m ≡ false → (m ≢ number) × (touched m ≡ false)) where
  abbrev now : Windowing
  now = record own { widgets = widgets }

  moves : (m : ℕ) (window : Option Window) (was is : Option Widget) → window_at m own.tree ≡ window → widget_at m own.widgets ≡ was → widget_at m widgets ≡ is
      → Moves touched after (IsKept own store reads) (IsKept now store reads) m (shape_by own.packs store window was) (shape_by own.packs store window is)
  unfolding shape_of
  moves m None was is there had has = tt
  moves m (Some window) None None there had has = tt
  moves m (Some window) None (Some new) there had has = let same : true ≡ false = sym (ap is_some has) ∙ some m ∙ ap is_some had in absurd (cc)
  moves m (Some window) (Some old) None there had has = let same : false ≡ true = sym (ap is_some has) ∙ some m ∙ ap is_some had in absurd (cc)
  moves m (Some window) (Some old) (Some new) there had has = (is_it, is_it, (λ fresh. let told = fewer m fresh in (told.1, (λ kept. (same (others m told.0), (λ read is. kept read (ap (option_and_then (read_of store)) (sym (others m told.0)) ∙ is)))))))
    where
      is_it : window.number ≡ m
      is_it = eqb-true window.number m (find_passes (λ w. w.number == m) window own.tree.windows there)

      same : widget_at m widgets ≡ widget_at m own.widgets → shape_of own.packs store window old ≡ shape_of own.packs store window new
      same alike = ap (shape_of own.packs store window) (some_same old new (sym had ∙ sym alike ∙ has))

  seen_touched : (packed : List Packed) (layout : Inputs) → IsSeen own packed store touched reads layout → IsSeen now packed store after reads layout
  unfolding shapes
  seen_touched packed layout seen = record {
    size = seen.size;
    packs = seen.packs;
    alike = all_moved touched after (IsKept own store reads) (IsKept now store reads) (shape_at own store) (shape_at now store)
        (λ m. moves m (window_at m own.tree) (widget_at m own.widgets) (widget_at m widgets) refl refl refl) (pre_order own.tree) layout.shapes seen.alike;
  }

-- ── marks ──

marked_touched : (number : ℕ) (own later : Windowing) (old new : Mark) → IsTouch number own later → IsTouchedMark number old new → IsMarked old own → IsMarked new later
marked_touched number own later old new touch is marked =
    let packed : List Packed = marked.1.0 in
    let seen = seen_touched own touch.0 marked.0 (contains nat_cmp old.touched) (contains nat_cmp new.touched) old.reads.entries number touch.2 touch.3 is.touched packed old.layout marked.1.1.1 in (
      marked.0,
      (
        packed,
        (
          (λ same. marked.1.1.0 (sym is.repacked ∙ same) ∙ ap (λ (w : Windowing). w.packs.packs) (sym touch.1)),
          subst (λ (w : Windowing). IsSeen w packed marked.0 (contains nat_cmp new.touched) new.reads.entries new.layout) (sym touch.1)
              (subst (λ (l : Inputs). IsSeen (record own { widgets = touch.0 }) packed marked.0 (contains nat_cmp new.touched) new.reads.entries l) (sym is.layout)
              (subst (λ (r : Reads). IsSeen (record own { widgets = touch.0 }) packed marked.0 (contains nat_cmp new.touched) r old.layout) (sym is.reads) seen)),
          subst IsSettled (sym is.layout) marked.1.1.2,
        ),
      ),
    )

-- a mark by which the only window is touched that may look otherwise
pub touched_marked : (slot number : ℕ) (old new : Marks) (before now : Screen) → AllMarked old before → IsTouched number (mark_of slot old) (mark_of slot new) → LeavesOtherMarks slot old new
    → LeavesOthers slot before now → IsTouch number (own_of slot before) (own_of slot now) → AllMarked new now
touched_marked slot number old new before now marked touched marks parts touch =
    all_marked slot old new before now marked marks parts (λ mark told. by mark (mark_of slot old) refl (subst (IsTouched number (mark_of slot old)) told touched))
  where
    by : (mark : Mark) (was : Option Mark) → mark_of slot old ≡ was → IsTouched number (mark_of slot old) (Some mark) → IsMarked mark (own_of slot now)
    by mark None is touch_of = absurd (subst (λ (o : Option Mark). IsTouched number o (Some mark)) is touch_of)
    by mark (Some was) is touch_of =
        marked_touched number (own_of slot before) (own_of slot now) was mark touch (subst (λ (o : Option Mark). IsTouched number o (Some mark)) is touch_of) (marked slot was is)

-- ── a change of a widget ──

pub touch_none : (number : ℕ) (own : Windowing) → IsTouch number own own
touch_none number own = (own.widgets, refl, (λ other differ. refl), (λ other. refl))

set_some : (number other : ℕ) (widgets : OwnWidgets) (widget : Widget) → is_some (widget_at other (set_value (nat_eq number) widgets widget)) ≡ is_some (widget_at other widgets)
set_some number other [] widget = refl
set_some number other (entry ∷ widgets) widget = by (nat_eq number entry.0) (nat_eq other entry.0) refl refl (set_some number other widgets widget)
  where
    by : (b c : Bool) → nat_eq number entry.0 ≡ b → nat_eq other entry.0 ≡ c → is_some (widget_at other (set_value (nat_eq number) widgets widget)) ≡ is_some (widget_at other widgets)
        → is_some (widget_at other (set_value (nat_eq number) (entry ∷ widgets) widget)) ≡ is_some (widget_at other (entry ∷ widgets))
    by true true here it rest = rw (here, it) refl
    by true false here it rest = rw (here, it) refl
    by false true here it rest = rw (here, it) refl
    by false false here it rest = rw (here, it) rest

set_others : (number other : ℕ) (widgets : OwnWidgets) (widget : Widget) → other ≢ number → widget_at other (set_value (nat_eq number) widgets widget) ≡ widget_at other widgets
set_others number other [] widget differ = refl
set_others number other (entry ∷ widgets) widget differ = by (nat_eq number entry.0) (nat_eq other entry.0) refl refl (set_others number other widgets widget differ)
  where
    by : (b c : Bool) → nat_eq number entry.0 ≡ b → nat_eq other entry.0 ≡ c → widget_at other (set_value (nat_eq number) widgets widget) ≡ widget_at other widgets
        → widget_at other (set_value (nat_eq number) (entry ∷ widgets) widget) ≡ widget_at other (entry ∷ widgets)
    by true true here it rest = absurd (differ (eqb-true other entry.0 it ∙ sym (eqb-true number entry.0 here)))
    by true false here it rest = rw (here, it) refl
    by false true here it rest = rw (here, it) refl
    by false false here it rest = rw (here, it) rest

-- the widgets once the change is made of one that was found
abbrev told_by : ℕ → WidgetChange → OwnWidgets → Option Widget → OwnWidgets
told_by number change widgets found = (option_map_or (λ widget. told_of number widgets (made change widget)) found (record { widgets = widgets; act = None })).widgets

pub touch_made : (number : ℕ) (change : WidgetChange) (own : Windowing) → IsTouch number own (record own { widgets = (made_at number change own.widgets).widgets })
touch_made number change own = (told_by number change own.widgets (widget_at number own.widgets), refl, (λ other differ. others other differ (widget_at number own.widgets)), (λ other. some other (widget_at number own.widgets)))
  where
    others : (other : ℕ) → other ≢ number → (found : Option Widget) → widget_at other (told_by number change own.widgets found) ≡ widget_at other own.widgets
    others other differ None = refl
    others other differ (Some widget) = set_others number other own.widgets (made change widget).widget differ

    some : (other : ℕ) (found : Option Widget) → is_some (widget_at other (told_by number change own.widgets found)) ≡ is_some (widget_at other own.widgets)
    some other None = refl
    some other (Some widget) = set_some number other own.widgets (made change widget).widget

pub touch_changed : (number : ℕ) (change : WidgetChange) (own : Windowing) (store : Store) → IsTouch number own (changed number change own store).own
unfolding changed
touch_changed number change own store = by (widget_at number own.widgets)
  where
    after : (wrote : Result Store (List ℕ)) → IsTouch number own (changed_after number change own store wrote).own
    after (Err text) = touch_none number own
    after (Ok new) = touch_made number change own

    by : (found : Option Widget) → IsTouch number own (option_map_or (λ widget. changed_after number change own store (wrote (variable_write change widget) store)) found (stays own store None)).own
    by None = touch_none number own
    by (Some widget) = after (wrote (variable_write change widget) store)
