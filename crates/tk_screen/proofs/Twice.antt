-- To lay out the windows of an application that are laid out changes nothing.
use Rattle.std.proofs.Common.{◌≡◌, ℕ, Bool, true, false, List, [], ◌∷◌, ◌++◌, Option, Some, None, refl, sym, ap, ◌∙◌, subst}
use Rattle.std.specs.Prelude.{◌==◌, codes, find, map, option_map}
use Rattle.std.specs.List.{filter_map, cons_option}
use Rattle.std.specs.Option.{option_map_or}
use Rattle.std.specs.Str.{bytes_eq}
use Rattle.std.proofs.lemmas.Bool.{eqb-true}
use Rattle.tcl_vars.specs.Store.{Store}
use Rattle.tk_base.specs.Numbered.{changed_at, numbered}
use Rattle.tk_base.specs.declared.rect.Rect.{Rect}
use Rattle.tk_packer.specs.Changes.{changes_of, laid_out_shapes, unlaid}
use Rattle.tk_packer.specs.Layout.{layout}
use Rattle.tk_packer.specs.Packs.{Packing}
use Rattle.tk_packer.specs.declared.changes.PlaceChange.{PlaceChange}
use Rattle.tk_packer.specs.declared.changes.PlaceChange.TheVariants.{Unmap, Configure, Map}
use Rattle.tk_packer.specs.declared.shape.Shape.{Shape}
use Rattle.tk_packer.proofs.Alike.{laid_out_twice}
use Rattle.tk_tree.proofs.Lists.{find_passes, some_same}
use Rattle.tk_tree.specs.Change.{with_place}
use Rattle.tk_tree.specs.Orders.{below, subtree}
use Rattle.tk_tree.specs.Own.{IsSound, Tree, at_path, is_child_of, window_at}
use Rattle.tk_tree.specs.Window.{number_of}
use Rattle.tk_tree.specs.declared.window.Window.{Window}
use Rattle.tk_widgets.specs.declared.widget.Widget.{Widget}
use Rattle.tk_screen.specs.Layout.{changes_due, laid_out_windowing, size_of}
use Rattle.tk_screen.specs.Own.{Windowing}
use Rattle.tk_screen.specs.Placing.{mapped_as, placed_at, with_changed, with_changes}
use Rattle.tk_screen.specs.Reading.{AllRead, AreApart, IsOfNone, IsRead}
use Rattle.tk_screen.specs.Shapes.{pre_order, shape_at, shape_by, shape_of, shapes}
use Rattle.tk_screen.specs.Widgets.{widget_at}
use Rattle.tk_screen.proofs.Apart.{Absent, Once, once_under}
use Rattle.tk_screen.proofs.Laid.{all_laid}

-- ── what a layout leaves of a window ──

-- a window without where it lies, and whether it is mapped
abbrev pub plain : Window → Window
plain window = record window { rectangle = record { x = 0; y = 0; width = 1; height = 1 }; mapped = false }

plain_changed : (number : ℕ) (place : Rect) (mapped : Bool) (windows : List Window) → map plain (changed_at number_of number (with_place place mapped) windows) ≡ map plain windows
plain_changed number place mapped [] = refl
plain_changed number place mapped (window ∷ windows) = by (window.number == number) refl (plain_changed number place mapped windows)
  where
    by : (b : Bool) → (window.number == number) ≡ b → map plain (changed_at number_of number (with_place place mapped) windows) ≡ map plain windows
        → map plain (changed_at number_of number (with_place place mapped) (window ∷ windows)) ≡ map plain (window ∷ windows)
    by true is rest = rw is (ap (λ ws. plain window ∷ ws) rest)
    by false is rest = rw is (ap (λ ws. plain window ∷ ws) rest)

plain_mapped : (number : ℕ) (mapped : Bool) (found : Option Window) (tree : Tree) → map plain (mapped_as number mapped found tree).windows ≡ map plain tree.windows
plain_mapped number mapped None tree = refl
plain_mapped number mapped (Some window) tree = plain_changed number window.rectangle mapped tree.windows

plain_placed : (number : ℕ) (place : Rect) (found : Option Window) (tree : Tree) → map plain (placed_at number place found tree).windows ≡ map plain tree.windows
plain_placed number place None tree = refl
plain_placed number place (Some window) tree = plain_changed number place window.mapped tree.windows

plain_one : (change : PlaceChange) (tree : Tree) → map plain (with_changed change tree).windows ≡ map plain tree.windows
plain_one (Unmap number) tree = plain_mapped number false (window_at number tree) tree
plain_one (Configure number place) tree = plain_placed number place (window_at number tree) tree
plain_one (Map number) tree = plain_mapped number true (window_at number tree) tree

pub plain_all : (changes : List PlaceChange) (tree : Tree) → map plain (with_changes changes tree).windows ≡ map plain tree.windows
unfolding with_changes
plain_all [] tree = refl
plain_all (change ∷ changes) tree = plain_all changes (with_changed change tree) ∙ plain_one change tree

-- ── what doesn't look at where a window lies ──

below_plain : (number : ℕ) (windows : List Window) → below number (map plain windows) ≡ below number windows
unfolding below
below_plain number [] = refl
below_plain number (window ∷ windows) = by (is_child_of number window) refl (below_plain window.number windows) (below_plain number windows)
  where
    by : (b : Bool) → is_child_of number window ≡ b → below window.number (map plain windows) ≡ below window.number windows → below number (map plain windows) ≡ below number windows
        → below number (map plain (window ∷ windows)) ≡ below number (window ∷ windows)
    by true is own others = rw is (ap (λ ns. window.number ∷ ns ++ below number (map plain windows)) own ∙ ap (λ ns. window.number ∷ below window.number windows ++ ns) others)
    by false is own others = rw is others

named_plain : (path : List ℕ) (windows : List Window) → find (λ window. bytes_eq path window.path) (map plain windows) ≡ option_map plain (find (λ window. bytes_eq path window.path) windows)
named_plain path [] = refl
named_plain path (window ∷ windows) = by (bytes_eq path window.path) refl (named_plain path windows)
  where
    by : (b : Bool) → bytes_eq path window.path ≡ b → find (λ window. bytes_eq path window.path) (map plain windows) ≡ option_map plain (find (λ window. bytes_eq path window.path) windows)
        → find (λ window. bytes_eq path window.path) (map plain (window ∷ windows)) ≡ option_map plain (find (λ window. bytes_eq path window.path) (window ∷ windows))
    by true is rest = rw is refl
    by false is rest = rw is rest

numbered_plain : (number : ℕ) (windows : List Window) → numbered number_of number (map plain windows) ≡ option_map plain (numbered number_of number windows)
numbered_plain number [] = refl
numbered_plain number (window ∷ windows) = by (window.number == number) refl (numbered_plain number windows)
  where
    by : (b : Bool) → (window.number == number) ≡ b → numbered number_of number (map plain windows) ≡ option_map plain (numbered number_of number windows)
        → numbered number_of number (map plain (window ∷ windows)) ≡ option_map plain (numbered number_of number (window ∷ windows))
    by true is rest = rw is refl
    by false is rest = rw is rest

module _ (old new : Tree) (alike : map plain new.windows ≡ map plain old.windows) where
  same_below : (number : ℕ) → below number new.windows ≡ below number old.windows
  same_below number = sym (below_plain number new.windows) ∙ ap (below number) alike ∙ below_plain number old.windows

  same_window : (number : ℕ) → option_map plain (window_at number new) ≡ option_map plain (window_at number old)
  same_window number = sym (numbered_plain number new.windows) ∙ ap (numbered number_of number) alike ∙ numbered_plain number old.windows

  pub same_path : (path : List ℕ) → option_map plain (at_path path new) ≡ option_map plain (at_path path old)
  same_path path = sym (named_plain path new.windows) ∙ ap (find (λ window. bytes_eq path window.path)) alike ∙ named_plain path old.windows

  abbrev under : Option Window → List ℕ
  under main = option_map_or (λ main. subtree main.number old) main []

  under_plain : (main : Option Window) → option_map_or (λ main. subtree main.number new) main [] ≡ under (option_map plain main)
  under_plain None = refl
  under_plain (Some main) = ap (λ ns. main.number ∷ ns) (same_below main.number)

  plain_under : (main : Option Window) → under (option_map plain main) ≡ under main
  plain_under None = refl
  plain_under (Some main) = refl

  pub same_order : pre_order new ≡ pre_order old
  unfolding pre_order
  same_order = under_plain (at_path (codes ".") new) ∙ ap under (same_path (codes ".")) ∙ plain_under (at_path (codes ".") old)

-- ── shapes ──

module _ (packs : Packing) (store : Store) where
  plain_shape : (window : Option Window) (widget : Option Widget) → option_map unlaid (shape_by packs store (option_map plain window) widget) ≡ option_map unlaid (shape_by packs store window widget)
  unfolding shape_of
  plain_shape None widget = refl
  plain_shape (Some window) None = refl
  plain_shape (Some window) (Some widget) = refl

  same_shape : (one other : Option Window) (widget : Option Widget) → option_map plain one ≡ option_map plain other
      → option_map unlaid (shape_by packs store one widget) ≡ option_map unlaid (shape_by packs store other widget)
  same_shape one other widget alike =
      sym (plain_shape one widget) ∙ ap (λ window. option_map unlaid (shape_by packs store window widget)) alike ∙ plain_shape other widget

all_unlaid : (f g : ℕ → Option Shape) → ((n : ℕ) → option_map unlaid (f n) ≡ option_map unlaid (g n)) → (ns : List ℕ) → map unlaid (filter_map f ns) ≡ map unlaid (filter_map g ns)
all_unlaid f g same [] = refl
all_unlaid f g same (n ∷ ns) = first (f n) (filter_map f ns) ∙ ap (λ (o : Option Shape). cons_option o (map unlaid (filter_map f ns))) (same n) ∙ ap (cons_option (option_map unlaid (g n))) (all_unlaid f g same ns) ∙ sym (first (g n) (filter_map g ns))
  where
    first : (o : Option Shape) (rest : List Shape) → map unlaid (cons_option o rest) ≡ cons_option (option_map unlaid o) (map unlaid rest)
    first None rest = refl
    first (Some shape) rest = refl

-- shapes that were read are told by the rest of what they are
same_read : (tree : Tree) (ones others : List Shape) → map unlaid ones ≡ map unlaid others → AllRead tree ones → AllRead tree others → ones ≡ others
unfolding AllRead
same_read tree [] [] same one other = refl
same_read tree [] (y ∷ others) same one other = absurd (cc)
same_read tree (x ∷ ones) [] same one other = absurd (cc)
same_read tree (x ∷ ones) (y ∷ others) same one other = first ∙ ap (λ ys. y ∷ ys) (same_read tree ones others rest one.1 other.1)
  where
    alike : unlaid x ≡ unlaid y
    alike = cc

    rest : map unlaid ones ≡ map unlaid others
    rest = cc

    window : one.0.window ≡ other.0.window
    window = some_same one.0.window other.0.window (sym one.0.there ∙ ap (λ (s : Shape). window_at s.number tree) alike ∙ other.0.there)

    rectangle : x.rectangle ≡ y.rectangle
    rectangle = sym one.0.rectangle ∙ ap (λ (w : Window). w.rectangle) window ∙ other.0.rectangle

    mapped : x.mapped ≡ y.mapped
    mapped = sym one.0.mapped ∙ ap (λ (w : Window). w.mapped) window ∙ other.0.mapped

    first : (x ∷ ones) ≡ (y ∷ ones)
    first = λ i. record (alike i) { rectangle = rectangle i; mapped = mapped i } ∷ ones

module _ (own : Windowing) (store : Store) where
  -- the window of a shape that was read, which has the shape's number
  pub read_by : (n : ℕ) (window : Option Window) (widget : Option Widget) → window_at n own.tree ≡ window → (shape : Shape) → shape_by own.packs store window widget ≡ Some shape → (shape.number ≡ n) × IsRead own.tree shape
  unfolding shape_of
  read_by n None widget is shape seen = absurd (cc)
  read_by n (Some window) None is shape seen = absurd (cc)
  read_by n (Some window) (Some widget) is shape seen =
      let here : shape_of own.packs store window widget ≡ shape = some_same (shape_of own.packs store window widget) shape seen in
      let number : window.number ≡ n = eqb-true window.number n (find_passes (λ w. w.number == n) window own.tree.windows is) in
      subst (λ (s : Shape). (s.number ≡ n) × IsRead own.tree s) here
      (number, record { window = window; there = ap (λ m. window_at m own.tree) number ∙ is; rectangle = refl; mapped = refl })

  all_read : (ns : List ℕ) → AllRead own.tree (filter_map (shape_at own store) ns)
  unfolding AllRead
  all_read [] = tt
  all_read (n ∷ ns) = by (shape_at own store n) refl (all_read ns)
    where
      by : (o : Option Shape) → shape_at own store n ≡ o → AllRead own.tree (filter_map (shape_at own store) ns) → AllRead own.tree (cons_option o (filter_map (shape_at own store) ns))
      by None is rest = rest
      by (Some shape) is rest = ((read_by n (window_at n own.tree) (widget_at n own.widgets) refl shape is).1, rest)

  pub none_absent : (n : ℕ) (ns : List ℕ) → Absent n ns → IsOfNone n (filter_map (shape_at own store) ns)
  unfolding IsOfNone
  none_absent n [] absent = tt
  none_absent n (m ∷ ns) absent = by (shape_at own store m) refl (none_absent n ns absent.1)
    where
      by : (o : Option Shape) → shape_at own store m ≡ o → IsOfNone n (filter_map (shape_at own store) ns) → IsOfNone n (cons_option o (filter_map (shape_at own store) ns))
      by None is rest = rest
      by (Some shape) is rest = ((λ same. absent.0 (sym (read_by m (window_at m own.tree) (widget_at m own.widgets) refl shape is).0 ∙ same)), rest)

  all_apart : (ns : List ℕ) → Once ns → AreApart (filter_map (shape_at own store) ns)
  unfolding AreApart
  all_apart [] once = tt
  all_apart (n ∷ ns) once = by (shape_at own store n) refl (all_apart ns once.1)
    where
      by : (o : Option Shape) → shape_at own store n ≡ o → AreApart (filter_map (shape_at own store) ns) → AreApart (cons_option o (filter_map (shape_at own store) ns))
      by None is rest = rest
      by (Some shape) is rest =
          (subst (λ m. IsOfNone m (filter_map (shape_at own store) ns)) (sym (read_by n (window_at n own.tree) (widget_at n own.widgets) refl shape is).0) (none_absent n ns once.0), rest)

  once_in_order : IsSound own.tree → Once (pre_order own.tree)
  unfolding pre_order
  once_in_order sound = by (at_path (codes ".") own.tree)
    where
      by : (main : Option Window) → Once (option_map_or (λ main. subtree main.number own.tree) main [])
      by None = tt
      by (Some main) = once_under main.number own.tree sound

  read : AllRead own.tree (shapes own store)
  unfolding shapes
  read = all_read (pre_order own.tree)

  pub apart : IsSound own.tree → AreApart (shapes own store)
  unfolding shapes
  apart sound = all_apart (pre_order own.tree) (once_in_order sound)

-- ── laid out twice ──

laid_unlaid : (ones : List Shape) (places : List (Option Rect)) → map unlaid (laid_out_shapes ones places) ≡ map unlaid ones
unfolding laid_out_shapes
laid_unlaid [] places = refl
laid_unlaid (shape ∷ ones) [] = refl
laid_unlaid (shape ∷ ones) (None ∷ places) = ap (λ ss. unlaid shape ∷ ss) (laid_unlaid ones places)
laid_unlaid (shape ∷ ones) (Some rect ∷ places) = ap (λ ss. unlaid shape ∷ ss) (laid_unlaid ones places)

module _ (own : Windowing) (store : Store) (sound : IsSound own.tree) where
  before : List Shape
  before = shapes own store

  places : List (Option Rect)
  places = layout (size_of own) own.packs.packs before

  after : Windowing
  after = laid_out_windowing own store

  -- the windows as the layout sees them then
  seen_after : shapes (record own { tree = with_changes (changes_of before places) own.tree }) store ≡ laid_out_shapes before places
  unfolding before places shapes
  seen_after =
      let new : Windowing = record own { tree = with_changes (changes_of before places) own.tree } in
      let alike = plain_all (changes_of before places) own.tree in
      same_read new.tree (shapes new store) (laid_out_shapes before places)
      (ap (λ ns. map unlaid (filter_map (shape_at new store) ns)) (same_order own.tree new.tree alike)
      ∙ all_unlaid (shape_at new store) (shape_at own store) (λ n. same_shape own.packs store (window_at n new.tree) (window_at n own.tree) (widget_at n own.widgets) (same_window own.tree new.tree alike n)) (pre_order own.tree)
      ∙ sym (laid_unlaid before places))
      (read new store)
      (all_laid own.tree before places (read own store) (apart own store sound))

  pub laid_seen : shapes (laid_out_windowing own store) store ≡ laid_out_shapes (shapes own store) (layout (size_of own) own.packs.packs (shapes own store))
  unfolding changes_due laid_out_windowing before places
  laid_seen = seen_after

  pub laid_twice : changes_due (laid_out_windowing own store) store ≡ []
  unfolding changes_due laid_out_windowing before places
  laid_twice =
      ap (λ (ss : List Shape). changes_of ss (layout (size_of own) own.packs.packs ss)) seen_after ∙ laid_out_twice (size_of own) own.packs.packs before

-- a layout that changes nothing
pub nothing_laid : (own : Windowing) (store : Store) → changes_due own store ≡ [] → laid_out_windowing own store ≡ own
unfolding laid_out_windowing with_changes
nothing_laid own store laid = ap (λ changes. record own { tree = with_changes changes own.tree }) laid
