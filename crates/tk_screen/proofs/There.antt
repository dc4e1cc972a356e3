-- The windows that a layout changes are there.
use Rattle.std.proofs.Common.{◌≡◌, ℕ, Bool, true, false, List, [], ◌∷◌, ◌++◌, Option, None, Some, IsSome, refl, sym, ap, ◌∙◌, subst}
use Rattle.std.specs.Prelude.{◌==◌, if◌then◌else◌, is_some}
use Rattle.std.specs.List.{filter_map, cons_option}
use Rattle.std.proofs.lemmas.Bool.{eqb-true}
use Rattle.tcl_vars.specs.Store.{Store}
use Rattle.tk_base.specs.declared.rect.Rect.{Rect}
use Rattle.tk_packer.specs.Changes.{changes_at, changes_of, is_same_rect}
use Rattle.tk_packer.specs.declared.changes.PlaceChange.{PlaceChange}
use Rattle.tk_packer.specs.declared.changes.PlaceChange.TheVariants.{Unmap, Configure, Map}
use Rattle.tk_packer.specs.declared.shape.Shape.{Shape}
use Rattle.tk_packer.specs.Packs.{Packing}
use Rattle.tk_screen.specs.Placing.{AreThere, with_changes}
use Rattle.tk_tree.specs.declared.window.Window.{Window}
use Rattle.tk_tree.specs.Own.{Tree, window_at}
use Rattle.tk_tree.proofs.Lists.{find_passes, some_same}
use Rattle.tk_widgets.specs.declared.widget.Widget.{Widget}
use Rattle.tk_screen.specs.Layout.{changes_due, laid_out_windowing}
use Rattle.tk_screen.specs.Own.{Windowing}
use Rattle.tk_screen.specs.Shapes.{shape_at, shape_by, shape_of, shapes, pre_order}
use Rattle.tk_screen.specs.Widgets.{widget_at}

module _ (tree : Tree) where
  abbrev pub AllThere : List Shape → Type 0
  AllThere [] = Unit {0}
  AllThere (shape ∷ all) = IsSome (window_at shape.number tree) × AllThere all

  both_there : (a b : List PlaceChange) → AreThere a tree → AreThere b tree → AreThere (a ++ b) tree
  unfolding AreThere
  both_there [] b x y = y
  both_there (change ∷ a) b x y = (x.0, both_there a b x.1 y)

  unmap_there : (b : Bool) (n : ℕ) → IsSome (window_at n tree) → AreThere (if b then Unmap n ∷ [] else []) tree
  unfolding AreThere
  unmap_there true n there = (there, tt)
  unmap_there false n there = tt

  configure_there : (b : Bool) (n : ℕ) (rect : Rect) → IsSome (window_at n tree) → AreThere (if b then [] else Configure n rect ∷ []) tree
  unfolding AreThere
  configure_there true n rect there = tt
  configure_there false n rect there = (there, tt)

  map_there : (b : Bool) (n : ℕ) → IsSome (window_at n tree) → AreThere (if b then [] else Map n ∷ []) tree
  unfolding AreThere
  map_there true n there = tt
  map_there false n there = (there, tt)

  one_there : (shape : Shape) (place : Option Rect) → IsSome (window_at shape.number tree) → AreThere (changes_at shape place) tree
  one_there shape None there = unmap_there shape.mapped shape.number there
  one_there shape (Some rect) there =
      both_there _ _ (configure_there (is_same_rect shape.rectangle rect) shape.number rect there) (map_there shape.mapped shape.number there)

  changes_there : (all : List Shape) (places : List (Option Rect)) → AllThere all → AreThere (changes_of all places) tree
  unfolding AreThere changes_of
  changes_there [] places there = tt
  changes_there (shape ∷ all) [] there = tt
  changes_there (shape ∷ all) (place ∷ places) there = both_there _ _ (one_there shape place there.0) (changes_there all places there.1)

  shape_there : (packs : Packing) (store : Store) (n : ℕ) (found : Option Window) (widget : Option Widget) (shape : Shape) → window_at n tree ≡ found → shape_by packs store found widget ≡ Some shape → IsSome (window_at shape.number tree)
  unfolding shape_of
  shape_there packs store n None widget shape is told = absurd (cc)
  shape_there packs store n (Some window) None shape is told = absurd (cc)
  shape_there packs store n (Some window) (Some widget) shape is told =
      let its_number : shape.number ≡ window.number = ap (λ s. s.number) (sym (some_same (shape_of packs store window widget) shape told)) in
      let same : shape.number ≡ n = its_number ∙ eqb-true window.number n (find_passes (λ w. w.number == n) window tree.windows is) in
      ap (λ m. is_some (window_at m tree)) same ∙ ap is_some is

module _ (own : Windowing) (store : Store) where
  one_more : (n : ℕ) (told : Option Shape) (rest : List Shape) → shape_at own store n ≡ told → AllThere own.tree rest → AllThere own.tree (cons_option told rest)
  one_more n None rest is there = there
  one_more n (Some shape) rest is there = (shape_there own.tree own.packs store n (window_at n own.tree) (widget_at n own.widgets) shape refl is, there)

  all_there : (numbers : List ℕ) → AllThere own.tree (filter_map (shape_at own store) numbers)
  all_there [] = tt
  all_there (n ∷ numbers) = one_more n (shape_at own store n) _ refl (all_there numbers)

  -- each window that a layout changes is there
  pub due_there : (places : List (Option Rect)) → AreThere (changes_of (shapes own store) places) own.tree
  unfolding shapes
  due_there places = changes_there own.tree (shapes own store) places (all_there (pre_order own.tree))

-- ── a layout written ──
pub there_by : (changes items : List PlaceChange) (own : Windowing) (store : Store) → changes ≡ items → items ≡ changes_due own store → AreThere changes own.tree
unfolding changes_due
there_by changes items own store same is = subst (λ cs. AreThere cs own.tree) (sym (same ∙ is)) (due_there own store _)

pub laid_by : (own : Windowing) (tree : Tree) (changes : List PlaceChange) (store : Store) → changes ≡ changes_due own store → tree ≡ with_changes changes own.tree → record own { tree = tree } ≡ laid_out_windowing own store
unfolding laid_out_windowing
laid_by own tree changes store is tree_is = ap (λ (t : Tree). record own { tree = t }) (tree_is ∙ ap (λ cs. with_changes cs own.tree) is)
