-- What a layout leaves of the windows of an application.
use Rattle.std.proofs.Common.{◌≡◌, ℕ, suc, ◌<◌, ◌≤◌, true, false, List, [], ◌∷◌, length, Option, Some, None, refl, sym, ap, ◌∙◌, subst}
use Rattle.std.specs.Prelude.{is_none, map, option_map}
use Rattle.tcl_vars.specs.Store.{Store}
use Rattle.tk_base.specs.Numbered.{AllAbove, AllBelow, IsRising}
use Rattle.tk_packer.specs.declared.changes.PlaceChange.{PlaceChange}
use Rattle.tk_packer.specs.declared.changes.PlaceChange.TheVariants.{Unmap, Configure, Map}
use Rattle.tk_tree.specs.Own.{HasOlderParent, HaveOlderParents, IsSound, Tree, at_path, most_windows, window_at}
use Rattle.tk_tree.specs.Window.{number_of}
use Rattle.tk_tree.specs.declared.window.Window.{Window}
use Rattle.tk_screen.proofs.Twice.{plain, plain_all, same_path}
use Rattle.tk_screen.specs.Layout.{changes_due, laid_out_windowing}
use Rattle.tk_screen.specs.Own.{Windowing}
use Rattle.tk_screen.specs.Placing.{mapped_as, placed_at, with_changed, with_changes}

-- there is a window of a path, or none, as before
pub laid_path : (own : Windowing) (store : Store) (path : List ℕ) → is_none (at_path path (laid_out_windowing own store).tree) ≡ is_none (at_path path own.tree)
unfolding laid_out_windowing
laid_path own store path =
    let new : Tree = with_changes (changes_due own store) own.tree in
    sym (by (at_path path new)) ∙ ap is_none (same_path own.tree new (plain_all (changes_due own store) own.tree) path) ∙ by (at_path path own.tree)
  where
    by : (window : Option Window) → is_none (option_map plain window) ≡ is_none window
    by None = refl
    by (Some window) = refl

above_plain : (n : ℕ) (windows : List Window) → AllAbove number_of n (map plain windows) ≡ AllAbove number_of n windows
above_plain n [] = refl
above_plain n (window ∷ windows) = ap (λ rest. (n < window.number) × rest) (above_plain n windows)

rising_plain : (windows : List Window) → IsRising number_of (map plain windows) ≡ IsRising number_of windows
rising_plain [] = refl
rising_plain (window ∷ windows) = ap (λ above. above × IsRising number_of (map plain windows)) (above_plain window.number windows) ∙ ap (λ rest. AllAbove number_of window.number windows × rest) (rising_plain windows)

below_same : (n : ℕ) (windows : List Window) → AllBelow number_of n (map plain windows) ≡ AllBelow number_of n windows
below_same n [] = refl
below_same n (window ∷ windows) = ap (λ rest. (window.number < n) × rest) (below_same n windows)

parents_plain : (windows : List Window) → HaveOlderParents (map plain windows) ≡ HaveOlderParents windows
parents_plain [] = refl
parents_plain (window ∷ windows) = ap (λ rest. HasOlderParent window × rest) (parents_plain windows)

length_plain : (windows : List Window) → length (map plain windows) ≡ length windows
length_plain [] = refl
length_plain (window ∷ windows) = ap suc (length_plain windows)

changed_next : (change : PlaceChange) (tree : Tree) → (with_changed change tree).next_number ≡ tree.next_number
changed_next (Unmap number) tree = by (window_at number tree)
  where
    by : (found : Option Window) → (mapped_as number false found tree).next_number ≡ tree.next_number
    by None = refl
    by (Some window) = refl
changed_next (Configure number place) tree = by (window_at number tree)
  where
    by : (found : Option Window) → (placed_at number place found tree).next_number ≡ tree.next_number
    by None = refl
    by (Some window) = refl
changed_next (Map number) tree = by (window_at number tree)
  where
    by : (found : Option Window) → (mapped_as number true found tree).next_number ≡ tree.next_number
    by None = refl
    by (Some window) = refl

same_next : (changes : List PlaceChange) (tree : Tree) → (with_changes changes tree).next_number ≡ tree.next_number
unfolding with_changes
same_next [] tree = refl
same_next (change ∷ changes) tree = same_next changes (with_changed change tree) ∙ changed_next change tree

-- what is sound with the windows laid out was sound before
pub laid_sound : (own : Windowing) (store : Store) → IsSound (laid_out_windowing own store).tree → IsSound own.tree
unfolding laid_out_windowing
laid_sound own store sound =
    let new : Tree = with_changes (changes_due own store) own.tree in
    let alike : map plain new.windows ≡ map plain own.tree.windows = plain_all (changes_due own store) own.tree in
    record {
      rising = subst (λ (T : Type 0). T) (sym (rising_plain new.windows) ∙ ap (IsRising number_of) alike ∙ rising_plain own.tree.windows) sound.rising;
      below = subst (λ n. AllBelow number_of n own.tree.windows) (same_next (changes_due own store) own.tree)
          (subst (λ (T : Type 0). T) (sym (below_same new.next_number new.windows) ∙ ap (AllBelow number_of new.next_number) alike ∙ below_same new.next_number own.tree.windows) sound.below);
      parents = subst (λ (T : Type 0). T) (sym (parents_plain new.windows) ∙ ap HaveOlderParents alike ∙ parents_plain own.tree.windows) sound.parents;
      few = subst (λ n. n ≤ most_windows) (sym (length_plain new.windows) ∙ ap length alike ∙ length_plain own.tree.windows) sound.few;
    }
