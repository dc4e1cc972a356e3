-- The way to a window, added up from the window on.
use Rattle.std.proofs.Common.{◌≡◌, ℕ, ◌+◌, ◌*◌, ◌<◌, ◌≤◌, Bool, true, false, List, [], ◌∷◌, ◌++◌, length, suc, MatchOption, Option, Some, None, refl, sym, ap, ◌∙◌, add_comm, arith}
use Rattle.std.specs.Prelude.{◌==◌, reverse, sum_by}
use Rattle.std.specs.Option.{option_map_or}
use Rattle.std.proofs.lemmas.List.{reverse-append, length-reverse}
use Rattle.std.proofs.lemmas.List.Sums.{sum_by-cons, sum_by_push}
use Rattle.tk_tree.specs.declared.window.Window.{Window}
use Rattle.tk_tree.specs.Corners.{across, asked, corner, down}
use Rattle.tk_tree.specs.Own.{IsSound, Tree, window_at}
use Rattle.tk_tree.specs.Ways.{way_to, way_up}
use Rattle.tk_tree.proofs.Ways.{up_to_none, up_to_parent}

sum_by-reverse : (f : ℕ → ℕ) (numbers : List ℕ) → sum_by f (reverse numbers) ≡ sum_by f numbers
sum_by-reverse f [] = refl
sum_by-reverse f (number ∷ numbers) =
    let last : reverse (number ∷ numbers) ≡ reverse numbers ++ number ∷ [] = reverse-append (number ∷ []) numbers in
    let pushed : sum_by f (reverse numbers ++ number ∷ []) ≡ sum_by f (reverse numbers) + f number = sum_by_push f (reverse numbers) number in
    let rest = sum_by-reverse f numbers in
    ap (sum_by f) last ∙ (pushed ∙ (ap (λ sum. sum + f number) rest ∙ (add_comm (sum_by f numbers) (f number) ∙ sym (sum_by-cons f number numbers))))

way_up_short : (up : Option ℕ) (newest : List Window) → length (way_up up newest) ≤ length newest
unfolding way_up
way_up_short None newest = omega arith
way_up_short (Some number) [] = omega arith
way_up_short (Some number) (window ∷ older) = by (window.number == number) refl (way_up_short window.parent older) (way_up_short (Some number) older)
  where
    by : (b : Bool) → (window.number == number) ≡ b → length (way_up window.parent older) ≤ length older → length (way_up (Some number) older) ≤ length older
        → length (way_up (Some number) (window ∷ older)) ≤ length (window ∷ older)
    by true is taken skipped = rw is (omega (arith, taken))
    by false is taken skipped = rw is (omega (arith, skipped))

-- the windows of an application
module _ (own : Tree) (sound : IsSound own) where
  -- a way is added up in either direction
  pub added_up : (f : ℕ → ℕ) (n : ℕ) → sum_by f (way_to n own) ≡ sum_by f (way_up (Some n) (reverse own.windows))
  added_up f n = sum_by-reverse f (way_up (Some n) (reverse own.windows))

  pub few_up : (up : Option ℕ) → length (way_up up (reverse own.windows)) ≤ 512
  few_up up =
      let short = way_up_short up (reverse own.windows) in
      let same = length-reverse own.windows in
      let few = sound.few in
      omega (arith, short, same, few)

  -- what a window has is added, and then its parent's
  pub sum_up : (part : Window → ℕ) (n : ℕ) (window : Window) → Some window ≡ window_at n own
      → sum_by (asked part own) (way_up (Some n) (reverse own.windows)) ≡ part window + sum_by (asked part own) (way_up window.parent (reverse own.windows))
  sum_up part n window is =
      ap (sum_by (asked part own)) (up_to_parent own sound n window is)
      ∙ (sum_by-cons (asked part own) n (way_up window.parent (reverse own.windows))
      ∙ ap (λ found. option_map_or part found 0 + sum_by (asked part own) (way_up window.parent (reverse own.windows))) (sym is))

  pub length_up : (n : ℕ) (window : Window) → Some window ≡ window_at n own
      → length (way_up (Some n) (reverse own.windows)) ≡ 1 + length (way_up window.parent (reverse own.windows))
  length_up n window is = let up = up_to_parent own sound n window is in rw up (omega arith)

-- the windows from one on up are still to be added, and the sums so far fit
pub record IsAddedUp (own : Tree) (n x y : ℕ) (up : Option ℕ) : Type 0 where
  pub across_is : x + sum_by (across own) (way_up up (reverse own.windows)) ≡ sum_by (across own) (way_up (Some n) (reverse own.windows))
  pub down_is : y + sum_by (down own) (way_up up (reverse own.windows)) ≡ sum_by (down own) (way_up (Some n) (reverse own.windows))
  pub across_fits : x + 4294967295 * length (way_up up (reverse own.windows)) ≤ 4294967295 * length (way_up (Some n) (reverse own.windows))
  pub down_fits : y + 4294967295 * length (way_up up (reverse own.windows)) ≤ 4294967295 * length (way_up (Some n) (reverse own.windows))

module _ (own : Tree) (sound : IsSound own) (n x y : ℕ) where
  pub step_up : (number : ℕ) (window : Window) (px py : ℕ) → Some window ≡ window_at number own → px ≡ window.rectangle.x → py ≡ window.rectangle.y → px < 4294967296 → py < 4294967296
      → IsAddedUp own n x y (Some number) → IsAddedUp own n (x + px) (y + py) window.parent
  step_up number window px py is x_is y_is x_small y_small added =
      let xs = sum_up own sound (λ w. w.rectangle.x) number window is in
      let ys = sum_up own sound (λ w. w.rectangle.y) number window is in
      let long = length_up own sound number window is in
      let a = added.across_is in
      let b = added.down_is in
      let c = added.across_fits in
      let d = added.down_fits in
      record {
        across_is = omega (arith, xs, a, x_is);
        down_is = omega (arith, ys, b, y_is);
        across_fits = omega (arith, long, c, x_small);
        down_fits = omega (arith, long, d, y_small);
      }

  pub top : (number : ℕ) → None ≡ window_at number own → IsAddedUp own n x y (Some number) → IsAddedUp own n x y None
  unfolding way_up
  top number is added =
      let none = up_to_none own sound number is in
      record {
        across_is = rw none at added.across_is;
        down_is = rw none at added.down_is;
        across_fits = rw none at added.across_fits;
        down_fits = rw none at added.down_fits;
      }

  pub all_added : IsAddedUp own n x y None → corner n own ≡ record { x = x; y = y }
  unfolding corner way_up
  all_added added =
      let across_all = added_up own sound (across own) n in
      let down_all = added_up own sound (down own) n in
      let a = added.across_is in
      let b = added.down_is in
      let ax : sum_by (across own) (way_to n own) ≡ x = omega (arith, across_all, a) in
      let bx : sum_by (down own) (way_to n own) ≡ y = omega (arith, down_all, b) in
      rw (ax, bx) refl

  pub near : (up : Option ℕ) → IsAddedUp own n x y up → (x < 2199023255552) × (y < 2199023255552)
  near up added =
      let few = few_up own sound (Some n) in
      let c = added.across_fits in
      let d = added.down_fits in
      (omega (arith, few, c), omega (arith, few, d))

-- a parent is older than the window that was reached
pub falls : (parent : Option ℕ) (number : ℕ) (up : Option ℕ) → up ≡ Some number → MatchOption parent (Unit {0}) (λ above. above < number)
    → option_map_or (λ n. suc n) parent 0 < option_map_or (λ n. suc n) up 0
falls None number up is older = rw is (omega arith)
falls (Some above) number up is older = rw is (omega (arith, older))
