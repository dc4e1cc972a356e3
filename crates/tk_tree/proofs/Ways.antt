-- The way up goes from a window to its parent.
use Rattle.std.proofs.Common.{◌≡◌, ℕ, ◌<◌, Bool, true, false, List, [], ◌∷◌, ◌++◌, MatchOption, Option, Some, None, refl, sym, ap, ◌∙◌, subst, arith}
use Rattle.std.specs.Prelude.{◌==◌, find, reverse}
use Rattle.std.proofs.lemmas.Bool.{eqb-true, ne_eqb}
use Rattle.std.proofs.lemmas.List.{reverse-append}
use Rattle.tk_base.specs.Numbered.{numbered, AllBelow, AllAbove, IsRising}
use Rattle.tk_tree.specs.declared.window.Window.{Window}
use Rattle.tk_tree.specs.Own.{HasOlderParent, HaveOlderParents, IsSound, Tree, window_at}
use Rattle.tk_tree.specs.Ways.{way_up}
use Rattle.tk_tree.specs.Window.{number_of}
use Rattle.tk_tree.proofs.Lists.{find_below, find_passes, parents_more, some_same}

oldest_last : (window : Window) (windows : List Window) → reverse (window ∷ windows) ≡ reverse windows ++ window ∷ []
oldest_last window windows = reverse-append (window ∷ []) windows

-- each number is below the one before it
abbrev Falls : List Window → Type 0
Falls [] = Unit {0}
Falls (window ∷ older) = AllBelow number_of window.number older × Falls older

below_more : (n : ℕ) (windows : List Window) (window : Window) → AllBelow number_of n windows → window.number < n → AllBelow number_of n (windows ++ window ∷ [])
below_more n [] window below lt = (lt, tt)
below_more n (w ∷ windows) window below lt = (below.0, below_more n windows window below.1 lt)

falls_more : (windows : List Window) (window : Window) → Falls windows → AllAbove number_of window.number windows → Falls (windows ++ window ∷ [])
falls_more [] window falls above = (tt, tt)
falls_more (w ∷ windows) window falls above = (below_more w.number windows window falls.0 above.0, falls_more windows window falls.1 above.1)

above_more : (n : ℕ) (windows : List Window) (window : Window) → AllAbove number_of n windows → n < window.number → AllAbove number_of n (windows ++ window ∷ [])
above_more n [] window above lt = (lt, tt)
above_more n (w ∷ windows) window above lt = (above.0, above_more n windows window above.1 lt)

above_reversed : (n : ℕ) (windows : List Window) → AllAbove number_of n windows → AllAbove number_of n (reverse windows)
above_reversed n [] above = tt
above_reversed n (window ∷ windows) above = rw (oldest_last window windows) (above_more n (reverse windows) window (above_reversed n windows above.1) above.0)

falls_reversed : (windows : List Window) → IsRising number_of windows → Falls (reverse windows)
falls_reversed [] rising = tt
falls_reversed (window ∷ windows) rising = rw (oldest_last window windows) (falls_more (reverse windows) window (falls_reversed windows rising.1) (above_reversed window.number windows rising.0))

parents_reversed : (windows : List Window) → HaveOlderParents windows → HaveOlderParents (reverse windows)
parents_reversed [] older = tt
parents_reversed (window ∷ windows) older = rw (oldest_last window windows) (parents_more (reverse windows) window (parents_reversed windows older.1) older.0)

-- ── a search from the other end ──
found_none : (n : ℕ) (windows : List Window) → AllAbove number_of n windows → numbered number_of n windows ≡ None
found_none n [] above = refl
found_none n (window ∷ windows) above = rw (ne_eqb window.number n (λ e. omega (arith, e, above.0))) (found_none n windows above.1)

or_last : Option Window → ℕ → Window → Option Window
or_last (Some found) n window = Some found
or_last None n window = find (λ w. w.number == n) (window ∷ [])

found_more : (n : ℕ) (windows : List Window) (window : Window) → numbered number_of n (windows ++ window ∷ []) ≡ or_last (numbered number_of n windows) n window
unfolding or_last
found_more n [] window = refl
found_more n (w ∷ windows) window = by (w.number == n) refl (found_more n windows window)
  where
    by : (b : Bool) → (w.number == n) ≡ b → numbered number_of n (windows ++ window ∷ []) ≡ or_last (numbered number_of n windows) n window
        → numbered number_of n (w ∷ windows ++ window ∷ []) ≡ or_last (numbered number_of n (w ∷ windows)) n window
    by true is rest = rw is refl
    by false is rest = rw is rest

pub found_reversed : (n : ℕ) (windows : List Window) → IsRising number_of windows → numbered number_of n (reverse windows) ≡ numbered number_of n windows
unfolding or_last
found_reversed n [] rising = refl
found_reversed n (window ∷ windows) rising =
    ap (numbered number_of n) (oldest_last window windows) ∙ found_more n (reverse windows) window ∙ ap (λ found. or_last found n window) (found_reversed n windows rising.1) ∙ by (window.number == n) refl
  where
    by : (b : Bool) → (window.number == n) ≡ b → or_last (numbered number_of n windows) n window ≡ numbered number_of n (window ∷ windows)
    by true is = rw is (ap (λ found. or_last found n window) (found_none n windows (subst (λ m. AllAbove number_of m windows) (eqb-true window.number n is) rising.0)) ∙ rw is refl)
    by false is = rw is (other (numbered number_of n windows))
      where
        other : (found : Option Window) → or_last found n window ≡ found
        other (Some found) = refl
        other None = rw is refl

-- ── the way up ──
skip_newer : (window : Window) (older : List Window) (up : Option ℕ) → MatchOption up (Unit {0}) (λ number. number < window.number) → way_up up (window ∷ older) ≡ way_up up older
unfolding way_up
skip_newer window older None lt = refl
skip_newer window older (Some number) lt = rw (ne_eqb window.number number (λ e. omega (arith, e, lt))) refl

found_parent : (n : ℕ) (windows : List Window) (window : Window) → HaveOlderParents windows → numbered number_of n windows ≡ Some window → HasOlderParent window
found_parent n [] window older is = absurd (cc)
found_parent n (w ∷ windows) window older is = by (w.number == n) refl (λ rest. found_parent n windows window older.1 rest)
  where
    by : (b : Bool) → (w.number == n) ≡ b → (numbered number_of n windows ≡ Some window → HasOlderParent window) → HasOlderParent window
    by true same later = subst HasOlderParent (some_same w window (rw same at is)) older.0
    by false differs later = later (rw differs at is)

older_than : (window newer : Window) → HasOlderParent window → window.number < newer.number → MatchOption window.parent (Unit {0}) (λ number. number < newer.number)
older_than window newer older lt = by window.parent refl older
  where
    by : (parent : Option ℕ) → window.parent ≡ parent → MatchOption window.parent (Unit {0}) (λ number. number < window.number) → MatchOption window.parent (Unit {0}) (λ number. number < newer.number)
    by None is old = rw is tt
    by (Some number) is old =
        let below : number < window.number = subst (λ up. MatchOption up (Unit {0}) (λ m. m < window.number)) is old in
        rw is (omega (arith, below, lt))

up_from : (n : ℕ) (newest : List Window) (window : Window) → Falls newest → HaveOlderParents newest → numbered number_of n newest ≡ Some window → way_up (Some n) newest ≡ n ∷ way_up window.parent newest
unfolding way_up
up_from n [] window falls older is = absurd (cc)
up_from n (newer ∷ rest) window falls older is = by (newer.number == n) refl (λ later. up_from n rest window falls.1 older.1 later)
  where
    by : (b : Bool) → (newer.number == n) ≡ b → (numbered number_of n rest ≡ Some window → way_up (Some n) rest ≡ n ∷ way_up window.parent rest)
        → way_up (Some n) (newer ∷ rest) ≡ n ∷ way_up window.parent (newer ∷ rest)
    by true same later =
        let it : newer ≡ window = some_same newer window (rw same at is) in
        rw same (ap (λ ns. n ∷ ns) (sym (skip_newer newer rest newer.parent older.0) ∙ ap (λ w. way_up w.parent (newer ∷ rest)) it))
    by false differs later =
        let there : numbered number_of n rest ≡ Some window = rw differs at is in
        let lt : window.number < newer.number = find_below number_of newer.number (λ w. w.number == n) window rest falls.0 there in
        rw differs (later there ∙ ap (λ ns. n ∷ ns) (sym (skip_newer newer rest window.parent (older_than window newer (found_parent n rest window older.1 there) lt))))

nothing_up : (n : ℕ) (newest : List Window) → numbered number_of n newest ≡ None → way_up (Some n) newest ≡ []
unfolding way_up
nothing_up n [] is = refl
nothing_up n (newer ∷ rest) is = by (newer.number == n) refl (λ later. nothing_up n rest later)
  where
    by : (b : Bool) → (newer.number == n) ≡ b → (numbered number_of n rest ≡ None → way_up (Some n) rest ≡ []) → way_up (Some n) (newer ∷ rest) ≡ []
    by true same later = absurd (cc (rw same at is))
    by false differs later = rw differs (later (rw differs at is))

-- the windows of an application
module _ (own : Tree) (sound : IsSound own) where
  pub up_to_parent : (n : ℕ) (window : Window) → Some window ≡ window_at n own → way_up (Some n) (reverse own.windows) ≡ n ∷ way_up window.parent (reverse own.windows)
  up_to_parent n window is =
      up_from n (reverse own.windows) window (falls_reversed own.windows sound.rising) (parents_reversed own.windows sound.parents) (found_reversed n own.windows sound.rising ∙ sym is)

  pub up_to_none : (n : ℕ) → None ≡ window_at n own → way_up (Some n) (reverse own.windows) ≡ []
  up_to_none n is = nothing_up n (reverse own.windows) (found_reversed n own.windows sound.rising ∙ sym is)

  pub parent_older : (n : ℕ) (window : Window) → Some window ≡ window_at n own → MatchOption window.parent (Unit {0}) (λ above. above < n)
  parent_older n window is =
      let its : window.number ≡ n = eqb-true window.number n (find_passes (λ w. w.number == n) window own.windows (sym is)) in
      subst (λ m. MatchOption window.parent (Unit {0}) (λ above. above < m)) its (found_parent n own.windows window sound.parents (sym is))

pub no_way_up : (newest : List Window) → way_up None newest ≡ []
unfolding way_up
no_way_up newest = refl
