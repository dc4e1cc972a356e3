-- What is there is there after a change.
use Rattle.std.proofs.Common.{◌≡◌, ℕ, Bool, true, false, List, [], ◌∷◌, length, arith, Option, Some, None, IsSome, IfSome, refl, sym, ap, ◌∙◌, subst}
use Rattle.std.specs.Prelude.{◌==◌, if◌then◌else◌, is_some}
use Rattle.tk_base.specs.Numbered.{numbered, changed_at}
use Rattle.tk_base.specs.declared.rect.Rect.{Rect}
use Rattle.tk_packer.specs.declared.changes.PlaceChange.{PlaceChange}
use Rattle.tk_packer.specs.declared.changes.PlaceChange.TheVariants.{Unmap, Configure, Map}
use Rattle.tk_screen.specs.Placing.{mapped_as, placed_at, with_changed, with_changes, IsThere, AreThere}
use Rattle.tk_tree.specs.Change.{with_place}
use Rattle.tk_tree.specs.Own.{Tree, window_at, with_change}
use Rattle.tk_tree.specs.Window.{number_of}
use Rattle.tk_tree.specs.declared.window.Window.{Window}

-- a change of place leaves the numbers
keeps : (n : ℕ) (place : Rect) (mapped : Bool) (window : Window) (b : Bool) → (if b then with_place place mapped window else window).number ≡ window.number
keeps n place mapped window true = refl
keeps n place mapped window false = refl

still_some : (m n : ℕ) (place : Rect) (mapped : Bool) (ws : List Window) → is_some (numbered number_of m (changed_at number_of n (with_place place mapped) ws)) ≡ is_some (numbered number_of m ws)
still_some m n place mapped [] = refl
still_some m n place mapped (w ∷ ws) =
    let x : Window = if w.number == n then with_place place mapped w else w in
    let same : x.number ≡ w.number = keeps n place mapped w (w.number == n) in
    by x same (w.number == m) refl (still_some m n place mapped ws)
  where
    by : (x : Window) → x.number ≡ w.number → (b : Bool) → (w.number == m) ≡ b
        → is_some (numbered number_of m (changed_at number_of n (with_place place mapped) ws)) ≡ is_some (numbered number_of m ws)
        → is_some (numbered number_of m (x ∷ changed_at number_of n (with_place place mapped) ws)) ≡ is_some (numbered number_of m (w ∷ ws))
    by x same true is rest = rw (ap (λ k. k == m) same ∙ is, is) refl
    by x same false is rest = rw (ap (λ k. k == m) same ∙ is, is) rest

some_of : {X Y : Type 0} (o : Option X) (p : Option Y) → is_some o ≡ is_some p → IsSome p → IsSome o
some_of o p same some = same ∙ some

mapped_there : (m n : ℕ) (mapped : Bool) (found : Option Window) (own : Tree) → IsSome (window_at m own) → IsSome (window_at m (mapped_as n mapped found own))
mapped_there m n mapped None own there = there
mapped_there m n mapped (Some window) own there = some_of _ _ (still_some m n window.rectangle mapped own.windows) there

placed_there : (m n : ℕ) (place : Rect) (found : Option Window) (own : Tree) → IsSome (window_at m own) → IsSome (window_at m (placed_at n place found own))
placed_there m n place None own there = there
placed_there m n place (Some window) own there = some_of _ _ (still_some m n place window.mapped own.windows) there

number_there : (m : ℕ) (change : PlaceChange) (own : Tree) → IsSome (window_at m own) → IsSome (window_at m (with_changed change own))
number_there m (Unmap n) own there = mapped_there m n false (window_at n own) own there
number_there m (Configure n place) own there = placed_there m n place (window_at n own) own there
number_there m (Map n) own there = mapped_there m n true (window_at n own) own there

one_there : (change other : PlaceChange) (own : Tree) → IsThere other own → IsThere other (with_changed change own)
one_there change (Unmap m) own there = number_there m change own there
one_there change (Configure m place) own there = number_there m change own there
one_there change (Map m) own there = number_there m change own there

still_there : (change : PlaceChange) (changes : List PlaceChange) (own : Tree) → AreThere changes own → AreThere changes (with_changed change own)
unfolding AreThere
still_there change [] own there = tt
still_there change (other ∷ changes) own there = (one_there change other own there.0, still_there change changes own there.1)

-- ── the steps of the loop ──
pub first_there : (rest later : List PlaceChange) (change : PlaceChange) (own : Tree) → rest ≡ change ∷ later → AreThere rest own → IsThere change own
unfolding AreThere
first_there rest later change own is there = let all : AreThere (change ∷ later) own = subst (λ cs. AreThere cs own) is there in all.0

pub later_there : (rest later : List PlaceChange) (change : PlaceChange) (own new : Tree) → rest ≡ change ∷ later → new ≡ with_changed change own → AreThere rest own → AreThere later new
unfolding AreThere
later_there rest later change own new is new_is there =
    let all : AreThere (change ∷ later) own = subst (λ cs. AreThere cs own) is there in
    subst (AreThere later) (sym new_is) (still_there change later own all.1)

pub later_changes : (rest later : List PlaceChange) (change : PlaceChange) (own new all : Tree) → rest ≡ change ∷ later → new ≡ with_changed change own → with_changes rest own ≡ all → with_changes later new ≡ all
unfolding with_changes
later_changes rest later change own new all is new_is so_far = ap (with_changes later) new_is ∙ sym (ap (λ cs. with_changes cs own) is) ∙ so_far

pub all_changed : (rest : List PlaceChange) (own all : Tree) → with_changes rest own ≡ all → rest ≡ [] → own ≡ all
unfolding with_changes
all_changed rest own all so_far none = sym (ap (λ cs. with_changes cs own) none) ∙ so_far

-- ── a window that is there ──
pub mapped_by : (number : ℕ) (mapped : Bool) (told : Rect × Bool) (found : Option Window) (own new : Tree) → IsSome found → IfSome found (λ window. told ≡ (window.rectangle, window.mapped))
    → new ≡ with_change number (with_place told.0 mapped) own → new ≡ mapped_as number mapped found own
mapped_by number mapped told None own new some is new_is = absurd (cc)
mapped_by number mapped told (Some window) own new some is new_is = new_is ∙ ap (λ t. with_change number (with_place t.0 mapped) own) is

pub placed_by : (number : ℕ) (place : Rect) (told : Rect × Bool) (found : Option Window) (own new : Tree) → IsSome found → IfSome found (λ window. told ≡ (window.rectangle, window.mapped))
    → new ≡ with_change number (with_place place told.1) own → new ≡ placed_at number place found own
placed_by number place told None own new some is new_is = absurd (cc)
placed_by number place told (Some window) own new some is new_is = new_is ∙ ap (λ t. with_change number (with_place place t.1) own) is

pub nothing_left : (rest : List PlaceChange) → length rest ≡ 0 → rest ≡ []
nothing_left [] none = refl
nothing_left (change ∷ rest) none = absurd (omega arith)
