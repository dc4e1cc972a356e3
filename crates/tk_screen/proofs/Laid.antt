-- Windows lie where the changes of a layout put them.
use Rattle.std.proofs.Common.{◌≡◌, ◌≢◌, ℕ, Bool, true, false, List, [], ◌∷◌, ◌++◌, Option, Some, None, refl, sym, ap, ◌∙◌, subst}
use Rattle.std.specs.Prelude.{◌==◌, ◌&&◌, if◌then◌else◌, option_map}
use Rattle.std.proofs.lemmas.Bool.{eqb-true}
use Rattle.tk_base.specs.Numbered.{numbered, changed_at}
use Rattle.tk_base.specs.declared.rect.Rect.{Rect}
use Rattle.tk_packer.specs.Changes.{is_same_rect, changes_at, changes_of, laid, laid_out_shapes}
use Rattle.tk_packer.specs.declared.changes.PlaceChange.{PlaceChange}
use Rattle.tk_packer.specs.declared.changes.PlaceChange.TheVariants.{Unmap, Configure, Map}
use Rattle.tk_packer.specs.declared.shape.Shape.{Shape}
use Rattle.tk_screen.specs.Placing.{mapped_as, placed_at, with_mapped, with_rect, with_changed, with_changes}
use Rattle.tk_screen.specs.Reading.{IsRead, AllRead, IsOfNone, AreApart}
use Rattle.tk_tree.specs.Change.{with_place}
use Rattle.tk_tree.specs.Own.{Tree, window_at}
use Rattle.tk_tree.specs.Window.{number_of}
use Rattle.tk_tree.specs.declared.window.Window.{Window}

-- ── one change of place ──

-- the window of its number is changed
changed_same : (n : ℕ) (place : Rect) (mapped : Bool) (ws : List Window)
    → numbered number_of n (changed_at number_of n (with_place place mapped) ws) ≡ option_map (with_place place mapped) (numbered number_of n ws)
changed_same n place mapped [] = refl
changed_same n place mapped (w ∷ ws) = by (w.number == n) refl (changed_same n place mapped ws)
  where
    by : (b : Bool) → (w.number == n) ≡ b
        → numbered number_of n (changed_at number_of n (with_place place mapped) ws) ≡ option_map (with_place place mapped) (numbered number_of n ws)
        → numbered number_of n (changed_at number_of n (with_place place mapped) (w ∷ ws)) ≡ option_map (with_place place mapped) (numbered number_of n (w ∷ ws))
    by true is rest = rw (is, is) refl
    by false is rest = rw (is, is) rest

-- and no other
changed_other : (m n : ℕ) (place : Rect) (mapped : Bool) (ws : List Window) → m ≢ n
    → numbered number_of m (changed_at number_of n (with_place place mapped) ws) ≡ numbered number_of m ws
changed_other m n place mapped [] differ = refl
changed_other m n place mapped (w ∷ ws) differ = by (w.number == n) (w.number == m) refl refl (changed_other m n place mapped ws differ)
  where
    by : (b c : Bool) → (w.number == n) ≡ b → (w.number == m) ≡ c
        → numbered number_of m (changed_at number_of n (with_place place mapped) ws) ≡ numbered number_of m ws
        → numbered number_of m (changed_at number_of n (with_place place mapped) (w ∷ ws)) ≡ numbered number_of m (w ∷ ws)
    by true true is at rest = absurd (differ (sym (eqb-true w.number m at) ∙ eqb-true w.number n is))
    by true false is at rest = rw (is, at) rest
    by false true is at rest = rw (is, at) refl
    by false false is at rest = rw (is, at) rest

-- ── one change of a layout ──

mapped_same : (n : ℕ) (b : Bool) (own : Tree) (w : Window) → window_at n own ≡ Some w → window_at n (with_mapped n b own) ≡ Some (with_place w.rectangle b w)
mapped_same n b own w there =
    ap (λ found. window_at n (mapped_as n b found own)) there ∙ changed_same n w.rectangle b own.windows ∙ ap (option_map (with_place w.rectangle b)) there

placed_same : (n : ℕ) (place : Rect) (own : Tree) (w : Window) → window_at n own ≡ Some w → window_at n (with_rect n place own) ≡ Some (with_place place w.mapped w)
placed_same n place own w there =
    ap (λ found. window_at n (placed_at n place found own)) there ∙ changed_same n place w.mapped own.windows ∙ ap (option_map (with_place place w.mapped)) there

mapped_other : (m n : ℕ) (b : Bool) (found : Option Window) (own : Tree) → m ≢ n → window_at m (mapped_as n b found own) ≡ window_at m own
mapped_other m n b None own differ = refl
mapped_other m n b (Some w) own differ = changed_other m n w.rectangle b own.windows differ

placed_other : (m n : ℕ) (place : Rect) (found : Option Window) (own : Tree) → m ≢ n → window_at m (placed_at n place found own) ≡ window_at m own
placed_other m n place None own differ = refl
placed_other m n place (Some w) own differ = changed_other m n place w.mapped own.windows differ

-- ── the changes of one window ──

-- a rectangle that is the same in its four numbers
same_rect : (a b : Rect) → is_same_rect a b ≡ true → a ≡ b
same_rect a b same = by (a.x == b.x) (a.y == b.y) (a.width == b.width) (a.height == b.height) refl refl refl refl same
  where
    by : (x y w h : Bool) → (a.x == b.x) ≡ x → (a.y == b.y) ≡ y → (a.width == b.width) ≡ w → (a.height == b.height) ≡ h → (x && (y && (w && h))) ≡ true → a ≡ b
    by true true true true ex ey ew eh all =
        let x = eqb-true a.x b.x ex in
        let y = eqb-true a.y b.y ey in
        let w = eqb-true a.width b.width ew in
        let h = eqb-true a.height b.height eh in
        λ i. record { x = x i; y = y i; width = w i; height = h i }
    by false y w h ex ey ew eh all = absurd (cc)
    by true false w h ex ey ew eh all = absurd (cc)
    by true true false h ex ey ew eh all = absurd (cc)
    by true true true false ex ey ew eh all = absurd (cc)

one_read : (own : Tree) (shape : Shape) (place : Option Rect) → IsRead own shape → IsRead (with_changes (changes_at shape place) own) (laid shape place)
unfolding with_changes
one_read own shape None read = by shape.mapped refl
  where
    by : (b : Bool) → shape.mapped ≡ b → IsRead (with_changes (if b then Unmap shape.number ∷ [] else []) own) (laid shape None)
    by true is = record { window = with_place read.window.rectangle false read.window; there = mapped_same shape.number false own read.window read.there; rectangle = read.rectangle; mapped = refl }
    by false is = record { window = read.window; there = read.there; rectangle = read.rectangle; mapped = read.mapped ∙ is }
one_read own shape (Some rect) read = by (is_same_rect shape.rectangle rect) shape.mapped refl refl
  where
    by : (same b : Bool) → is_same_rect shape.rectangle rect ≡ same → shape.mapped ≡ b
        → IsRead (with_changes ((if same then [] else Configure shape.number rect ∷ []) ++ (if b then [] else Map shape.number ∷ [])) own) (laid shape (Some rect))
    by true true same is = record { window = read.window; there = read.there; rectangle = read.rectangle ∙ same_rect shape.rectangle rect same; mapped = read.mapped ∙ is }
    by true false same is = record { window = with_place read.window.rectangle true read.window; there = mapped_same shape.number true own read.window read.there; rectangle = read.rectangle ∙ same_rect shape.rectangle rect same; mapped = refl }
    by false true same is = record { window = with_place rect read.window.mapped read.window; there = placed_same shape.number rect own read.window read.there; rectangle = refl; mapped = read.mapped ∙ is }
    by false false same is =
        let placed : Window = with_place rect read.window.mapped read.window in
        record { window = with_place placed.rectangle true placed; there = mapped_same shape.number true (with_rect shape.number rect own) placed (placed_same shape.number rect own read.window read.there); rectangle = refl; mapped = refl }

one_other : (m : ℕ) (own : Tree) (shape : Shape) (place : Option Rect) → m ≢ shape.number → window_at m (with_changes (changes_at shape place) own) ≡ window_at m own
unfolding with_changes
one_other m own shape None differ = by shape.mapped
  where
    by : (b : Bool) → window_at m (with_changes (if b then Unmap shape.number ∷ [] else []) own) ≡ window_at m own
    by true = mapped_other m shape.number false (window_at shape.number own) own differ
    by false = refl
one_other m own shape (Some rect) differ = by (is_same_rect shape.rectangle rect) shape.mapped
  where
    by : (same b : Bool) → window_at m (with_changes ((if same then [] else Configure shape.number rect ∷ []) ++ (if b then [] else Map shape.number ∷ [])) own) ≡ window_at m own
    by true true = refl
    by true false = mapped_other m shape.number true (window_at shape.number own) own differ
    by false true = placed_other m shape.number rect (window_at shape.number own) own differ
    by false false =
        mapped_other m shape.number true (window_at shape.number (with_rect shape.number rect own)) (with_rect shape.number rect own) differ
        ∙ placed_other m shape.number rect (window_at shape.number own) own differ

-- ── the changes of all ──

changes_behind : (one other : List PlaceChange) (own : Tree) → with_changes (one ++ other) own ≡ with_changes other (with_changes one own)
unfolding with_changes
changes_behind [] other own = refl
changes_behind (change ∷ one) other own = changes_behind one other (with_changed change own)

others_stay : (m : ℕ) (shapes : List Shape) (places : List (Option Rect)) (own : Tree) → IsOfNone m shapes → window_at m (with_changes (changes_of shapes places) own) ≡ window_at m own
unfolding with_changes changes_of IsOfNone
others_stay m [] places own none = refl
others_stay m (shape ∷ shapes) [] own none = refl
others_stay m (shape ∷ shapes) (place ∷ places) own none =
    ap (window_at m) (changes_behind (changes_at shape place) (changes_of shapes places) own)
    ∙ others_stay m shapes places (with_changes (changes_at shape place) own) none.1
    ∙ one_other m own shape place (λ same. none.0 (sym same))

-- what is read stays read where the window stays
still_read : (own new : Tree) (shape : Shape) → window_at shape.number new ≡ window_at shape.number own → IsRead own shape → IsRead new shape
still_read own new shape same read = record { window = read.window; there = same ∙ read.there; rectangle = read.rectangle; mapped = read.mapped }

pub number_laid : (shape : Shape) (place : Option Rect) → (laid shape place).number ≡ shape.number
number_laid shape None = refl
number_laid shape (Some rect) = refl

rest_read : (first : Shape) (place : Option Rect) (shapes : List Shape) (own : Tree) → IsOfNone first.number shapes → AllRead own shapes → AllRead (with_changes (changes_at first place) own) shapes
unfolding AllRead IsOfNone
rest_read first place [] own none read = tt
rest_read first place (shape ∷ shapes) own none read =
    (still_read own (with_changes (changes_at first place) own) shape (one_other shape.number own first place none.0) read.0, rest_read first place shapes own none.1 read.1)

pub all_laid : (own : Tree) (shapes : List Shape) (places : List (Option Rect)) → AllRead own shapes → AreApart shapes → AllRead (with_changes (changes_of shapes places) own) (laid_out_shapes shapes places)
unfolding with_changes changes_of laid_out_shapes AllRead AreApart
all_laid own [] places read apart = tt
all_laid own (shape ∷ shapes) [] read apart = read
all_laid own (shape ∷ shapes) (place ∷ places) read apart =
    let first = with_changes (changes_at shape place) own in
    let all = with_changes (changes_of shapes places) first in
    let here : IsRead all (laid shape place) =
    still_read first all (laid shape place)
    (ap (λ n. window_at n all) (number_laid shape place) ∙ others_stay shape.number shapes places first apart.0 ∙ ap (λ n. window_at n first) (sym (number_laid shape place)))
    (one_read own shape place read.0) in
    subst (λ new. AllRead new (laid shape place ∷ laid_out_shapes shapes places)) (sym (changes_behind (changes_at shape place) (changes_of shapes places) own))
    (here, all_laid first shapes places (rest_read shape place shapes own apart.0 read.1) apart.1)
