-- Windows that a layout keeps, against windows that are there.
use Rattle.std.proofs.Common.{◌≡◌, ◌≢◌, ◌⊎◌, inl, inr, ℕ, Bool, true, false, List, [], ◌∷◌, Option, None, Some, refl, sym, ap, ◌∙◌, subst}
use Rattle.std.specs.Prelude.{◌==◌, if◌then◌else◌, map}
use Rattle.std.specs.List.{filter_map, cons_option}
use Rattle.std.proofs.lemmas.Bool.{eq-eqb, eqb-true}
use Rattle.tcl_vars.specs.Store.{Store}
use Rattle.tk_base.specs.declared.rect.Rect.{Rect}
use Rattle.tk_packer.specs.Changes.{laid, laid_out_shapes}
use Rattle.tk_packer.specs.declared.shape.Shape.{Shape}
use Rattle.tk_packer.specs.Standing.{with_shape}
use Rattle.tk_tree.proofs.Lists.{some_same}
use Rattle.tk_tree.specs.Own.{window_at}
use Rattle.tk_screen.specs.Own.{Windowing}
use Rattle.tk_screen.specs.Reads.{IsKept, IsOneOf, Reads}
use Rattle.tk_screen.specs.Seen.{AreAlike, with_seen}
use Rattle.tk_screen.specs.Shapes.{shape_at}
use Rattle.tk_screen.specs.Widgets.{widget_at}
use Rattle.tk_screen.proofs.Laid.{number_laid}
use Rattle.tk_screen.proofs.Twice.{read_by}

-- ── one list ──

module _ (touched : ℕ → Bool) (Holds : ℕ → Type 0) where
  -- where none was touched, windows look as they are kept
  pub untouched : ((n : ℕ) → touched n ≡ false) → (xs ys : List Shape) → AreAlike touched Holds xs ys → xs ≡ ys
  unfolding AreAlike
  untouched none [] [] alike = refl
  untouched none [] (y ∷ ys) alike = absurd alike
  untouched none (x ∷ xs) [] alike = absurd alike
  untouched none (x ∷ xs) (y ∷ ys) alike = ap (λ s. s ∷ xs) (alike.1 (none y.number)).0 ∙ ap (λ ss. y ∷ ss) (untouched none xs ys alike.2)

  -- so they do once both are laid out
  pub laid_alike : (xs : List Shape) (places : List (Option Rect)) → AreAlike touched Holds xs xs → AreAlike touched Holds (laid_out_shapes xs places) (laid_out_shapes xs places)
  unfolding AreAlike laid_out_shapes
  laid_alike [] places alike = tt
  laid_alike (x ∷ xs) [] alike = alike
  laid_alike (x ∷ xs) (p ∷ places) alike = (
    refl,
    (λ fresh. (refl, subst Holds (sym (number_laid x p)) (alike.1 (subst (λ k. touched k ≡ false) (number_laid x p) fresh)).1)),
    laid_alike xs places alike.2,
  )

-- ── what looks at the numbers alone ──

module _ {X : Type 0} (f : ℕ → X) where
  pub laid_numbers : (xs : List Shape) (places : List (Option Rect)) → map (λ s. f s.number) (laid_out_shapes xs places) ≡ map (λ s. f s.number) xs
  unfolding laid_out_shapes
  laid_numbers [] places = refl
  laid_numbers (x ∷ xs) [] = refl
  laid_numbers (x ∷ xs) (p ∷ places) = ap (λ n. f n ∷ map (λ s. f s.number) (laid_out_shapes xs places)) (number_laid x p) ∙ ap (λ rest. f x.number ∷ rest) (laid_numbers xs places)

  set_numbers : (shape : Shape) (xs : List Shape) → map (λ s. f s.number) (with_shape shape xs) ≡ map (λ s. f s.number) xs
  set_numbers shape [] = refl
  set_numbers shape (x ∷ xs) = by (x.number == shape.number) refl (set_numbers shape xs)
    where
      by : (b : Bool) → (x.number == shape.number) ≡ b → map (λ s. f s.number) (with_shape shape xs) ≡ map (λ s. f s.number) xs
          → f (if b then shape else x).number ∷ map (λ s. f s.number) (with_shape shape xs) ≡ f x.number ∷ map (λ s. f s.number) xs
      by true same rest = ap (λ n. f n ∷ map (λ s. f s.number) (with_shape shape xs)) (sym (eqb-true x.number shape.number same)) ∙ ap (λ rest. f x.number ∷ rest) rest
      by false differ rest = ap (λ rest. f x.number ∷ rest) rest

  pub seen_numbers : (seen : Option Shape) (xs : List Shape) → map (λ s. f s.number) (with_seen seen xs) ≡ map (λ s. f s.number) xs
  seen_numbers None xs = refl
  seen_numbers (Some shape) xs = set_numbers shape xs

-- ── the window of a shape's number looks so ──

module _ (own : Windowing) (store : Store) where
  abbrev pub AllAt : List Shape → Type 0
  AllAt [] = Unit {0}
  AllAt (shape ∷ shapes) = (shape_at own store shape.number ≡ Some shape) × AllAt shapes

  pub number_seen : (n : ℕ) (shape : Shape) → shape_at own store n ≡ Some shape → shape.number ≡ n
  number_seen n shape is = (read_by own store n (window_at n own.tree) (widget_at n own.widgets) refl shape is).0

  pub all_at : (ns : List ℕ) → AllAt (filter_map (shape_at own store) ns)
  all_at [] = tt
  all_at (n ∷ ns) = by (shape_at own store n) refl (all_at ns)
    where
      by : (o : Option Shape) → shape_at own store n ≡ o → AllAt (filter_map (shape_at own store) ns) → AllAt (cons_option o (filter_map (shape_at own store) ns))
      by None is rest = rest
      by (Some shape) is rest = (ap (shape_at own store) (number_seen n shape is) ∙ is, rest)

  -- windows that are looked at for the first time
  pub first_seen : (touched : ℕ → Bool) (reads : Reads) (ns : List ℕ) → ((n : ℕ) → IsOneOf n ns → IsKept own store reads n)
      → AreAlike touched (IsKept own store reads) (filter_map (shape_at own store) ns) (filter_map (shape_at own store) ns)
  unfolding AreAlike
  first_seen touched reads [] all = tt
  first_seen touched reads (n ∷ ns) all = by (shape_at own store n) refl (first_seen touched reads ns (λ m is. all m (inr is)))
    where
      by : (o : Option Shape) → shape_at own store n ≡ o
          → AreAlike touched (IsKept own store reads) (filter_map (shape_at own store) ns) (filter_map (shape_at own store) ns)
          → AreAlike touched (IsKept own store reads) (cons_option o (filter_map (shape_at own store) ns)) (cons_option o (filter_map (shape_at own store) ns))
      by None is rest = rest
      by (Some shape) is rest = (refl, (λ fresh. (refl, subst (IsKept own store reads) (sym (number_seen n shape is)) (all n (inl refl)))), rest)

-- ── one window is looked at again ──

module _ (own : Windowing) (store : Store) (touched after : ℕ → Bool) (Holds Still : ℕ → Type 0) (n : ℕ) (fewer : (m : ℕ) → after m ≡ false → (m ≡ n) ⊎ ((m ≢ n) × (touched m ≡ false))) (here : Still n) (there : (m : ℕ) → m ≢ n → Holds m → Still m) where
  set_one : (shape : Shape) → shape.number ≡ n → shape_at own store n ≡ Some shape → (xs ys : List Shape) → AllAt own store ys → AreAlike touched Holds xs ys
      → AreAlike after Still (with_shape shape xs) ys
  unfolding AreAlike
  set_one shape number is [] [] at alike = tt
  set_one shape number is [] (y ∷ ys) at alike = absurd alike
  set_one shape number is (x ∷ xs) [] at alike = absurd alike
  set_one shape number is (x ∷ xs) (y ∷ ys) at alike = by (x.number == shape.number) refl (set_one shape number is xs ys at.1 alike.2)
    where
      other : (x.number == shape.number) ≡ false → (y.number ≡ n) ⊎ ((y.number ≢ n) × (touched y.number ≡ false)) → (x ≡ y) × Still y.number
      other differ (inl same) = let equal : (x.number == shape.number) ≡ true = eq-eqb x.number shape.number (alike.0 ∙ same ∙ sym number) in absurd (cc)
      other differ (inr apart) = let was = alike.1 apart.1 in (was.0, there y.number apart.0 was.1)

      by : (b : Bool) → (x.number == shape.number) ≡ b → AreAlike after Still (with_shape shape xs) ys → AreAlike after Still ((if b then shape else x) ∷ with_shape shape xs) (y ∷ ys)
      by true same rest =
          let its : y.number ≡ n = sym alike.0 ∙ eqb-true x.number shape.number same ∙ number in
          let seen : shape ≡ y = some_same shape y (sym is ∙ ap (shape_at own store) (sym its) ∙ at.0) in
          (ap (λ (s : Shape). s.number) seen, (λ fresh. (seen, subst Still (sym its) here)), rest)
      by false differ rest = (alike.0, (λ fresh. other differ (fewer y.number fresh)), rest)

  none_set : shape_at own store n ≡ None → (xs ys : List Shape) → AllAt own store ys → AreAlike touched Holds xs ys → AreAlike after Still xs ys
  unfolding AreAlike
  none_set none [] [] at alike = tt
  none_set none [] (y ∷ ys) at alike = absurd alike
  none_set none (x ∷ xs) [] at alike = absurd alike
  none_set none (x ∷ xs) (y ∷ ys) at alike = (alike.0, (λ fresh. other (fewer y.number fresh)), none_set none xs ys at.1 alike.2)
    where
      other : (y.number ≡ n) ⊎ ((y.number ≢ n) × (touched y.number ≡ false)) → (x ≡ y) × Still y.number
      other (inl same) = let found : shape_at own store n ≡ Some y = ap (shape_at own store) (sym same) ∙ at.0 in absurd (cc)
      other (inr apart) = let was = alike.1 apart.1 in (was.0, there y.number apart.0 was.1)

  pub seen_set : (seen : Option Shape) → shape_at own store n ≡ seen → (xs ys : List Shape) → AllAt own store ys → AreAlike touched Holds xs ys → AreAlike after Still (with_seen seen xs) ys
  seen_set None is xs ys at alike = none_set is xs ys at alike
  seen_set (Some shape) is xs ys at alike = set_one shape (number_seen own store n shape is) is xs ys at alike

-- ── windows that are seen in another way ──

module _ (touched after : ℕ → Bool) (Holds Still : ℕ → Type 0) where
  -- the same window is seen, which looks the same unless it is touched then
  abbrev pub Moves : ℕ → Option Shape → Option Shape → Type 0
  Moves n None None = Unit {0}
  Moves n None (Some new) = ⊥
  Moves n (Some old) None = ⊥
  Moves n (Some old) (Some new) = (old.number ≡ n) × (new.number ≡ n) × (after n ≡ false → (touched n ≡ false) × (Holds n → (old ≡ new) × Still n))

  none_moved : (xs : List Shape) → AreAlike touched Holds xs [] → AreAlike after Still xs []
  unfolding AreAlike
  none_moved [] alike = tt
  none_moved (x ∷ xs) alike = absurd alike

  one_moved : (n : ℕ) (old new : Option Shape) (ys zs : List Shape) → Moves n old new → ((xs : List Shape) → AreAlike touched Holds xs ys → AreAlike after Still xs zs)
      → (xs : List Shape) → AreAlike touched Holds xs (cons_option old ys) → AreAlike after Still xs (cons_option new zs)
  unfolding AreAlike
  one_moved n None None ys zs moves rest xs alike = rest xs alike
  one_moved n None (Some new) ys zs moves rest xs alike = absurd moves
  one_moved n (Some old) None ys zs moves rest xs alike = absurd moves
  one_moved n (Some old) (Some new) ys zs moves rest [] alike = absurd alike
  one_moved n (Some old) (Some new) ys zs moves rest (x ∷ xs) alike = (alike.0 ∙ moves.0 ∙ sym moves.1, here, rest xs alike.2)
    where
      here : after new.number ≡ false → (x ≡ new) × Still new.number
      here fresh =
          let one = moves.2 (subst (λ k. after k ≡ false) moves.1 fresh) in
          let was = alike.1 (subst (λ k. touched k ≡ false) (sym moves.0) one.0) in
          let now = one.1 (subst Holds moves.0 was.1) in
          (was.0 ∙ now.0, subst Still (sym moves.1) now.1)

  pub all_moved : (f g : ℕ → Option Shape) → ((n : ℕ) → Moves n (f n) (g n)) → (ns : List ℕ) (xs : List Shape) → AreAlike touched Holds xs (filter_map f ns) → AreAlike after Still xs (filter_map g ns)
  all_moved f g move [] xs alike = none_moved xs alike
  all_moved f g move (n ∷ ns) xs alike = one_moved n (f n) (g n) (filter_map f ns) (filter_map g ns) (move n) (all_moved f g move ns) xs alike
