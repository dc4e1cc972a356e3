-- A stable sort has one result: that of putting each item in order.
use Rattle.std.proofs.Common.{◌≡◌, ℕ, zero, suc, ◌+◌, ◌<◌, Bool, true, false, ◌&&◌, List, [], ◌∷◌, ◌++◌, length, get_or, drop, ℤ, Result, Ok, Err, refl, sym, ap, subst, ◌∙◌, arith, add-one}
use Rattle.std.specs.Prelude.{not, filter}
use Rattle.std.specs.Cmp.{IsStrictWeakOrder}
use Rattle.std.specs.List.Sorted.{IsSortedBy, IsStableBy, ties}
use Rattle.std.proofs.lemmas.Bool.{false≢true}
use Rattle.std.proofs.Math.Seq.{drop-cons}
use Rattle.tcl_text.specs.Answers.{◌>>=◌, Gives, integer_in}
use Rattle.tcl_text.specs.ListCommands.{put_in_order, sorted, keyed}
use Rattle.tcl_text.specs.declared.commands.answers.Refusal.{Refusal}
use Rattle.tcl_text.proofs.AnswerLemmas.{refused}

-- a `Bool` with the equation that says which it is
data Told (b : Bool) : Type 0 where
  yes : b ≡ true → Told b
  no : b ≡ false → Told b

told : (b : Bool) → Told b
told true = yes refl
told false = no refl

module _ {X : Type 0} (lt : X → X → Bool) (o : IsStrictWeakOrder lt) where
  not_below_itself : (x : X) → lt x x ≡ false
  not_below_itself x = elim (told (lt x x)) [ yes e ↦ o.one_way x x e | no e ↦ e ]

  -- none of the items is less than x; and in the whole list none is less than one before it
  NoneBelow : X → List X → Type 0
  NoneBelow x [] = Unit {0}
  NoneBelow x (y ∷ ys) = (lt y x ≡ false) × NoneBelow x ys

  Ascends : List X → Type 0
  Ascends [] = Unit {0}
  Ascends (y ∷ ys) = NoneBelow y ys × Ascends ys

  lower_too : (x y : X) → lt y x ≡ false → (zs : List X) → NoneBelow y zs → NoneBelow x zs
  unfolding NoneBelow
  lower_too x y h [] n = tt
  lower_too x y h (z ∷ zs) n = (o.chain z y x n.0 h, lower_too x y h zs n.1)

  -- from neighbours to all
  IsSortedBy-tail : (y : X) (ys : List X) → IsSortedBy lt (y ∷ ys) → IsSortedBy lt ys
  IsSortedBy-tail y ys s k d low high =
      let next = s (k + 1) d (omega arith) (omega arith) in
      let one : k + 1 ≡ suc k = add-one k in
      let two : k + 1 + 1 ≡ suc (k + 1) = add-one (k + 1) in
      subst (λ (n : ℕ). lt (get_or (y ∷ ys) n d) (get_or ys k d) ≡ false) two (subst (λ (n : ℕ). lt (get_or (y ∷ ys) (k + 1 + 1) d) (get_or (y ∷ ys) n d) ≡ false) one next)

  Ascends-from_sorted : (ys : List X) → IsSortedBy lt ys → Ascends ys
  unfolding Ascends NoneBelow
  Ascends-from_sorted [] s = tt
  Ascends-from_sorted (y ∷ []) s = (tt, tt)
  Ascends-from_sorted (y ∷ z ∷ zs) s =
      let rest = Ascends-from_sorted (z ∷ zs) (IsSortedBy-tail y (z ∷ zs) s) in
      let first : lt z y ≡ false = s 0 y (omega arith) (omega arith) in
      ((first, lower_too y z first zs rest.0), rest)

  -- putting an item in order keeps the order
  NoneBelow-put : (y x : X) (ys : List X) → lt x y ≡ false → NoneBelow y ys → NoneBelow y (put_in_order lt x ys)
  unfolding NoneBelow
  NoneBelow-put y x [] h n = (h, tt)
  NoneBelow-put y x (z ∷ zs) h n = elim (told (lt z x)) [
    | yes e ↦ rw e (n.0, NoneBelow-put y x zs h n.1)
    | no e ↦ rw e (h, (n.0, n.1))
  ]

  Ascends-put : (x : X) (ys : List X) → Ascends ys → Ascends (put_in_order lt x ys)
  unfolding Ascends NoneBelow
  Ascends-put x [] a = (tt, tt)
  Ascends-put x (y ∷ ys) a = elim (told (lt y x)) [
    | yes e ↦ rw e (NoneBelow-put y x ys (o.one_way y x e) a.0, Ascends-put x ys a.1)
    | no e ↦ rw e ((e, lower_too x y e ys a.0), a)
  ]

  Ascends-sorted : (xs : List X) → Ascends (sorted lt xs)
  unfolding Ascends
  Ascends-sorted [] = tt
  Ascends-sorted (x ∷ xs) = Ascends-put x (sorted lt xs) (Ascends-sorted xs)

  -- and the order of items that tie
  ties-parts : (x y : X) → ties lt x y ≡ true → (lt x y ≡ false) × (lt y x ≡ false)
  ties-parts x y e = go (lt x y) (lt y x) e where
    go : (a b : Bool) → (not a && not b) ≡ true → (a ≡ false) × (b ≡ false)
    go true b e = absurd (false≢true e)
    go false true e = absurd (false≢true e)
    go false false e = (refl, refl)

  ties-from : (x y : X) → lt x y ≡ false → lt y x ≡ false → ties lt x y ≡ true
  ties-from x y e f = rw (e, f) refl

  not_both : (a x y : X) → lt y x ≡ true → ties lt a y ≡ true → ties lt a x ≡ false
  not_both a x y less tied_y = elim (told (ties lt a x)) [
    | yes tied_x ↦ absurd (false≢true (sym (o.chain y a x (ties-parts a y tied_y).1 (ties-parts a x tied_x).0) ∙ less))
    | no e ↦ e
  ]

  filter-swapped : (p : X → Bool) (x y : X) (ys : List X) → (p y ≡ true → p x ≡ false) → filter p (y ∷ x ∷ ys) ≡ filter p (x ∷ y ∷ ys)
  filter-swapped p x y ys h = elim (told (p y)) [
    | yes e ↦ rw (h e, e) refl
    | no e ↦ rw e refl
  ]

  filter-put : (a x : X) (ys : List X) → filter (ties lt a) (put_in_order lt x ys) ≡ filter (ties lt a) (x ∷ ys)
  filter-put a x [] = refl
  filter-put a x (y ∷ ys) = elim (told (lt y x)) [
    | yes e ↦ rw (e, filter-put a x ys) (filter-swapped (ties lt a) x y ys (not_both a x y e))
    | no e ↦ rw e refl
  ]

  filter-sorted : (a : X) (xs : List X) → filter (ties lt a) (sorted lt xs) ≡ filter (ties lt a) xs
  filter-sorted a [] = refl
  filter-sorted a (x ∷ xs) = filter-put a x (sorted lt xs) ∙ rw (filter-sorted a xs) refl

  -- the first item that a filter keeps isn't less than what no item is less than
  kept-first : (x y : X) (p : X → Bool) (zs rest : List X) → NoneBelow x zs → filter p zs ≡ y ∷ rest → lt y x ≡ false
  unfolding NoneBelow
  kept-first x y p [] rest n h = absurd (no_cons y rest h) where
    no_cons : (y : X) (rest : List X) → [] ≡ y ∷ rest → ⊥
    no_cons y rest e = cc
  kept-first x y p (z ∷ zs) rest n h = elim (told (p z)) [
    | yes e ↦
        let found : z ∷ filter p zs ≡ y ∷ rest = rw e at h in
        let same : z ≡ y = cc in
        subst (λ (w : X). lt w x ≡ false) same n.0
    | no e ↦ kept-first x y p zs rest n.1 (rw e at h)
  ]

  filter-kept : (p : X → Bool) (z : X) (zs : List X) → p z ≡ true → filter p (z ∷ zs) ≡ z ∷ filter p zs
  filter-kept p z zs e = rw e refl

  tails-alike : (p : X → Bool) (y z : X) (ys zs : List X) → y ≡ z → filter p (y ∷ ys) ≡ filter p (z ∷ zs) → filter p ys ≡ filter p zs
  tails-alike p y z ys zs same h = elim (told (p z)) [
    | yes e ↦
        let also : p y ≡ true = ap p same ∙ e in
        let both : y ∷ filter p ys ≡ z ∷ filter p zs = rw (also, e) at h in
        cc
    | no e ↦ let also : p y ≡ false = ap p same ∙ e in rw (also, e) at h
  ]

  -- two ascending lists in which the items that tie stand alike are one
  alike : (ys zs : List X) → Ascends ys → Ascends zs → ((a : X) → filter (ties lt a) ys ≡ filter (ties lt a) zs) → ys ≡ zs
  unfolding Ascends NoneBelow
  alike [] [] p q h = refl
  alike [] (z ∷ zs) p q h =
      let itself = ties-from z z (not_below_itself z) (not_below_itself z) in
      let found : [] ≡ z ∷ filter (ties lt z) zs = h z ∙ filter-kept (ties lt z) z zs itself in
      cc
  alike (y ∷ ys) [] p q h =
      let itself = ties-from y y (not_below_itself y) (not_below_itself y) in
      let found : y ∷ filter (ties lt y) ys ≡ [] = sym (filter-kept (ties lt y) y ys itself) ∙ h y in
      cc
  alike (y ∷ ys) (z ∷ zs) p q h =
      let y_itself = ties-from y y (not_below_itself y) (not_below_itself y) in
      let z_itself = ties-from z z (not_below_itself z) (not_below_itself z) in
      let y_found : y ∷ filter (ties lt y) ys ≡ filter (ties lt y) (z ∷ zs) = sym (filter-kept (ties lt y) y ys y_itself) ∙ h y in
      let z_found : filter (ties lt z) (y ∷ ys) ≡ z ∷ filter (ties lt z) zs = h z ∙ filter-kept (ties lt z) z zs z_itself in
      let y_high : lt y z ≡ false = kept-first z y (ties lt y) (z ∷ zs) (filter (ties lt y) ys) (not_below_itself z, q.0) (sym y_found) in
      let z_high : lt z y ≡ false = kept-first y z (ties lt z) (y ∷ ys) (filter (ties lt z) zs) (not_below_itself y, p.0) z_found in
      let tied : ties lt y z ≡ true = ties-from y z y_high z_high in
      let heads : y ∷ filter (ties lt y) ys ≡ z ∷ filter (ties lt y) zs = y_found ∙ filter-kept (ties lt y) z zs tied in
      let same : y ≡ z = cc in
      let rest : ys ≡ zs = alike ys zs p.1 q.1 (λ a. tails-alike (ties lt a) y z ys zs same (h a)) in
      cc

  pub stable_sort-is : (xs ys : List X) → IsSortedBy lt ys → IsStableBy lt xs ys → ys ≡ sorted lt xs
  stable_sort-is xs ys s stable =
      alike ys (sorted lt xs) (Ascends-from_sorted ys s) (Ascends-sorted xs) (λ a. stable a ∙ sym (filter-sorted a xs))

-- an item that is no integer refuses the whole
pub keyed-refused : (e : Refusal) (items : List (List ℕ)) (pairs : List (ℤ × List ℕ)) (i : ℕ) (item : List ℕ) → i < length items → item ≡ get_or items i item → keyed items ≡ (keyed (drop i items) >>= λ rest. Ok (pairs ++ rest)) → Gives {T = ℤ} (Err e) (integer_in item) → Gives {T = List (ℤ × List ℕ)} (Err e) (keyed items)
keyed-refused e items pairs i item within is whole h =
    let others = drop (suc i) items in
    let here : drop i items ≡ item ∷ others = drop-cons items i item within ∙ ap (λ (t : List ℕ). t ∷ others) (sym is) in
    let first : Gives {T = List (ℤ × List ℕ)} (Err e) (keyed (item ∷ others)) =
    refused e (integer_in item) (λ key. keyed others >>= λ rest. Ok ((key, item) ∷ rest)) h
    in
    let all : Gives {T = List (ℤ × List ℕ)} (Err e) (keyed (item ∷ others) >>= λ rest. Ok (pairs ++ rest)) =
    refused e (keyed (item ∷ others)) (λ rest. Ok (pairs ++ rest)) first
    in
    subst (λ (r : Result (List (ℤ × List ℕ)) (List ℕ)). Gives {T = List (ℤ × List ℕ)} (Err e) r) (sym (whole ∙ ap (λ (t : List (List ℕ)). keyed t >>= λ rest. Ok (pairs ++ rest)) here)) all

module _ {X : Type 0} (lt : X → X → Bool) (o : IsStrictWeakOrder lt) where
  neighbours : (ys : List X) → Ascends lt o ys → (k : ℕ) (d : X) → suc k < length ys → lt (get_or ys (suc k) d) (get_or ys k d) ≡ false
  unfolding Ascends NoneBelow
  neighbours [] a k d within = absurd (omega arith)
  neighbours (y ∷ []) a k d within = absurd (omega arith)
  neighbours (y ∷ z ∷ zs) a zero d within = a.0.0
  neighbours (y ∷ z ∷ zs) a (suc k) d within = neighbours (z ∷ zs) a.1 k d (omega arith)

  -- what is put in order ascends, and items that tie keep theirs
  pub sorted-ascends : (xs : List X) → IsSortedBy lt (sorted lt xs)
  sorted-ascends xs k d low within =
      let one : k + 1 ≡ suc k = add-one k in
      subst (λ (n : ℕ). lt (get_or (sorted lt xs) n d) (get_or (sorted lt xs) k d) ≡ false) (sym one) (neighbours (sorted lt xs) (Ascends-sorted lt o xs) k d (omega arith))

  pub sorted-stable : (xs : List X) → IsStableBy lt xs (sorted lt xs)
  sorted-stable xs a = filter-sorted lt o a xs
