-- The numbers that bindings are filed under stay beside them.
use Rattle.std.proofs.Common.{◌≡◌, ℕ, zero, suc, ◌<◌, Bool, true, false, cond, List, [], ◌∷◌, ◌++◌, length, take, drop, map, filter, get_or, refl, sym, ap, ◌∙◌, arith}
use Rattle.std.specs.List.{remove}
use Rattle.tk_patterns.specs.declared.binding.Binding.{Binding}
use Rattle.tk_patterns.specs.declared.filed.Numbers.{Numbers}
use Rattle.tk_sequences.specs.declared.sequence.Sequence.{Sequence}
use Rattle.tk_patterns.specs.OwnSteps.{with_script_at}

-- numbers that the script doesn't change
module _ (numbers : List ℕ → Sequence → Numbers) where
  abbrev numbered : Binding → Numbers
  numbered binding = numbers binding.tag binding.sequence

  pub numbers_again : (own : List Binding) (place : ℕ) (script : List ℕ) → map numbered (with_script_at place script own) ≡ map numbered own
  numbers_again [] zero script = refl
  numbers_again [] (suc place) script = refl
  numbers_again (binding ∷ own) zero script = refl
  numbers_again (binding ∷ own) (suc place) script = ap (λ others. numbered binding ∷ others) (numbers_again own place script)

pub map_remove : {X Y : Type 0} (f : X → Y) (xs : List X) (place : ℕ) → map f (remove xs place) ≡ remove (map f xs) place
map_remove f [] zero = refl
map_remove f [] (suc place) = refl
map_remove f (x ∷ xs) zero = refl
map_remove f (x ∷ xs) (suc place) = ap (λ ys. f x ∷ ys) (map_remove f xs place)

-- from a place on, what doesn't pass the test is out
module _ {X : Type 0} (test : X → Bool) where
  abbrev pub out_from : ℕ → List X → List X
  out_from place xs = take place xs ++ filter test (drop place xs)

  pub all_in : (xs : List X) → xs ≡ out_from (length xs) xs
  all_in [] = refl
  all_in (x ∷ xs) = ap (λ ys. x ∷ ys) (all_in xs)

  passed_by : (t : Bool) (x : X) (xs : List X) → t ≡ true → x ∷ xs ≡ cond t (x ∷ xs) xs
  passed_by true x xs h = refl
  passed_by false x xs h = absurd (cc)

  failed_by : (t : Bool) (x : X) (xs : List X) → t ≡ false → xs ≡ cond t (x ∷ xs) xs
  failed_by true x xs h = absurd (cc)
  failed_by false x xs h = refl

  pub stays : (xs : List X) (place : ℕ) (x : X) → place < length xs → x ≡ get_or xs place x → test x ≡ true → out_from (suc place) xs ≡ out_from place xs
  stays [] place x below is h = absurd (omega arith)
  stays (y ∷ xs) zero x below is h = passed_by (test y) y (filter test xs) (ap test (sym is) ∙ h)
  stays (y ∷ xs) (suc place) x below is h = ap (λ ys. y ∷ ys) (stays xs place x (omega arith) is h)

  pub goes : (xs : List X) (place : ℕ) (x : X) → place < length xs → x ≡ get_or xs place x → test x ≡ false → remove (out_from (suc place) xs) place ≡ out_from place xs
  goes [] place x below is h = absurd (omega arith)
  goes (y ∷ xs) zero x below is h = failed_by (test y) y (filter test xs) (ap test (sym is) ∙ h)
  goes (y ∷ xs) (suc place) x below is h = ap (λ ys. y ∷ ys) (goes xs place x (omega arith) is h)

  -- what stands before the place is as it was
  pub as_it_was : (xs : List X) (place : ℕ) (d : X) → place < length xs → get_or (out_from (suc place) xs) place d ≡ get_or xs place d
  as_it_was [] place d below = absurd (omega arith)
  as_it_was (y ∷ xs) zero d below = refl
  as_it_was (y ∷ xs) (suc place) d below = as_it_was xs place d (omega arith)

  pub is_there : (xs : List X) (place : ℕ) → place < length xs → place < length (out_from (suc place) xs)
  is_there [] place below = absurd (omega arith)
  is_there (y ∷ xs) zero below = omega arith
  is_there (y ∷ xs) (suc place) below = let rest = is_there xs place (omega arith) in omega (arith, rest)

  -- where the binding at a place is taken out of what was left, and where it stays
  pub took_out : (xs old new : List X) (place : ℕ) (x : X) → place < length xs → old ≡ out_from (suc place) xs → x ≡ get_or old place x → test x ≡ false → new ≡ remove old place → new ≡ out_from place xs
  took_out xs old new place x below left is h taken =
      taken ∙ ap (λ ys. remove ys place) left ∙ goes xs place x below (is ∙ ap (λ ys. get_or ys place x) left ∙ as_it_was xs place x below) h

  pub kept_in : (xs old : List X) (place : ℕ) (x : X) → place < length xs → old ≡ out_from (suc place) xs → x ≡ get_or old place x → test x ≡ true → old ≡ out_from place xs
  kept_in xs old place x below left is h = left ∙ stays xs place x below (is ∙ ap (λ ys. get_or ys place x) left ∙ as_it_was xs place x below) h
