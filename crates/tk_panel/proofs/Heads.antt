-- The first item of a list, which is looked at.
use Rattle.std.proofs.Common.{◌≡◌, List, [], ◌∷◌, Bool, true, false, Bor, refl, sym, ◌∙◌, ap}
use Rattle.std.specs.Option.{option_copied}
use Rattle.std.specs.Prelude.{Option, Some, None, is_some, slice_get}

first_of : {X : Type 0} (xs : List X) → is_some (slice_get xs 0) ≡ true → (first : X) × (rest : List X) × (xs ≡ first ∷ rest)
first_of [] is = cc
first_of (x ∷ xs) is = (x, xs, refl)

none_of : {X : Type 0} (xs : List X) → is_some (slice_get xs 0) ≡ false → xs ≡ []
none_of [] is = refl
none_of (x ∷ xs) is = cc

copied : {X : Type 0} (found : Option (Bor X)) → is_some (option_copied found) ≡ is_some found
copied None = refl
copied (Some x) = refl

-- where there is one
pub first_seen : {X : Type 0} (found : Option (Bor X)) (xs : List X) (b : Bool) → option_copied found ≡ slice_get xs 0 → b ≡ is_some found → b ≡ true
    → (first : X) × (rest : List X) × (xs ≡ first ∷ rest)
first_seen found xs b at is holds = first_of xs (ap is_some (sym at) ∙ copied found ∙ sym is ∙ holds)

-- where there is none
pub none_seen : {X : Type 0} (found : Option (Bor X)) (xs : List X) (b : Bool) → option_copied found ≡ slice_get xs 0 → b ≡ is_some found → b ≡ false → xs ≡ []
none_seen found xs b at is fails = none_of xs (ap is_some (sym at) ∙ copied found ∙ sym is ∙ fails)
