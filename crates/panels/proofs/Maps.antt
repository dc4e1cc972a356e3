-- Lemmas on lists of lines that references point to.
use Rattle.std.proofs.Common.{◌≡◌, ℕ, suc, ◌+◌, ◌<◌, Bool, List, [], ◌∷◌, length, get_or, drop, map, refl, add-one}
use Rattle.std.specs.List.{list_any, position, position_or_len}
use Rattle.std.proofs.lemmas.List.{drop-map, length-map}
use Rattle.std.proofs.Math.Seq.{drop-cons}

pub position_or_len-map : {X Y : Type 0} (f : X → Y) (p : Y → Bool) (xs : List X) → position_or_len p (map f xs) ≡ position_or_len (λ x. p (f x)) xs
position_or_len-map f p [] = refl
position_or_len-map f p (x ∷ xs) = rw (position_or_len-map f p xs) refl

pub position-map : {X Y : Type 0} (f : X → Y) (p : Y → Bool) (xs : List X) → position p (map f xs) ≡ position (λ x. p (f x)) xs
position-map f p xs = rw (position_or_len-map f p xs, length-map xs f) refl

pub list_any-map : {X Y : Type 0} (f : X → Y) (p : Y → Bool) (xs : List X) → list_any p (map f xs) ≡ list_any (λ x. p (f x)) xs
list_any-map f p [] = refl
list_any-map f p (x ∷ xs) = rw (list_any-map f p xs) refl

-- a list of what is read of others, from a place on, begins with what is read of the one there
pub drop-map_at : {X Y : Type 0} (f : X → Y) (xs : List X) (i : ℕ) (d : X) → i < length xs → drop i (map f xs) ≡ f (get_or xs i d) ∷ drop (i + 1) (map f xs)
drop-map_at {X} {Y} f xs i d h =
    let begins : drop i xs ≡ get_or xs i d ∷ drop (suc i) xs = drop-cons xs i d h in
    rw (drop-map f i xs, begins, add-one, drop-map f (suc i) xs) refl
