-- Elements of a list by their numbers.
use Rattle.std.proofs.Common.{◌≡◌, ℕ, List, length, Option, Some, None, slice_get, Bor, refl, sym}
use Rattle.std.proofs.lemmas.Option.{slice_get_past, slice_get_read}
use Rattle.std.specs.Option.{option_copied}
use Rattle.std.specs.Slice.{IsItemAt}

-- what `get` gives
pub got : {X : Type 0} (xs : List X) (i : ℕ) (r : Option (Bor X)) → IsItemAt xs i r → option_copied r ≡ slice_get xs i
got xs i None is = sym (slice_get_past xs i is.3)
got xs i (Some x) is = sym (slice_get_read xs (length xs) i x.now refl is.3.0 is.1)
