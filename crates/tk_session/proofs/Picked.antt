-- What is said of a value that is there.
use Rattle.std.proofs.Common.{◌≡◌, Option, Some, None, refl}
use Rattle.std.specs.Prelude.{IfSome}

pub if_some : {T : Type 0} (found : Option T) (P : T → Type 0) → ((x : T) → found ≡ Some x → P x) → IfSome found P
if_some None P each = tt
if_some (Some x) P each = each x refl
