-- Steps. The arrangements that are kept, by the numbers of masters.
use Rattle.std.specs.Prelude.{ℕ, ◌+◌, ◌^◌, ◌<◌, nat_eq, Option, IfSome}
use Rattle.std.specs.HashMap.{get}
use Rattle.tk_base.specs.declared.rect.Rect.{Rect}
use Rattle.tk_packer.specs.declared.arrangements.Arrangements.{Arrangements}
use Rattle.tk_packer.specs.Kept.{Inputs}

-- what the arrangement of a master was made from, if there is one
abbrev pub inputs_at : Arrangements → ℕ → Option Inputs
inputs_at arrangements number = get nat_eq arrangements.rows number

-- a rectangle that can be moved by a border
abbrev pub Fits : ℕ → Option Rect → Type 0
Fits border place = IfSome place (λ rect. (rect.x + border < 2 ^ 32) × (rect.y + border < 2 ^ 32))
