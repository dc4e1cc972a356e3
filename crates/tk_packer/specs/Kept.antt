-- Steps. What an arrangement is made from.
use Rattle.std.specs.Prelude.{ℕ, List, []}
use Rattle.tk_packer.specs.declared.request.Request.{Request}

pub record Inputs : Type 0 where
  pub size : ℕ × ℕ
  pub requests : List Request

-- no window, and no room
abbrev pub nothing : Inputs
nothing = record { size = (0, 0); requests = [] }
