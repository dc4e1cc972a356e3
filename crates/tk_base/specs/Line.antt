-- Steps. Values in an order.
use Rattle.std.specs.Prelude.{ℕ, List}

-- the values, and how many more come in without memory
pub record Line (T : Type 0) : Type 0 where
  pub items : List T
  pub room : ℕ
