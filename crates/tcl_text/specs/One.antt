-- Meaning. Things that there are once.
use Rattle.std.specs.Prelude.{◌≡◌}

-- The only thing of which this holds.
pub record One {T : Type 0} (Is : T → Type 0) : Type 0 where
  pub it : T
  pub holds : Is it
  pub only : (other : T) → Is other → other ≡ it
