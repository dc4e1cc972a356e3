-- Steps. What holds of every store.
use Rattle.std.specs.Prelude.{ℕ, ◌≡◌, ◌<◌, ◌≤◌, length}
use Rattle.tcl_vars.specs.Links.{FramesDescend}
use Rattle.tcl_vars.specs.Store.{Store, variable_count}
use Rattle.tcl_text.specs.Limits.{most_variables}

pub record IsSound (store : Store) (count : ℕ) : Type 0 where
  -- the global frame is there
  pub rooted : 0 < length store
  pub counted : count ≡ variable_count store
  pub limited : count ≤ most_variables
  pub descending : FramesDescend store
