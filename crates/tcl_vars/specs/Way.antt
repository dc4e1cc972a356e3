-- Steps. The way along links.
use Rattle.std.specs.Prelude.{◌≡◌, ◌<◌, length}
use Rattle.tcl_vars.specs.Name.{Place}
use Rattle.tcl_vars.specs.Short.{IsShortPlace}
use Rattle.tcl_vars.specs.Store.{Store, end_of}

-- a place on the way leads to where the first one does
pub record IsOnWay (store : Store) (first place : Place) : Type 0 where
  pub within : place.frame < length store
  pub leads : end_of store place ≡ end_of store first
  pub short : IsShortPlace place
