-- Steps. Names are parts of texts, so that they have at most as many bytes as those.
use Rattle.std.specs.Prelude.{ℕ, ◌≤◌, List, [], ◌∷◌, length, IfSome}
use Rattle.tcl_vars.specs.Name.{Place}
use Rattle.tcl_vars.specs.Table.{Table}
use Rattle.tcl_text.specs.Limits.{most_bytes}

abbrev pub IsShort : List ℕ → Type 0
IsShort name = length name ≤ most_bytes

abbrev pub ShortNames : {V : Type 0} → Table V → Type 0
ShortNames [] = Unit {0}
ShortNames (e ∷ es) = IsShort e.0 × ShortNames es

pub record IsShortPlace (place : Place) : Type 0 where
  pub variable : IsShort place.variable
  pub element : IfSome place.element IsShort
