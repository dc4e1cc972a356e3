-- Steps. Which events tell a place.
use Rattle.std.specs.Prelude.{Bool, false, ◌||◌, is_some}
use Rattle.tk_generate.specs.declared.asked.EventRequest.{EventRequest}
use Rattle.tk_generate.specs.declared.asked.EventRequest.TheVariants.{Physical, Virtual}
use Rattle.tk_generate.specs.declared.given.Given.{Given}
use Rattle.tk_generate.specs.Fields.{is_of_pointer}

-- the pointer makes it
abbrev pub is_by_pointer : EventRequest → Bool
is_by_pointer (Physical pattern) = is_of_pointer pattern.kind
is_by_pointer (Virtual name) = false

-- it has a place of its own, or one that is given
abbrev pub tells_place : EventRequest → Given → Bool
tells_place asked given = (is_some given.x || is_some given.y) || is_by_pointer asked
