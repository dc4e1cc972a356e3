-- Steps. What a place of the code points to.
use Rattle.std.specs.Option.{option_copied}
use Rattle.tcl_vars.specs.declared.name.Place.{Place as BorrowedPlace}
use Rattle.tcl_vars.specs.Name.{Place}

abbrev pub shown : BorrowedPlace → Place
shown place = record { frame = place.frame; variable = place.variable.now; element = option_copied place.element }
