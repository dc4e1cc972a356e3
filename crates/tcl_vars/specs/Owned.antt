-- Steps. What a place that is kept apart points to.
use Rattle.std.specs.Prelude.{option_map, string_bytes}
use Rattle.tcl_vars.specs.declared.name.OwnPlace.{OwnPlace}
use Rattle.tcl_vars.specs.Name.{Place}

abbrev pub owned : OwnPlace → Place
owned place = record { frame = place.frame; variable = string_bytes place.variable; element = option_map (λ index. string_bytes index) place.element }
