-- Steps. The bytes of an item where it stands in a list, however they are held.
use Rattle.std.specs.Prelude.{ℕ, List}
use Rattle.tcl_text.specs.declared.element.Held.{Held}
use Rattle.tcl_text.specs.declared.element.Held.TheVariants.{Written, Made}

abbrev pub held_bytes : Held → List ℕ
held_bytes (Written characters) = characters.now
held_bytes (Made text) = text
