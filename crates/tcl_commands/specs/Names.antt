-- Steps. The names of a group of `foreach`, however they are kept.
use Rattle.std.specs.Prelude.{ℕ, List}
use Rattle.tcl_commands.specs.declared.names.NamesForm.{NamesForm}
use Rattle.tcl_commands.specs.declared.names.NamesForm.TheVariants.{Few, Many}

abbrev pub names_of : NamesForm → List (List ℕ)
names_of (Few names) = names
names_of (Many names) = names.value
