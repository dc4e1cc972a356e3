use Rattle.std.proofs.Common.{[], refl}
use Rattle.tcl_words.specs.Grammar.{leaves}
use Rattle.tcl_words.proofs.Slices.{script_slices}
use Rattle.tcl_words.proofs.laws.spans_are_slices.Goals as goal

pub returns : goal.returns
returns c = λ text commands is. script_slices text commands (leaves []) 0 text ([], refl, refl) is.cut
