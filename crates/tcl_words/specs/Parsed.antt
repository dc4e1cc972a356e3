-- Meaning. A command and its words, as they were read.
use Rattle.std.specs.Prelude.{Bool, List}
use Rattle.tcl_words.specs.Places.{Stretch}
use Rattle.tcl_words.specs.declared.script.WordForm.{WordForm}
use Rattle.tcl_words.specs.declared.script.Piece.{Piece}

-- how it is written, whether its value is a list whose elements are words, and where it stands
pub record ParsedWord : Type 0 where
  pub form : WordForm
  pub expand : Bool
  pub span : Stretch
  pub pieces : List Piece

-- from its first word's first byte up to its last word's end
pub record ParsedCommand : Type 0 where
  pub span : Stretch
  pub words : List ParsedWord
