-- Meaning. A script's commands as lines of their own.
use Rattle.std.specs.Prelude.{ℕ, ◌≡◌, List, [], ◌∷◌, ◌++◌}
use Rattle.std.specs.List.{slice_range}
use Rattle.tcl_text.specs.Bytes.{line_feed}
use Rattle.tcl_words.specs.declared.script.Word.{Word}
use Rattle.tcl_words.specs.declared.script.Command.{Command}

-- the source of a command of this text
abbrev pub source_of : List ℕ → Command → List ℕ
source_of text command = slice_range text command.span.start command.span.end

-- the sources of commands of this text, joined by newlines
abbrev pub lines_of : List ℕ → List Command → List ℕ
lines_of text [] = []
lines_of text (command ∷ []) = source_of text command
lines_of text (command ∷ next ∷ commands) = source_of text command ++ line_feed ∷ lines_of text (next ∷ commands)

-- the same words, wherever they stand
abbrev pub WordsAlike : List Word → List Word → Type 0
WordsAlike [] [] = Unit {0}
WordsAlike [] (word ∷ words) = ⊥
WordsAlike (word ∷ words) [] = ⊥
WordsAlike (word ∷ words) (other ∷ others) = (word.form ≡ other.form) × (word.expand ≡ other.expand) × (word.pieces ≡ other.pieces) × WordsAlike words others

-- the same commands, wherever they stand
abbrev pub CommandsAlike : List Command → List Command → Type 0
CommandsAlike [] [] = Unit {0}
CommandsAlike [] (command ∷ commands) = ⊥
CommandsAlike (command ∷ commands) [] = ⊥
CommandsAlike (command ∷ commands) (other ∷ others) = WordsAlike command.words other.words × CommandsAlike commands others
