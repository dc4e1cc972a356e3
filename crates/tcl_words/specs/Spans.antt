-- Meaning. Words and commands, with where they stand.
use Rattle.std.specs.Prelude.{ℕ, Bool, List, [], ◌∷◌}
use Rattle.tcl_words.specs.declared.script.WordForm.{WordForm}
use Rattle.tcl_words.specs.declared.script.Piece.{Piece}
use Rattle.tcl_words.specs.declared.script.Word.{Word}
use Rattle.tcl_words.specs.declared.script.Command.{Command}

-- a word of this form, with `{*}` or not, from its first byte up to its end
abbrev pub word_of : WordForm → Bool → ℕ → List Piece → ℕ → Word
word_of form expand start pieces end = record { form = form; expand = expand; pieces = pieces; span = record { start = start; end = end } }

-- where the last of the words ends
abbrev pub words_end : ℕ → List Word → ℕ
words_end end [] = end
words_end end (word ∷ words) = words_end word.span.end words

-- a command of these words
abbrev pub command_from : ℕ → List Word → Command
command_from start words = record { words = words; span = record { start = start; end = words_end start words } }
