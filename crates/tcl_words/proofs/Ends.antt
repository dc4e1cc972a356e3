-- Where the last of the words ends.
use Rattle.std.proofs.Common.{◌≡◌, ℕ, List, [], ◌∷◌, ◌++◌, refl}
use Rattle.tcl_words.specs.Spans.{words_end}
use Rattle.tcl_words.specs.declared.script.Word.{Word}

pub words_end-append : (start : ℕ) (words : List Word) (word : Word) → words_end start (words ++ word ∷ []) ≡ word.span.end
words_end-append start [] word = refl
words_end-append start (first ∷ words) word = words_end-append first.span.end words word
