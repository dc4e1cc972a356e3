-- The word, and the command, at an index of a list.
use Rattle.std.proofs.Common.{◌≡◌, ℕ, zero, suc, ◌+◌, ◌<◌, List, [], ◌∷◌, ◌++◌, length, drop, Result, Ok, Err, IfOk, refl, ap, sym, ◌∙◌, subst, arith, add-one}
use Rattle.tcl_words.specs.declared.script.Command.{Command}
use Rattle.tcl_words.specs.declared.script.Word.{Word}
use Rattle.tcl_words.specs.declared.script.Piece.{Piece}
use Rattle.tcl_vars.specs.Store.{Store}
use Rattle.tcl_control.specs.declared.code.Code.TheVariants.{Error}
use Rattle.tcl_interp.specs.Evaluation.{words_of}
use Rattle.tcl_interp.specs.Finish.{Waiting, Ends}
use Rattle.tcl_interp.specs.Moves.{moved, Part, WordEnd, Whole, AtPart, word_end, with_more_words, more_move, word_part, word_move, words_move, go_on_move}
use Rattle.tcl_interp.specs.Rests.{IsSingle, words_in_front, pieces_in_front, expand_in_front}

module _ {K : Type 0} (level : ℕ) (store : Store) (room : ℕ) (waits : List (Waiting K)) where
  word_at_suc : (after : List Command) (words : List Word) (i : ℕ) (whole : List (List ℕ)) → i < length words
      → words_move level store room after (drop i words) whole waits
      ≡ word_move room after (expand_in_front (drop i words)) (drop (suc i) words) whole waits (λ more. words_move level store room after (drop (suc i) words) more waits) (word_end level store (pieces_in_front (drop i words)) [])
  word_at_suc after [] i whole less = absurd (omega arith)
  word_at_suc after (word ∷ words) zero whole less = refl
  word_at_suc after (word ∷ words) (suc i) whole less = word_at_suc after words i whole (omega arith)

  pub word_at : (after : List Command) (words : List Word) (i : ℕ) (whole : List (List ℕ)) → i < length words
      → words_move level store room after (drop i words) whole waits
      ≡ word_move room after (expand_in_front (drop i words)) (drop (i + 1) words) whole waits (λ more. words_move level store room after (drop (i + 1) words) more waits) (word_end level store (pieces_in_front (drop i words)) [])
  word_at after words i whole less = rw add-one (word_at_suc after words i whole less)

  -- a word whose pieces end so
  word_ends : (after : List Command) (words : List Word) (i : ℕ) (whole : List (List ℕ)) (end : WordEnd) (pieces : List Piece) → i < length words → pieces ≡ pieces_in_front (drop i words)
      → end ≡ word_end level store (drop 0 pieces) []
      → word_move room after (expand_in_front (drop i words)) (drop (i + 1) words) whole waits (λ more. words_move level store room after (drop (i + 1) words) more waits) end ≡ words_move level store room after (drop i words) whole waits
  word_ends after words i whole end pieces less e is =
      sym (word_at after words i whole less
      ∙ ap (word_move room after (expand_in_front (drop i words)) (drop (i + 1) words) whole waits (λ more. words_move level store room after (drop (i + 1) words) more waits)) (ap (λ ps. word_end level store ps []) (sym e) ∙ sym is))

  -- a word that came to its end, with the words that are whole then
  pub word_whole : (after : List Command) (words : List Word) (i : ℕ) (whole all : List (List ℕ)) (text : List ℕ) (pieces : List Piece) → i < length words → pieces ≡ pieces_in_front (drop i words)
      → Whole text ≡ word_end level store (drop 0 pieces) []
      → Ok all ≡ with_more_words whole (words_of (expand_in_front (drop i words)) text)
      → words_move level store room after (drop (i + 1) words) all waits ≡ words_move level store room after (drop i words) whole waits
  word_whole after words i whole all text pieces less e end more =
      ap (more_move waits (λ m. words_move level store room after (drop (i + 1) words) m waits)) more
      ∙ word_ends after words i whole (Whole text) pieces less e end

  -- a word that is one text
  pub word_single : (after : List Command) (words : List Word) (i : ℕ) (whole all : List (List ℕ)) (text : List ℕ) → i < length words → IsSingle level store (drop i words) text
      → all ≡ whole ++ text ∷ [] → words_move level store room after (drop (i + 1) words) all waits ≡ words_move level store room after (drop i words) whole waits
  word_single after words i whole all text less single made =
      word_whole after words i whole all text (pieces_in_front (drop i words)) less refl single.1 (ap Ok made ∙ ap (λ expand. with_more_words whole (words_of expand text)) (sym single.0))

  -- a word that came to its end and is no list
  pub word_faulty : (after : List Command) (words : List Word) (i : ℕ) (whole : List (List ℕ)) (fault text : List ℕ) (pieces : List Piece) → i < length words → pieces ≡ pieces_in_front (drop i words)
      → Whole text ≡ word_end level store (drop 0 pieces) []
      → Err fault ≡ with_more_words whole (words_of (expand_in_front (drop i words)) text)
      → moved (Ends Error fault) waits ≡ words_move level store room after (drop i words) whole waits
  word_faulty after words i whole fault text pieces less e end more =
      ap (more_move waits (λ m. words_move level store room after (drop (i + 1) words) m waits)) more
      ∙ word_ends after words i whole (Whole text) pieces less e end

  -- a word that came to a part to be evaluated
  pub word_waits : (after : List Command) (words : List Word) (i : ℕ) (whole : List (List ℕ)) (part : Part) (so_far : List ℕ) (next : ℕ) (pieces : List Piece) → i < length words → pieces ≡ pieces_in_front (drop i words)
      → AtPart part (drop next pieces) so_far ≡ word_end level store (drop 0 pieces) []
      → word_part room after (expand_in_front (drop i words)) (drop (i + 1) words) whole (drop next (pieces_in_front (drop i words))) so_far part waits ≡ words_move level store room after (drop i words) whole waits
  word_waits after words i whole part so_far next pieces less e end =
      ap (λ ps. word_part room after (expand_in_front (drop i words)) (drop (i + 1) words) whole (drop next ps) so_far part waits) (sym e)
      ∙ word_ends after words i whole (AtPart part (drop next pieces) so_far) pieces less e end

  command_at_suc : (commands : List Command) (i : ℕ) (result : List ℕ) → i < length commands
      → go_on_move level store room (drop i commands) result waits ≡ words_move level store room (drop (suc i) commands) (words_in_front (drop i commands)) [] waits
  command_at_suc [] i result less = absurd (omega arith)
  command_at_suc (command ∷ commands) zero result less = refl
  command_at_suc (command ∷ commands) (suc i) result less = command_at_suc commands i result (omega arith)

  pub command_at : (commands : List Command) (i : ℕ) (result : List ℕ) → i < length commands
      → go_on_move level store room (drop i commands) result waits ≡ words_move level store room (drop (i + 1) commands) (words_in_front (drop i commands)) [] waits
  command_at commands i result less = rw add-one (command_at_suc commands i result less)

-- what a call answers where it doesn't fail, along an equation
pub ok_along : {A E B : Type 0} (r : Result A E) (f : A → B) (x y : B) → IfOk r (λ v. f v ≡ x) → x ≡ y → IfOk r (λ v. f v ≡ y)
ok_along r f x y h e = subst (λ z. IfOk r (λ v. f v ≡ z)) e h
