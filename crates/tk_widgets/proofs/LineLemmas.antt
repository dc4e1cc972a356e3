-- The first line of a text, which ends where a search finds the first newline.
use Rattle.std.proofs.Common.{◌≡◌, ℕ, ◌+◌, List, [], ◌∷◌, take, drop, get_or, Some, None, eqb, arith}
use Rattle.std.specs.List.{position_or_len}
use Rattle.std.specs.Str.{IsUtf8, IsCharBoundary}
use Rattle.std.proofs.lemmas.Bool.{eqb-true, false_from_ne_true}
use Rattle.std.proofs.lemmas.List.{get_or_default}
use Rattle.std.proofs.lemmas.List.Splits.{slice_split_none, slice_split_first}
use Rattle.std.proofs.lemmas.List.Sums.{position_or_len_is}
use Rattle.std.proofs.lemmas.Str.{IsCharBoundary-after_ascii}
use Rattle.memchr.specs.Find.{IsFirstByte, is_byte}
use Rattle.tk_widgets.specs.Lines.{lines_in}

-- a text can be cut behind a newline
pub behind_newline : (text : List ℕ) (place : ℕ) → IsUtf8 text → IsFirstByte (is_byte 10) text (Some place) → IsCharBoundary text (place + 1)
behind_newline text place utf8 found =
    let here : get_or text place 0 ≡ 10 = eqb-true (get_or text place 0) 10 found.1 in
    IsCharBoundary-after_ascii text place utf8 found.0.high (omega arith)

first_newline : (text : List ℕ) (place : ℕ) → IsFirstByte (is_byte 10) text (Some place) → position_or_len (λ b. eqb b 10) text ≡ place
first_newline text place found =
    position_or_len_is (λ b. eqb b 10) text place 0 (omega (arith, found.0.high)) (λ k lt. false_from_ne_true _ (found.0.before k (omega arith) lt)) (λ _. found.1)

pub lines_cut : (text : List ℕ) (place : ℕ) (line others : List ℕ) → IsFirstByte (is_byte 10) text (Some place)
    → line ≡ take place text → others ≡ drop (place + 1) text → lines_in text ≡ line ∷ lines_in others
lines_cut text place line others found front rest =
    let at = first_newline text place found in
    rw (front, rest, ← at) (slice_split_first (λ b. eqb b 10) text 0 (rw at found.0.high))

-- a text without a newline is one line
pub one_line : (text : List ℕ) → IsFirstByte (is_byte 10) text None → lines_in text ≡ text ∷ []
one_line text away = slice_split_none (λ b. eqb b 10) text (λ k d lt. rw (get_or_default text k d 0 lt) (false_from_ne_true _ (away k (omega arith) lt)))
