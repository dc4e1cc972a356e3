-- What is read where a word or another body ends.
use Rattle.std.proofs.Common.{◌≡◌, ℕ, Bool, true, false, List, [], ◌∷◌, refl, sym, ap, ◌∙◌, eqb-true, ◌+◌, Ok, Err}
use Rattle.tcl_words.specs.Kinds.{kind_before, class_means}
use Rattle.tcl_words.specs.Classes.{class_of}
use Rattle.tcl_words.specs.Grammar.{class_ends, ends_word}
use Rattle.tcl_words.specs.Changes.{TextRest, Read, put, changed, last_rest}
use Rattle.tcl_text.specs.Backslash.{escape}
use Rattle.tcl_words.specs.Changes.Change.{word_ends, text_ends, command_ends}
use Rattle.tcl_words.specs.Moves.{ByteMove, at_fault, word_over, in_between, in_text}
use Rattle.tcl_words.specs.declared.kind.Mode.{Mode}
use Rattle.tcl_words.specs.declared.kind.Mode.TheVariants.{Bare, Quotes, Parens}
use Rattle.tcl_text.specs.declared.fault.ParseFault.{ParseFault}
use Rattle.tcl_text.specs.declared.fault.ParseFault.TheVariants.{MissingBracket, ExtraAfterBrace, ExtraAfterQuote}
use Rattle.tcl_words.specs.Reading.{Level, rest_of, end_or_fault}
use Rattle.tcl_words.specs.Grammar.{ends_body, unended_fault}
use Rattle.tcl_words.specs.declared.kind.Kind.{Kind}
use Rattle.tcl_words.specs.declared.kind.Kind.TheVariants.{Blank, Newline, Semicolon, Hash, Dollar, Quote, OpenBracket, CloseBracket, OpenBrace, Expansion, CloseBrace, CloseParen, Backslash, Continuation, Other}
use Rattle.tcl_words.specs.declared.kind.BytePlace.{BytePlace}
use Rattle.tcl_words.specs.declared.kind.BytePlace.TheVariants.{Text, Start, Between, PastQuotes, PastBraces}
use Rattle.tcl_words.proofs.ClassLemmas.{}
use Rattle.tcl_words.proofs.StepLemmas.{after_move, put-put, put-none}

-- where words end
pub data EndsWords : BytePlace → Type 0 where
  bare_word : EndsWords (Text Bare)
  quotes : EndsWords PastQuotes
  braces : EndsWords PastBraces

over_kind : (other : ByteMove) (inside : Bool) (kind : Kind) (b at : ℕ) (text : List ℕ) (level : Level) → class_ends inside kind text ≡ true →
    after_move (word_over (class_means inside kind text) at text other) level at text ≡ put (changed (word_ends at ∷ [])) (after_move (in_between (class_means inside kind text) b at text) level at text)
over_kind other inside Blank b at text level e = ap (put (changed (word_ends at ∷ []))) (sym (put-none (rest_of text level 0 Between (at + 1))))
over_kind other inside Newline b at text level e = sym (put-put (changed (word_ends at ∷ [])) (changed (command_ends ∷ [])) (rest_of text level 0 Start (at + 1)))
over_kind other inside Semicolon b at text level e = sym (put-put (changed (word_ends at ∷ [])) (changed (command_ends ∷ [])) (rest_of text level 0 Start (at + 1)))
over_kind other true CloseBracket b at text level e = refl
over_kind other false CloseBracket b at text level e = cc
over_kind other inside Backslash b at text level e = rw e (ap (put (changed (word_ends at ∷ []))) (sym (put-none (rest_of text level (escape text).length Between (at + 1)))))
over_kind other inside Hash b at text level e = cc
over_kind other inside Dollar b at text level e = cc
over_kind other inside Quote b at text level e = cc
over_kind other inside OpenBracket b at text level e = cc
over_kind other inside OpenBrace b at text level e = cc
over_kind other inside Expansion b at text level e = cc
over_kind other inside CloseBrace b at text level e = cc
over_kind other inside CloseParen b at text level e = cc
over_kind other inside Continuation b at text level e = cc
over_kind other inside Other b at text level e = cc

end_over : (t : Bool) (fault : ParseFault) (at : ℕ) → end_or_fault t fault at ≡ put (changed (word_ends at ∷ [])) (end_or_fault t fault at)
end_over true fault at = refl
end_over false fault at = refl

pub word_stops : (level : Level) (place : BytePlace) (text : List ℕ) (at : ℕ) → EndsWords place → ends_word level.inside text ≡ true →
    rest_of text level 0 place at ≡ put (changed (word_ends at ∷ [])) (rest_of text level 0 Between at)
word_stops level place [] at bare_word e = end_over level.inside MissingBracket at
word_stops level place [] at quotes e = end_over level.inside MissingBracket at
word_stops level place [] at braces e = end_over level.inside MissingBracket at
word_stops level place (b ∷ text) at bare_word e = over_kind (in_text Bare (kind_before level.inside b text) b text) level.inside (class_of b) b at text level e
word_stops level place (b ∷ text) at quotes e = over_kind (at_fault ExtraAfterQuote) level.inside (class_of b) b at text level e
word_stops level place (b ∷ text) at braces e = over_kind (at_fault ExtraAfterBrace) level.inside (class_of b) b at text level e

-- the quote that ends a word
pub quote_read : (level : Level) (text : List ℕ) (at : ℕ) → rest_of (34 ∷ text) level 0 (Text Quotes) at ≡ put (changed (text_ends ∷ [])) (rest_of text level 0 PastQuotes (at + 1))
unfolding class_of
quote_read level text at = refl

pub paren_read : (room : ℕ) (text : List ℕ) (at : ℕ) → rest_of (41 ∷ text) (record { inside = true; room = room }) 0 (Text Parens) at ≡ Ok (last_rest at)
unfolding class_of
paren_read room text at = refl

abbrev cleared : TextRest → TextRest
cleared rest = record rest { bytes = []; pieces = [] }

clear_from : (f : TextRest → TextRest) (r s : Read) → ((x : TextRest) → cleared (f x) ≡ f x) → r ≡ put f s → r ≡ put cleared r
clear_from f r s h e = e ∙ again s ∙ ap (put cleared) (sym e)
  where
    again : (q : Read) → put f q ≡ put cleared (put f q)
    again (Ok rest) = ap (λ x. Ok x) (sym (h rest))
    again (Err fault) = refl

pub stop_clear : (inside : Bool) (room : ℕ) (mode : Mode) (text : List ℕ) (at : ℕ) → ends_body inside mode text ≡ true →
    rest_of text (record { inside = inside; room = room }) 0 (Text mode) at ≡ put (λ rest. record rest { bytes = []; pieces = [] }) (rest_of text (record { inside = inside; room = room }) 0 (Text mode) at)
stop_clear inside room Bare text at h =
    let level : Level = record { inside = inside; room = room } in
    clear_from (changed (word_ends at ∷ [])) (rest_of text level 0 (Text Bare) at) (rest_of text level 0 Between at) (λ x. refl) (word_stops level (Text Bare) text at bare_word h)
stop_clear inside room Quotes [] at h = cc
stop_clear inside room Quotes (b ∷ text) at h =
    let level : Level = record { inside = inside; room = room } in
    let same : b ≡ 34 = eqb-true b 34 h in
    clear_from (changed (text_ends ∷ [])) (rest_of (b ∷ text) level 0 (Text Quotes) at) (rest_of text level 0 PastQuotes (at + 1)) (λ x. refl) (ap (λ c. rest_of (c ∷ text) level 0 (Text Quotes) at) same ∙ quote_read level text at)
stop_clear true room Parens [] at h = cc
stop_clear false room Parens [] at h = refl
stop_clear true room Parens (b ∷ text) at h =
    let level : Level = record { inside = true; room = room } in
    let same : b ≡ 41 = eqb-true b 41 h in
    let e : rest_of (b ∷ text) level 0 (Text Parens) at ≡ Ok (last_rest at) = ap (λ c. rest_of (c ∷ text) level 0 (Text Parens) at) same ∙ paren_read room text at in
    e ∙ ap (put (λ rest. record rest { bytes = []; pieces = [] })) (sym e)
stop_clear false room Parens (b ∷ text) at h = cc

pub unended_read : (inside : Bool) (room : ℕ) (mode : Mode) (at : ℕ) → ends_body inside mode [] ≡ false → rest_of [] (record { inside = inside; room = room }) 0 (Text mode) at ≡ Err (unended_fault mode)
unended_read inside room Bare at h = cc
unended_read inside room Quotes at h = refl
unended_read true room Parens at h = refl
unended_read false room Parens at h = cc
