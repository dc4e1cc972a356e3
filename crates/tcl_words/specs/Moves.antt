-- Steps. What a byte means in each place: what it puts in front of the rest, and how reading goes on.
use Rattle.std.specs.Prelude.{ℕ, zero, suc, ◌+◌, ◌-◌, Bool, true, false, List, [], ◌∷◌, ◌++◌, length, take, drop, slice_index, Result, Ok, Err}
use Rattle.std.specs.List.{slice_range}
use Rattle.tcl_text.specs.Backslash.{escape}
use Rattle.tcl_text.specs.Bytes.{star}
use Rattle.tcl_words.specs.Kinds.{dollar_of, kind_before}
use Rattle.tcl_words.specs.Changes.{Change, bytes, name, text_ends, word_ends, command_ends, word_begins, command_begins}
use Rattle.tcl_words.specs.declared.kind.Kind.{Kind}
use Rattle.tcl_words.specs.declared.kind.Kind.TheVariants.{Blank, Newline, Semicolon, Hash, Dollar, Quote, OpenBracket, CloseBracket, OpenBrace, Expansion, CloseBrace, CloseParen, Backslash, Continuation}
use Rattle.tcl_words.specs.declared.kind.BytePlace.{BytePlace}
use Rattle.tcl_words.specs.declared.kind.BytePlace.TheVariants.{Start, Comment, Between, Expanded, Text, PastQuotes, InBraces, PastBraces}
use Rattle.tcl_words.specs.declared.kind.Mode.{Mode}
use Rattle.tcl_words.specs.declared.kind.Mode.TheVariants.{Bare, Quotes, Parens}
use Rattle.tcl_words.specs.declared.kind.Dollar.{Dollar as DollarForm}
use Rattle.tcl_words.specs.declared.kind.Dollar.TheVariants.{Alone, Named, Indexed, Braced, Unclosed}
use Rattle.tcl_words.specs.declared.kind.Opener.TheVariants.{Bracket, Index}
use Rattle.tcl_words.specs.declared.kind.Step.{Step}
use Rattle.tcl_words.specs.declared.kind.Step.TheVariants.{On, Within, Ends}
use Rattle.tcl_words.specs.declared.script.WordForm.TheVariants.{Bare as BareForm, Quoted as QuotedForm, Braced as BracedForm}
use Rattle.tcl_text.specs.declared.fault.ParseFault.{ParseFault}
use Rattle.tcl_text.specs.declared.fault.ParseFault.TheVariants.{MissingBrace, ExtraAfterBrace, ExtraAfterQuote}

pub record ByteMove : Type 0 where
  pub changes : List Change
  pub step : Result Step ParseFault

-- so many further bytes are taken, and reading goes on
abbrev pub on : List Change → ℕ → BytePlace → ByteMove
on changes skip place = record { changes = changes; step = Ok (On skip place) }

-- what was read within ends
abbrev pub ends : ByteMove
ends = record { changes = []; step = Ok Ends }

abbrev pub at_fault : ParseFault → ByteMove
at_fault fault = record { changes = []; step = Err fault }

abbrev pub change_before : Change → ByteMove → ByteMove
change_before change move = record { changes = change ∷ move.changes; step = move.step }

-- In each of the following `at` is the byte's position, and `behind` the text behind it.

-- a `$`
abbrev pub at_dollar : Mode → DollarForm → ℕ → List ℕ → ByteMove
at_dollar mode Alone b behind = on (bytes (b ∷ []) ∷ []) 0 (Text mode)
at_dollar mode (Named n) b behind = on (name (take n behind) ∷ []) n (Text mode)
at_dollar mode (Indexed n) b behind = record { changes = []; step = Ok (Within (Index n) mode) }
at_dollar mode (Braced n) b behind = on (name (slice_range behind 1 (suc n)) ∷ []) (n + 2) (Text mode)
at_dollar mode Unclosed b behind = at_fault MissingBrace

-- where substitution goes on: in a bare word, in quotes and in an index
abbrev pub in_text : Mode → Kind → ℕ → List ℕ → ByteMove
in_text mode Dollar b behind = at_dollar mode (dollar_of behind) b behind
in_text mode OpenBracket b behind = record { changes = []; step = Ok (Within Bracket mode) }
in_text mode Backslash b behind = on (bytes (escape behind).meaning ∷ []) (escape behind).length (Text mode)
in_text mode Continuation b behind = on (bytes (escape behind).meaning ∷ []) (escape behind).length (Text mode)
in_text mode kind b behind = on (bytes (b ∷ []) ∷ []) 0 (Text mode)

-- where a word may end, and what the byte does where it doesn't
abbrev pub word_over : Kind → ℕ → List ℕ → ByteMove → ByteMove
word_over Blank at behind other = on (word_ends at ∷ []) 0 Between
word_over Newline at behind other = on (word_ends at ∷ command_ends ∷ []) 0 Start
word_over Semicolon at behind other = on (word_ends at ∷ command_ends ∷ []) 0 Start
word_over Continuation at behind other = on (word_ends at ∷ []) (escape behind).length Between
word_over CloseBracket at behind other = ends
word_over kind at behind other = other

abbrev pub in_bare : Kind → ℕ → ℕ → List ℕ → ByteMove
in_bare kind b at behind = word_over kind at behind (in_text Bare kind b behind)

abbrev pub in_quotes : Kind → ℕ → List ℕ → ByteMove
in_quotes Quote b behind = on (text_ends ∷ []) 0 PastQuotes
in_quotes kind b behind = in_text Quotes kind b behind

abbrev pub in_parens : Kind → ℕ → List ℕ → ByteMove
in_parens CloseParen b behind = ends
in_parens kind b behind = in_text Parens kind b behind

-- a closing brace, with so many open beyond the first
abbrev pub at_brace : ℕ → ℕ → ByteMove
at_brace zero b = on (text_ends ∷ []) 0 PastBraces
at_brace (suc depth) b = on (bytes (b ∷ []) ∷ []) 0 (InBraces depth)

-- only a backslash before a newline is substituted, but none of the braces after a backslash counts
abbrev pub in_braces : ℕ → Kind → ℕ → List ℕ → ByteMove
in_braces depth CloseBrace b behind = at_brace depth b
in_braces depth OpenBrace b behind = on (bytes (b ∷ []) ∷ []) 0 (InBraces (suc depth))
in_braces depth Expansion b behind = on (bytes (b ∷ []) ∷ []) 0 (InBraces (suc depth))
in_braces depth Backslash b behind = on (bytes (b ∷ take 1 behind) ∷ []) (length (take 1 behind)) (InBraces depth)
in_braces depth Continuation b behind = on (bytes (escape behind).meaning ∷ []) (escape behind).length (InBraces depth)
in_braces depth kind b behind = on (bytes (b ∷ []) ∷ []) 0 (InBraces depth)

-- where a word begins, perhaps with a `{*}` before it
abbrev pub at_word : Bool → ℕ → Kind → ℕ → ℕ → List ℕ → ByteMove
at_word expand start OpenBrace b at behind = on (word_begins BracedForm expand start ∷ []) 0 (InBraces 0)
at_word expand start Expansion b at behind = on (word_begins BracedForm expand start ∷ []) 0 (InBraces 0)
at_word expand start Quote b at behind = on (word_begins QuotedForm expand start ∷ []) 0 (Text Quotes)
at_word expand start kind b at behind = change_before (word_begins BareForm expand start) (in_bare kind b at behind)

-- what was `{*}` with nothing behind it is the word `*` in braces
abbrev pub lone : ℕ → List Change
lone at = word_begins BracedForm false (at - 3) ∷ bytes (star ∷ []) ∷ []

abbrev pub in_expanded : Kind → ℕ → ℕ → List ℕ → ByteMove
in_expanded Blank b at behind = on (lone at ++ word_ends at ∷ []) 0 Between
in_expanded Newline b at behind = on (lone at ++ word_ends at ∷ command_ends ∷ []) 0 Start
in_expanded Semicolon b at behind = on (lone at ++ word_ends at ∷ command_ends ∷ []) 0 Start
in_expanded Continuation b at behind = on (lone at ++ word_ends at ∷ []) (escape behind).length Between
in_expanded CloseBracket b at behind = record { changes = lone at; step = Ok Ends }
in_expanded kind b at behind = at_word true (at - 3) kind b at behind

abbrev pub in_between : Kind → ℕ → ℕ → List ℕ → ByteMove
in_between Blank b at behind = on [] 0 Between
in_between Newline b at behind = on (command_ends ∷ []) 0 Start
in_between Semicolon b at behind = on (command_ends ∷ []) 0 Start
in_between Continuation b at behind = on [] (escape behind).length Between
in_between CloseBracket b at behind = ends
in_between Expansion b at behind = on [] 2 Expanded
in_between kind b at behind = at_word false at kind b at behind

abbrev pub in_start : Kind → ℕ → ℕ → List ℕ → ByteMove
in_start Blank b at behind = on [] 0 Start
in_start Newline b at behind = on [] 0 Start
in_start Semicolon b at behind = on [] 0 Start
in_start Continuation b at behind = on [] (escape behind).length Start
in_start CloseBracket b at behind = ends
in_start Hash b at behind = on [] 0 Comment
in_start kind b at behind = change_before (command_begins at) (in_between kind b at behind)

-- a backslash goes with the byte behind it, so that a newline may not end the comment
abbrev pub in_comment : Kind → List ℕ → ByteMove
in_comment Newline behind = on [] 0 Start
in_comment Backslash behind = on [] (length (take 1 behind)) Comment
in_comment Continuation behind = on [] (length (take 1 behind)) Comment
in_comment kind behind = on [] 0 Comment

abbrev pub move_of : BytePlace → Kind → ℕ → ℕ → List ℕ → ByteMove
move_of Start kind b at behind = in_start kind b at behind
move_of Comment kind b at behind = in_comment kind behind
move_of Between kind b at behind = in_between kind b at behind
move_of Expanded kind b at behind = in_expanded kind b at behind
move_of (Text Bare) kind b at behind = in_bare kind b at behind
move_of (Text Quotes) kind b at behind = in_quotes kind b behind
move_of PastQuotes kind b at behind = word_over kind at behind (at_fault ExtraAfterQuote)
move_of (InBraces depth) kind b at behind = in_braces depth kind b behind
move_of PastBraces kind b at behind = word_over kind at behind (at_fault ExtraAfterBrace)
move_of (Text Parens) kind b at behind = in_parens kind b behind

-- the move at this position of a text
abbrev pub move_at : List ℕ → ℕ → Bool → BytePlace → ByteMove
move_at text at inside place = move_of place (kind_before inside (slice_index text at) (drop (at + 1) text)) (slice_index text at) at (drop (at + 1) text)
