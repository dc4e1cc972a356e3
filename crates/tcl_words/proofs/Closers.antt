-- What ends a script or an index is the bracket or the parenthesis itself: no other byte does, whatever stands behind it.
use Rattle.std.proofs.Common.{◌≡◌, ℕ, zero, suc, ◌⊎◌, true, false, List, nat_eq, refl, arith, inl, inr, Ok}
use Rattle.std.proofs.lemmas.Bool.{cases_Bool, cond_both}
use Rattle.std.proofs.lemmas.Bool.Decides.{nat_tests}
use Rattle.tcl_words.specs.Kinds.{class_means, dollar_of}
use Rattle.tcl_words.specs.Classes.{class_of, begins_newline, begins_expansion, is_blank}
use Rattle.tcl_words.specs.Changes.{put, last_rest, changed}
use Rattle.tcl_words.specs.Moves.{at_dollar, at_brace, move_of}
use Rattle.tcl_words.specs.Reading.{read_at_end}
use Rattle.tcl_words.specs.declared.kind.Kind.{Kind}
use Rattle.tcl_words.specs.declared.kind.Kind.TheVariants.{Blank, Newline, Semicolon, Hash, Dollar, Quote, OpenBracket, CloseBracket, OpenBrace, Expansion, CloseBrace, CloseParen, Backslash, Continuation, Other}
use Rattle.tcl_words.specs.declared.kind.Dollar.{Dollar as DollarForm}
use Rattle.tcl_words.specs.declared.kind.Dollar.TheVariants.{Alone, Named, Indexed, Braced, Unclosed}
use Rattle.tcl_words.specs.declared.kind.BytePlace.{BytePlace}
use Rattle.tcl_words.specs.declared.kind.BytePlace.TheVariants.{Start, Comment, Between, Expanded, Text, PastQuotes, InBraces, PastBraces}
use Rattle.tcl_words.specs.declared.kind.Mode.{Mode}
use Rattle.tcl_words.specs.declared.kind.Mode.TheVariants.{Bare, Quotes, Parens}
use Rattle.tcl_words.specs.declared.kind.Step.TheVariants.{Ends}
use Rattle.tcl_words.proofs.Cuts.{IsCloser}

-- ── what goes on ──

dollar_goes : (mode : Mode) (form : DollarForm) (b : ℕ) (X : List ℕ) → (at_dollar mode form b X).step ≡ Ok Ends → ⊥
dollar_goes mode Alone b X e = let f : (at_dollar mode Alone b X).step ≡ Ok Ends = e in cc
dollar_goes mode (Named n) b X e = let f : (at_dollar mode (Named n) b X).step ≡ Ok Ends = e in cc
dollar_goes mode (Indexed n) b X e = let f : (at_dollar mode (Indexed n) b X).step ≡ Ok Ends = e in cc
dollar_goes mode (Braced n) b X e = let f : (at_dollar mode (Braced n) b X).step ≡ Ok Ends = e in cc
dollar_goes mode Unclosed b X e = let f : (at_dollar mode Unclosed b X).step ≡ Ok Ends = e in cc

brace_goes : (depth b : ℕ) → (at_brace depth b).step ≡ Ok Ends → ⊥
brace_goes zero b e = let f : (at_brace zero b).step ≡ Ok Ends = e in cc
brace_goes (suc depth) b e = let f : (at_brace (suc depth) b).step ≡ Ok Ends = e in cc

-- ── what ends ──

-- what ends a script or an index is no more than its byte, and the text may end before it
abbrev EndsHere : Kind → BytePlace → ℕ → ℕ → List ℕ → List ℕ → Type 0
EndsHere k place b at X Y =
    ((k ≡ CloseBracket) ⊎ (k ≡ CloseParen)) × (move_of place k b at X ≡ move_of place k b at Y) × (read_at_end false place at ≡ put (changed (move_of place k b at X).changes) (Ok (last_rest at)))

ends_blank : (place : BytePlace) (b at : ℕ) (X Y : List ℕ) → (move_of place Blank b at X).step ≡ Ok Ends → EndsHere Blank place b at X Y
ends_blank Start b at X Y e = absurd (let f : (move_of Start Blank b at X).step ≡ Ok Ends = e in cc)
ends_blank Comment b at X Y e = absurd (let f : (move_of Comment Blank b at X).step ≡ Ok Ends = e in cc)
ends_blank Between b at X Y e = absurd (let f : (move_of Between Blank b at X).step ≡ Ok Ends = e in cc)
ends_blank Expanded b at X Y e = absurd (let f : (move_of Expanded Blank b at X).step ≡ Ok Ends = e in cc)
ends_blank (Text Bare) b at X Y e = absurd (let f : (move_of (Text Bare) Blank b at X).step ≡ Ok Ends = e in cc)
ends_blank (Text Quotes) b at X Y e = absurd (let f : (move_of (Text Quotes) Blank b at X).step ≡ Ok Ends = e in cc)
ends_blank (Text Parens) b at X Y e = absurd (let f : (move_of (Text Parens) Blank b at X).step ≡ Ok Ends = e in cc)
ends_blank PastQuotes b at X Y e = absurd (let f : (move_of PastQuotes Blank b at X).step ≡ Ok Ends = e in cc)
ends_blank (InBraces depth) b at X Y e = absurd (let f : (move_of (InBraces depth) Blank b at X).step ≡ Ok Ends = e in cc)
ends_blank PastBraces b at X Y e = absurd (let f : (move_of PastBraces Blank b at X).step ≡ Ok Ends = e in cc)

ends_newline : (place : BytePlace) (b at : ℕ) (X Y : List ℕ) → (move_of place Newline b at X).step ≡ Ok Ends → EndsHere Newline place b at X Y
ends_newline Start b at X Y e = absurd (let f : (move_of Start Newline b at X).step ≡ Ok Ends = e in cc)
ends_newline Comment b at X Y e = absurd (let f : (move_of Comment Newline b at X).step ≡ Ok Ends = e in cc)
ends_newline Between b at X Y e = absurd (let f : (move_of Between Newline b at X).step ≡ Ok Ends = e in cc)
ends_newline Expanded b at X Y e = absurd (let f : (move_of Expanded Newline b at X).step ≡ Ok Ends = e in cc)
ends_newline (Text Bare) b at X Y e = absurd (let f : (move_of (Text Bare) Newline b at X).step ≡ Ok Ends = e in cc)
ends_newline (Text Quotes) b at X Y e = absurd (let f : (move_of (Text Quotes) Newline b at X).step ≡ Ok Ends = e in cc)
ends_newline (Text Parens) b at X Y e = absurd (let f : (move_of (Text Parens) Newline b at X).step ≡ Ok Ends = e in cc)
ends_newline PastQuotes b at X Y e = absurd (let f : (move_of PastQuotes Newline b at X).step ≡ Ok Ends = e in cc)
ends_newline (InBraces depth) b at X Y e = absurd (let f : (move_of (InBraces depth) Newline b at X).step ≡ Ok Ends = e in cc)
ends_newline PastBraces b at X Y e = absurd (let f : (move_of PastBraces Newline b at X).step ≡ Ok Ends = e in cc)

ends_semicolon : (place : BytePlace) (b at : ℕ) (X Y : List ℕ) → (move_of place Semicolon b at X).step ≡ Ok Ends → EndsHere Semicolon place b at X Y
ends_semicolon Start b at X Y e = absurd (let f : (move_of Start Semicolon b at X).step ≡ Ok Ends = e in cc)
ends_semicolon Comment b at X Y e = absurd (let f : (move_of Comment Semicolon b at X).step ≡ Ok Ends = e in cc)
ends_semicolon Between b at X Y e = absurd (let f : (move_of Between Semicolon b at X).step ≡ Ok Ends = e in cc)
ends_semicolon Expanded b at X Y e = absurd (let f : (move_of Expanded Semicolon b at X).step ≡ Ok Ends = e in cc)
ends_semicolon (Text Bare) b at X Y e = absurd (let f : (move_of (Text Bare) Semicolon b at X).step ≡ Ok Ends = e in cc)
ends_semicolon (Text Quotes) b at X Y e = absurd (let f : (move_of (Text Quotes) Semicolon b at X).step ≡ Ok Ends = e in cc)
ends_semicolon (Text Parens) b at X Y e = absurd (let f : (move_of (Text Parens) Semicolon b at X).step ≡ Ok Ends = e in cc)
ends_semicolon PastQuotes b at X Y e = absurd (let f : (move_of PastQuotes Semicolon b at X).step ≡ Ok Ends = e in cc)
ends_semicolon (InBraces depth) b at X Y e = absurd (let f : (move_of (InBraces depth) Semicolon b at X).step ≡ Ok Ends = e in cc)
ends_semicolon PastBraces b at X Y e = absurd (let f : (move_of PastBraces Semicolon b at X).step ≡ Ok Ends = e in cc)

ends_hash : (place : BytePlace) (b at : ℕ) (X Y : List ℕ) → (move_of place Hash b at X).step ≡ Ok Ends → EndsHere Hash place b at X Y
ends_hash Start b at X Y e = absurd (let f : (move_of Start Hash b at X).step ≡ Ok Ends = e in cc)
ends_hash Comment b at X Y e = absurd (let f : (move_of Comment Hash b at X).step ≡ Ok Ends = e in cc)
ends_hash Between b at X Y e = absurd (let f : (move_of Between Hash b at X).step ≡ Ok Ends = e in cc)
ends_hash Expanded b at X Y e = absurd (let f : (move_of Expanded Hash b at X).step ≡ Ok Ends = e in cc)
ends_hash (Text Bare) b at X Y e = absurd (let f : (move_of (Text Bare) Hash b at X).step ≡ Ok Ends = e in cc)
ends_hash (Text Quotes) b at X Y e = absurd (let f : (move_of (Text Quotes) Hash b at X).step ≡ Ok Ends = e in cc)
ends_hash (Text Parens) b at X Y e = absurd (let f : (move_of (Text Parens) Hash b at X).step ≡ Ok Ends = e in cc)
ends_hash PastQuotes b at X Y e = absurd (let f : (move_of PastQuotes Hash b at X).step ≡ Ok Ends = e in cc)
ends_hash (InBraces depth) b at X Y e = absurd (let f : (move_of (InBraces depth) Hash b at X).step ≡ Ok Ends = e in cc)
ends_hash PastBraces b at X Y e = absurd (let f : (move_of PastBraces Hash b at X).step ≡ Ok Ends = e in cc)

ends_dollar : (place : BytePlace) (b at : ℕ) (X Y : List ℕ) → (move_of place Dollar b at X).step ≡ Ok Ends → EndsHere Dollar place b at X Y
ends_dollar Start b at X Y e = absurd (dollar_goes Bare (dollar_of X) b X e)
ends_dollar Comment b at X Y e = absurd (let f : (move_of Comment Dollar b at X).step ≡ Ok Ends = e in cc)
ends_dollar Between b at X Y e = absurd (dollar_goes Bare (dollar_of X) b X e)
ends_dollar Expanded b at X Y e = absurd (dollar_goes Bare (dollar_of X) b X e)
ends_dollar (Text Bare) b at X Y e = absurd (dollar_goes Bare (dollar_of X) b X e)
ends_dollar (Text Quotes) b at X Y e = absurd (dollar_goes Quotes (dollar_of X) b X e)
ends_dollar (Text Parens) b at X Y e = absurd (dollar_goes Parens (dollar_of X) b X e)
ends_dollar PastQuotes b at X Y e = absurd (let f : (move_of PastQuotes Dollar b at X).step ≡ Ok Ends = e in cc)
ends_dollar (InBraces depth) b at X Y e = absurd (let f : (move_of (InBraces depth) Dollar b at X).step ≡ Ok Ends = e in cc)
ends_dollar PastBraces b at X Y e = absurd (let f : (move_of PastBraces Dollar b at X).step ≡ Ok Ends = e in cc)

ends_quote : (place : BytePlace) (b at : ℕ) (X Y : List ℕ) → (move_of place Quote b at X).step ≡ Ok Ends → EndsHere Quote place b at X Y
ends_quote Start b at X Y e = absurd (let f : (move_of Start Quote b at X).step ≡ Ok Ends = e in cc)
ends_quote Comment b at X Y e = absurd (let f : (move_of Comment Quote b at X).step ≡ Ok Ends = e in cc)
ends_quote Between b at X Y e = absurd (let f : (move_of Between Quote b at X).step ≡ Ok Ends = e in cc)
ends_quote Expanded b at X Y e = absurd (let f : (move_of Expanded Quote b at X).step ≡ Ok Ends = e in cc)
ends_quote (Text Bare) b at X Y e = absurd (let f : (move_of (Text Bare) Quote b at X).step ≡ Ok Ends = e in cc)
ends_quote (Text Quotes) b at X Y e = absurd (let f : (move_of (Text Quotes) Quote b at X).step ≡ Ok Ends = e in cc)
ends_quote (Text Parens) b at X Y e = absurd (let f : (move_of (Text Parens) Quote b at X).step ≡ Ok Ends = e in cc)
ends_quote PastQuotes b at X Y e = absurd (let f : (move_of PastQuotes Quote b at X).step ≡ Ok Ends = e in cc)
ends_quote (InBraces depth) b at X Y e = absurd (let f : (move_of (InBraces depth) Quote b at X).step ≡ Ok Ends = e in cc)
ends_quote PastBraces b at X Y e = absurd (let f : (move_of PastBraces Quote b at X).step ≡ Ok Ends = e in cc)

ends_openbracket : (place : BytePlace) (b at : ℕ) (X Y : List ℕ) → (move_of place OpenBracket b at X).step ≡ Ok Ends → EndsHere OpenBracket place b at X Y
ends_openbracket Start b at X Y e = absurd (let f : (move_of Start OpenBracket b at X).step ≡ Ok Ends = e in cc)
ends_openbracket Comment b at X Y e = absurd (let f : (move_of Comment OpenBracket b at X).step ≡ Ok Ends = e in cc)
ends_openbracket Between b at X Y e = absurd (let f : (move_of Between OpenBracket b at X).step ≡ Ok Ends = e in cc)
ends_openbracket Expanded b at X Y e = absurd (let f : (move_of Expanded OpenBracket b at X).step ≡ Ok Ends = e in cc)
ends_openbracket (Text Bare) b at X Y e = absurd (let f : (move_of (Text Bare) OpenBracket b at X).step ≡ Ok Ends = e in cc)
ends_openbracket (Text Quotes) b at X Y e = absurd (let f : (move_of (Text Quotes) OpenBracket b at X).step ≡ Ok Ends = e in cc)
ends_openbracket (Text Parens) b at X Y e = absurd (let f : (move_of (Text Parens) OpenBracket b at X).step ≡ Ok Ends = e in cc)
ends_openbracket PastQuotes b at X Y e = absurd (let f : (move_of PastQuotes OpenBracket b at X).step ≡ Ok Ends = e in cc)
ends_openbracket (InBraces depth) b at X Y e = absurd (let f : (move_of (InBraces depth) OpenBracket b at X).step ≡ Ok Ends = e in cc)
ends_openbracket PastBraces b at X Y e = absurd (let f : (move_of PastBraces OpenBracket b at X).step ≡ Ok Ends = e in cc)

ends_closebracket : (place : BytePlace) (b at : ℕ) (X Y : List ℕ) → (move_of place CloseBracket b at X).step ≡ Ok Ends → EndsHere CloseBracket place b at X Y
ends_closebracket Start b at X Y e = (inl refl, refl, refl)
ends_closebracket Comment b at X Y e = absurd (let f : (move_of Comment CloseBracket b at X).step ≡ Ok Ends = e in cc)
ends_closebracket Between b at X Y e = (inl refl, refl, refl)
ends_closebracket Expanded b at X Y e = (inl refl, refl, refl)
ends_closebracket (Text Bare) b at X Y e = (inl refl, refl, refl)
ends_closebracket (Text Quotes) b at X Y e = absurd (let f : (move_of (Text Quotes) CloseBracket b at X).step ≡ Ok Ends = e in cc)
ends_closebracket (Text Parens) b at X Y e = absurd (let f : (move_of (Text Parens) CloseBracket b at X).step ≡ Ok Ends = e in cc)
ends_closebracket PastQuotes b at X Y e = (inl refl, refl, refl)
ends_closebracket (InBraces depth) b at X Y e = absurd (let f : (move_of (InBraces depth) CloseBracket b at X).step ≡ Ok Ends = e in cc)
ends_closebracket PastBraces b at X Y e = (inl refl, refl, refl)

ends_openbrace : (place : BytePlace) (b at : ℕ) (X Y : List ℕ) → (move_of place OpenBrace b at X).step ≡ Ok Ends → EndsHere OpenBrace place b at X Y
ends_openbrace Start b at X Y e = absurd (let f : (move_of Start OpenBrace b at X).step ≡ Ok Ends = e in cc)
ends_openbrace Comment b at X Y e = absurd (let f : (move_of Comment OpenBrace b at X).step ≡ Ok Ends = e in cc)
ends_openbrace Between b at X Y e = absurd (let f : (move_of Between OpenBrace b at X).step ≡ Ok Ends = e in cc)
ends_openbrace Expanded b at X Y e = absurd (let f : (move_of Expanded OpenBrace b at X).step ≡ Ok Ends = e in cc)
ends_openbrace (Text Bare) b at X Y e = absurd (let f : (move_of (Text Bare) OpenBrace b at X).step ≡ Ok Ends = e in cc)
ends_openbrace (Text Quotes) b at X Y e = absurd (let f : (move_of (Text Quotes) OpenBrace b at X).step ≡ Ok Ends = e in cc)
ends_openbrace (Text Parens) b at X Y e = absurd (let f : (move_of (Text Parens) OpenBrace b at X).step ≡ Ok Ends = e in cc)
ends_openbrace PastQuotes b at X Y e = absurd (let f : (move_of PastQuotes OpenBrace b at X).step ≡ Ok Ends = e in cc)
ends_openbrace (InBraces depth) b at X Y e = absurd (let f : (move_of (InBraces depth) OpenBrace b at X).step ≡ Ok Ends = e in cc)
ends_openbrace PastBraces b at X Y e = absurd (let f : (move_of PastBraces OpenBrace b at X).step ≡ Ok Ends = e in cc)

ends_expansion : (place : BytePlace) (b at : ℕ) (X Y : List ℕ) → (move_of place Expansion b at X).step ≡ Ok Ends → EndsHere Expansion place b at X Y
ends_expansion Start b at X Y e = absurd (let f : (move_of Start Expansion b at X).step ≡ Ok Ends = e in cc)
ends_expansion Comment b at X Y e = absurd (let f : (move_of Comment Expansion b at X).step ≡ Ok Ends = e in cc)
ends_expansion Between b at X Y e = absurd (let f : (move_of Between Expansion b at X).step ≡ Ok Ends = e in cc)
ends_expansion Expanded b at X Y e = absurd (let f : (move_of Expanded Expansion b at X).step ≡ Ok Ends = e in cc)
ends_expansion (Text Bare) b at X Y e = absurd (let f : (move_of (Text Bare) Expansion b at X).step ≡ Ok Ends = e in cc)
ends_expansion (Text Quotes) b at X Y e = absurd (let f : (move_of (Text Quotes) Expansion b at X).step ≡ Ok Ends = e in cc)
ends_expansion (Text Parens) b at X Y e = absurd (let f : (move_of (Text Parens) Expansion b at X).step ≡ Ok Ends = e in cc)
ends_expansion PastQuotes b at X Y e = absurd (let f : (move_of PastQuotes Expansion b at X).step ≡ Ok Ends = e in cc)
ends_expansion (InBraces depth) b at X Y e = absurd (let f : (move_of (InBraces depth) Expansion b at X).step ≡ Ok Ends = e in cc)
ends_expansion PastBraces b at X Y e = absurd (let f : (move_of PastBraces Expansion b at X).step ≡ Ok Ends = e in cc)

ends_closebrace : (place : BytePlace) (b at : ℕ) (X Y : List ℕ) → (move_of place CloseBrace b at X).step ≡ Ok Ends → EndsHere CloseBrace place b at X Y
ends_closebrace Start b at X Y e = absurd (let f : (move_of Start CloseBrace b at X).step ≡ Ok Ends = e in cc)
ends_closebrace Comment b at X Y e = absurd (let f : (move_of Comment CloseBrace b at X).step ≡ Ok Ends = e in cc)
ends_closebrace Between b at X Y e = absurd (let f : (move_of Between CloseBrace b at X).step ≡ Ok Ends = e in cc)
ends_closebrace Expanded b at X Y e = absurd (let f : (move_of Expanded CloseBrace b at X).step ≡ Ok Ends = e in cc)
ends_closebrace (Text Bare) b at X Y e = absurd (let f : (move_of (Text Bare) CloseBrace b at X).step ≡ Ok Ends = e in cc)
ends_closebrace (Text Quotes) b at X Y e = absurd (let f : (move_of (Text Quotes) CloseBrace b at X).step ≡ Ok Ends = e in cc)
ends_closebrace (Text Parens) b at X Y e = absurd (let f : (move_of (Text Parens) CloseBrace b at X).step ≡ Ok Ends = e in cc)
ends_closebrace PastQuotes b at X Y e = absurd (let f : (move_of PastQuotes CloseBrace b at X).step ≡ Ok Ends = e in cc)
ends_closebrace (InBraces depth) b at X Y e = absurd (brace_goes depth b e)
ends_closebrace PastBraces b at X Y e = absurd (let f : (move_of PastBraces CloseBrace b at X).step ≡ Ok Ends = e in cc)

ends_closeparen : (place : BytePlace) (b at : ℕ) (X Y : List ℕ) → (move_of place CloseParen b at X).step ≡ Ok Ends → EndsHere CloseParen place b at X Y
ends_closeparen Start b at X Y e = absurd (let f : (move_of Start CloseParen b at X).step ≡ Ok Ends = e in cc)
ends_closeparen Comment b at X Y e = absurd (let f : (move_of Comment CloseParen b at X).step ≡ Ok Ends = e in cc)
ends_closeparen Between b at X Y e = absurd (let f : (move_of Between CloseParen b at X).step ≡ Ok Ends = e in cc)
ends_closeparen Expanded b at X Y e = absurd (let f : (move_of Expanded CloseParen b at X).step ≡ Ok Ends = e in cc)
ends_closeparen (Text Bare) b at X Y e = absurd (let f : (move_of (Text Bare) CloseParen b at X).step ≡ Ok Ends = e in cc)
ends_closeparen (Text Quotes) b at X Y e = absurd (let f : (move_of (Text Quotes) CloseParen b at X).step ≡ Ok Ends = e in cc)
ends_closeparen (Text Parens) b at X Y e = (inr refl, refl, refl)
ends_closeparen PastQuotes b at X Y e = absurd (let f : (move_of PastQuotes CloseParen b at X).step ≡ Ok Ends = e in cc)
ends_closeparen (InBraces depth) b at X Y e = absurd (let f : (move_of (InBraces depth) CloseParen b at X).step ≡ Ok Ends = e in cc)
ends_closeparen PastBraces b at X Y e = absurd (let f : (move_of PastBraces CloseParen b at X).step ≡ Ok Ends = e in cc)

ends_backslash : (place : BytePlace) (b at : ℕ) (X Y : List ℕ) → (move_of place Backslash b at X).step ≡ Ok Ends → EndsHere Backslash place b at X Y
ends_backslash Start b at X Y e = absurd (let f : (move_of Start Backslash b at X).step ≡ Ok Ends = e in cc)
ends_backslash Comment b at X Y e = absurd (let f : (move_of Comment Backslash b at X).step ≡ Ok Ends = e in cc)
ends_backslash Between b at X Y e = absurd (let f : (move_of Between Backslash b at X).step ≡ Ok Ends = e in cc)
ends_backslash Expanded b at X Y e = absurd (let f : (move_of Expanded Backslash b at X).step ≡ Ok Ends = e in cc)
ends_backslash (Text Bare) b at X Y e = absurd (let f : (move_of (Text Bare) Backslash b at X).step ≡ Ok Ends = e in cc)
ends_backslash (Text Quotes) b at X Y e = absurd (let f : (move_of (Text Quotes) Backslash b at X).step ≡ Ok Ends = e in cc)
ends_backslash (Text Parens) b at X Y e = absurd (let f : (move_of (Text Parens) Backslash b at X).step ≡ Ok Ends = e in cc)
ends_backslash PastQuotes b at X Y e = absurd (let f : (move_of PastQuotes Backslash b at X).step ≡ Ok Ends = e in cc)
ends_backslash (InBraces depth) b at X Y e = absurd (let f : (move_of (InBraces depth) Backslash b at X).step ≡ Ok Ends = e in cc)
ends_backslash PastBraces b at X Y e = absurd (let f : (move_of PastBraces Backslash b at X).step ≡ Ok Ends = e in cc)

ends_continuation : (place : BytePlace) (b at : ℕ) (X Y : List ℕ) → (move_of place Continuation b at X).step ≡ Ok Ends → EndsHere Continuation place b at X Y
ends_continuation Start b at X Y e = absurd (let f : (move_of Start Continuation b at X).step ≡ Ok Ends = e in cc)
ends_continuation Comment b at X Y e = absurd (let f : (move_of Comment Continuation b at X).step ≡ Ok Ends = e in cc)
ends_continuation Between b at X Y e = absurd (let f : (move_of Between Continuation b at X).step ≡ Ok Ends = e in cc)
ends_continuation Expanded b at X Y e = absurd (let f : (move_of Expanded Continuation b at X).step ≡ Ok Ends = e in cc)
ends_continuation (Text Bare) b at X Y e = absurd (let f : (move_of (Text Bare) Continuation b at X).step ≡ Ok Ends = e in cc)
ends_continuation (Text Quotes) b at X Y e = absurd (let f : (move_of (Text Quotes) Continuation b at X).step ≡ Ok Ends = e in cc)
ends_continuation (Text Parens) b at X Y e = absurd (let f : (move_of (Text Parens) Continuation b at X).step ≡ Ok Ends = e in cc)
ends_continuation PastQuotes b at X Y e = absurd (let f : (move_of PastQuotes Continuation b at X).step ≡ Ok Ends = e in cc)
ends_continuation (InBraces depth) b at X Y e = absurd (let f : (move_of (InBraces depth) Continuation b at X).step ≡ Ok Ends = e in cc)
ends_continuation PastBraces b at X Y e = absurd (let f : (move_of PastBraces Continuation b at X).step ≡ Ok Ends = e in cc)

ends_other : (place : BytePlace) (b at : ℕ) (X Y : List ℕ) → (move_of place Other b at X).step ≡ Ok Ends → EndsHere Other place b at X Y
ends_other Start b at X Y e = absurd (let f : (move_of Start Other b at X).step ≡ Ok Ends = e in cc)
ends_other Comment b at X Y e = absurd (let f : (move_of Comment Other b at X).step ≡ Ok Ends = e in cc)
ends_other Between b at X Y e = absurd (let f : (move_of Between Other b at X).step ≡ Ok Ends = e in cc)
ends_other Expanded b at X Y e = absurd (let f : (move_of Expanded Other b at X).step ≡ Ok Ends = e in cc)
ends_other (Text Bare) b at X Y e = absurd (let f : (move_of (Text Bare) Other b at X).step ≡ Ok Ends = e in cc)
ends_other (Text Quotes) b at X Y e = absurd (let f : (move_of (Text Quotes) Other b at X).step ≡ Ok Ends = e in cc)
ends_other (Text Parens) b at X Y e = absurd (let f : (move_of (Text Parens) Other b at X).step ≡ Ok Ends = e in cc)
ends_other PastQuotes b at X Y e = absurd (let f : (move_of PastQuotes Other b at X).step ≡ Ok Ends = e in cc)
ends_other (InBraces depth) b at X Y e = absurd (let f : (move_of (InBraces depth) Other b at X).step ≡ Ok Ends = e in cc)
ends_other PastBraces b at X Y e = absurd (let f : (move_of PastBraces Other b at X).step ≡ Ok Ends = e in cc)

abbrev pub ClassEnds : Kind → BytePlace → ℕ → ℕ → List ℕ → List ℕ → Type 0
ClassEnds k place b at X Y =
    ((k ≡ CloseBracket) ⊎ (k ≡ CloseParen)) × (move_of place (class_means true k X) b at X ≡ move_of place (class_means true k Y) b at Y) × (read_at_end false place at ≡ put (changed (move_of place (class_means true k X) b at X).changes) (Ok (last_rest at)))

class_openbrace : (place : BytePlace) (b at : ℕ) (X : List ℕ) → (move_of place (class_means true OpenBrace X) b at X).step ≡ Ok Ends → ⊥
class_openbrace place b at X = elim (cases_Bool (begins_expansion X)) [
  | inl t ↦ rw t (λ e. none (ends_expansion place b at X X e).0)
  | inr t ↦ rw t (λ e. none_open (ends_openbrace place b at X X e).0)
]
  where
    none : (Expansion ≡ CloseBracket) ⊎ (Expansion ≡ CloseParen) → ⊥
    none (inl e) = cc
    none (inr e) = cc

    none_open : (OpenBrace ≡ CloseBracket) ⊎ (OpenBrace ≡ CloseParen) → ⊥
    none_open (inl e) = cc
    none_open (inr e) = cc

class_backslash : (place : BytePlace) (b at : ℕ) (X : List ℕ) → (move_of place (class_means true Backslash X) b at X).step ≡ Ok Ends → ⊥
class_backslash place b at X = elim (cases_Bool (begins_newline X)) [
  | inl t ↦ rw t (λ e. none (ends_continuation place b at X X e).0)
  | inr t ↦ rw t (λ e. none_plain (ends_backslash place b at X X e).0)
]
  where
    none : (Continuation ≡ CloseBracket) ⊎ (Continuation ≡ CloseParen) → ⊥
    none (inl e) = cc
    none (inr e) = cc

    none_plain : (Backslash ≡ CloseBracket) ⊎ (Backslash ≡ CloseParen) → ⊥
    none_plain (inl e) = cc
    none_plain (inr e) = cc

pub class_ends : (k : Kind) (place : BytePlace) (b at : ℕ) (X Y : List ℕ) → (move_of place (class_means true k X) b at X).step ≡ Ok Ends → ClassEnds k place b at X Y
class_ends Blank place b at X Y e = ends_blank place b at X Y e
class_ends Newline place b at X Y e = ends_newline place b at X Y e
class_ends Semicolon place b at X Y e = ends_semicolon place b at X Y e
class_ends Hash place b at X Y e = ends_hash place b at X Y e
class_ends Dollar place b at X Y e = ends_dollar place b at X Y e
class_ends Quote place b at X Y e = ends_quote place b at X Y e
class_ends OpenBracket place b at X Y e = ends_openbracket place b at X Y e
class_ends CloseBracket place b at X Y e = ends_closebracket place b at X Y e
class_ends OpenBrace place b at X Y e = absurd (class_openbrace place b at X e)
class_ends Expansion place b at X Y e = ends_expansion place b at X Y e
class_ends CloseBrace place b at X Y e = ends_closebrace place b at X Y e
class_ends CloseParen place b at X Y e = ends_closeparen place b at X Y e
class_ends Backslash place b at X Y e = absurd (class_backslash place b at X e)
class_ends Continuation place b at X Y e = ends_continuation place b at X Y e
class_ends Other place b at X Y e = ends_other place b at X Y e

-- outside of brackets and parentheses nothing ends
pub none_outside : (k : Kind) (place : BytePlace) (b at : ℕ) (X : List ℕ) → (move_of place (class_means false k X) b at X).step ≡ Ok Ends → ⊥
none_outside Blank place b at X e = no_blank (ends_blank place b at X X e).0
  where
    no_blank : (Blank ≡ CloseBracket) ⊎ (Blank ≡ CloseParen) → ⊥
    no_blank (inl f) = cc
    no_blank (inr f) = cc
none_outside Newline place b at X e = no_newline (ends_newline place b at X X e).0
  where
    no_newline : (Newline ≡ CloseBracket) ⊎ (Newline ≡ CloseParen) → ⊥
    no_newline (inl f) = cc
    no_newline (inr f) = cc
none_outside Semicolon place b at X e = no_semicolon (ends_semicolon place b at X X e).0
  where
    no_semicolon : (Semicolon ≡ CloseBracket) ⊎ (Semicolon ≡ CloseParen) → ⊥
    no_semicolon (inl f) = cc
    no_semicolon (inr f) = cc
none_outside Hash place b at X e = no_hash (ends_hash place b at X X e).0
  where
    no_hash : (Hash ≡ CloseBracket) ⊎ (Hash ≡ CloseParen) → ⊥
    no_hash (inl f) = cc
    no_hash (inr f) = cc
none_outside Dollar place b at X e = no_dollar (ends_dollar place b at X X e).0
  where
    no_dollar : (Dollar ≡ CloseBracket) ⊎ (Dollar ≡ CloseParen) → ⊥
    no_dollar (inl f) = cc
    no_dollar (inr f) = cc
none_outside Quote place b at X e = no_quote (ends_quote place b at X X e).0
  where
    no_quote : (Quote ≡ CloseBracket) ⊎ (Quote ≡ CloseParen) → ⊥
    no_quote (inl f) = cc
    no_quote (inr f) = cc
none_outside OpenBracket place b at X e = no_openbracket (ends_openbracket place b at X X e).0
  where
    no_openbracket : (OpenBracket ≡ CloseBracket) ⊎ (OpenBracket ≡ CloseParen) → ⊥
    no_openbracket (inl f) = cc
    no_openbracket (inr f) = cc
none_outside CloseBracket place b at X e = no_other (ends_other place b at X X e).0
  where
    no_other : (Other ≡ CloseBracket) ⊎ (Other ≡ CloseParen) → ⊥
    no_other (inl f) = cc
    no_other (inr f) = cc
none_outside OpenBrace place b at X e = class_openbrace place b at X e
none_outside Expansion place b at X e = no_expansion (ends_expansion place b at X X e).0
  where
    no_expansion : (Expansion ≡ CloseBracket) ⊎ (Expansion ≡ CloseParen) → ⊥
    no_expansion (inl f) = cc
    no_expansion (inr f) = cc
none_outside CloseBrace place b at X e = no_closebrace (ends_closebrace place b at X X e).0
  where
    no_closebrace : (CloseBrace ≡ CloseBracket) ⊎ (CloseBrace ≡ CloseParen) → ⊥
    no_closebrace (inl f) = cc
    no_closebrace (inr f) = cc
none_outside CloseParen place b at X e = no_other (ends_other place b at X X e).0
  where
    no_other : (Other ≡ CloseBracket) ⊎ (Other ≡ CloseParen) → ⊥
    no_other (inl f) = cc
    no_other (inr f) = cc
none_outside Backslash place b at X e = class_backslash place b at X e
none_outside Continuation place b at X e = no_continuation (ends_continuation place b at X X e).0
  where
    no_continuation : (Continuation ≡ CloseBracket) ⊎ (Continuation ≡ CloseParen) → ⊥
    no_continuation (inl f) = cc
    no_continuation (inr f) = cc
none_outside Other place b at X e = no_other (ends_other place b at X X e).0
  where
    no_other : (Other ≡ CloseBracket) ⊎ (Other ≡ CloseParen) → ⊥
    no_other (inl f) = cc
    no_other (inr f) = cc

class_bracket : (b : ℕ) → class_of b ≡ CloseBracket → b ≡ 93
unfolding class_of
class_bracket b =
    cond_both (nat_eq b 10) _ _ Found (λ _ e. absurd (noneNewline e)) (λ _.
    cond_both (is_blank b) _ _ Found (λ _ e. absurd (noneBlank e)) (λ _.
    cond_both (nat_eq b 59) _ _ Found (λ _ e. absurd (noneSemicolon e)) (λ _.
    cond_both (nat_eq b 35) _ _ Found (λ _ e. absurd (noneHash e)) (λ _.
    cond_both (nat_eq b 36) _ _ Found (λ _ e. absurd (noneDollar e)) (λ _.
    cond_both (nat_eq b 34) _ _ Found (λ _ e. absurd (noneQuote e)) (λ _.
    cond_both (nat_eq b 91) _ _ Found (λ _ e. absurd (noneOpenBracket e)) (λ _.
    cond_both (nat_eq b 93) _ _ Found (λ e _. grind (arith, nat_tests)) (λ _.
    cond_both (nat_eq b 123) _ _ Found (λ _ e. absurd (noneOpenBrace e)) (λ _.
    cond_both (nat_eq b 125) _ _ Found (λ _ e. absurd (noneCloseBrace e)) (λ _.
    cond_both (nat_eq b 41) _ _ Found (λ _ e. absurd (noneCloseParen e)) (λ _.
    cond_both (nat_eq b 92) _ _ Found (λ _ e. absurd (noneBackslash e)) (λ _.
    λ e. absurd (noneOther e)))))))))))))
  where
    Found : Kind → Type 0
    Found k = k ≡ CloseBracket → b ≡ 93

    noneNewline : Newline ≡ CloseBracket → ⊥
    noneNewline e = cc

    noneBlank : Blank ≡ CloseBracket → ⊥
    noneBlank e = cc

    noneSemicolon : Semicolon ≡ CloseBracket → ⊥
    noneSemicolon e = cc

    noneHash : Hash ≡ CloseBracket → ⊥
    noneHash e = cc

    noneDollar : Dollar ≡ CloseBracket → ⊥
    noneDollar e = cc

    noneQuote : Quote ≡ CloseBracket → ⊥
    noneQuote e = cc

    noneOpenBracket : OpenBracket ≡ CloseBracket → ⊥
    noneOpenBracket e = cc

    noneOpenBrace : OpenBrace ≡ CloseBracket → ⊥
    noneOpenBrace e = cc

    noneCloseBrace : CloseBrace ≡ CloseBracket → ⊥
    noneCloseBrace e = cc

    noneCloseParen : CloseParen ≡ CloseBracket → ⊥
    noneCloseParen e = cc

    noneBackslash : Backslash ≡ CloseBracket → ⊥
    noneBackslash e = cc

    noneOther : Other ≡ CloseBracket → ⊥
    noneOther e = cc

class_paren : (b : ℕ) → class_of b ≡ CloseParen → b ≡ 41
unfolding class_of
class_paren b =
    cond_both (nat_eq b 10) _ _ Found (λ _ e. absurd (noneNewline e)) (λ _.
    cond_both (is_blank b) _ _ Found (λ _ e. absurd (noneBlank e)) (λ _.
    cond_both (nat_eq b 59) _ _ Found (λ _ e. absurd (noneSemicolon e)) (λ _.
    cond_both (nat_eq b 35) _ _ Found (λ _ e. absurd (noneHash e)) (λ _.
    cond_both (nat_eq b 36) _ _ Found (λ _ e. absurd (noneDollar e)) (λ _.
    cond_both (nat_eq b 34) _ _ Found (λ _ e. absurd (noneQuote e)) (λ _.
    cond_both (nat_eq b 91) _ _ Found (λ _ e. absurd (noneOpenBracket e)) (λ _.
    cond_both (nat_eq b 93) _ _ Found (λ _ e. absurd (noneCloseBracket e)) (λ _.
    cond_both (nat_eq b 123) _ _ Found (λ _ e. absurd (noneOpenBrace e)) (λ _.
    cond_both (nat_eq b 125) _ _ Found (λ _ e. absurd (noneCloseBrace e)) (λ _.
    cond_both (nat_eq b 41) _ _ Found (λ e _. grind (arith, nat_tests)) (λ _.
    cond_both (nat_eq b 92) _ _ Found (λ _ e. absurd (noneBackslash e)) (λ _.
    λ e. absurd (noneOther e)))))))))))))
  where
    Found : Kind → Type 0
    Found k = k ≡ CloseParen → b ≡ 41

    noneNewline : Newline ≡ CloseParen → ⊥
    noneNewline e = cc

    noneBlank : Blank ≡ CloseParen → ⊥
    noneBlank e = cc

    noneSemicolon : Semicolon ≡ CloseParen → ⊥
    noneSemicolon e = cc

    noneHash : Hash ≡ CloseParen → ⊥
    noneHash e = cc

    noneDollar : Dollar ≡ CloseParen → ⊥
    noneDollar e = cc

    noneQuote : Quote ≡ CloseParen → ⊥
    noneQuote e = cc

    noneOpenBracket : OpenBracket ≡ CloseParen → ⊥
    noneOpenBracket e = cc

    noneCloseBracket : CloseBracket ≡ CloseParen → ⊥
    noneCloseBracket e = cc

    noneOpenBrace : OpenBrace ≡ CloseParen → ⊥
    noneOpenBrace e = cc

    noneCloseBrace : CloseBrace ≡ CloseParen → ⊥
    noneCloseBrace e = cc

    noneBackslash : Backslash ≡ CloseParen → ⊥
    noneBackslash e = cc

    noneOther : Other ≡ CloseParen → ⊥
    noneOther e = cc

pub class_closes : (b : ℕ) → (class_of b ≡ CloseBracket) ⊎ (class_of b ≡ CloseParen) → IsCloser b
class_closes b (inl e) = inl (class_bracket b e)
class_closes b (inr e) = inr (class_paren b e)
