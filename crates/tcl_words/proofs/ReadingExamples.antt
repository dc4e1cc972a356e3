-- What the definitions compute on scripts whose words a Tcl shell shows.
use lib.Utf8.{encode}
use Rattle.std.proofs.Common.{◌≡◌, refl, ℕ, [], ◌∷◌, List, Ok, Err, codes, false, true}
use Rattle.tcl_text.specs.Backslash.{escape}
use Rattle.tcl_words.specs.Kinds.{dollar_of}
use Rattle.tcl_words.specs.Classes.{class_of}
use Rattle.tcl_words.specs.Spans.{word_of, command_from}
use Rattle.tcl_words.specs.Reading.{rest_of, commands_in, index_pieces_of, outermost}
use Rattle.tcl_words.specs.declared.kind.BytePlace.TheVariants.{Start}
use Rattle.tcl_words.specs.declared.script.WordForm.TheVariants.{Bare, Quoted, Braced}
use Rattle.tcl_words.specs.declared.script.Piece.TheVariants.{Literal, Variable, Element, Bracket}
use Rattle.tcl_words.specs.declared.script.Command.{Command}
use Rattle.tcl_text.specs.declared.fault.ParseFault.{ParseFault}
use Rattle.tcl_text.specs.declared.fault.ParseFault.TheVariants.{MissingBrace, MissingBracket, MissingQuote, ExtraAfterBrace, ExtraAfterQuote, MissingParen}
use Rattle.std.specs.Prelude.{Result}

abbrev read : List ℕ → Result (List Command) ParseFault
read text = commands_in (rest_of text outermost 0 Start 0)

three_words : read (codes "set a 1; # c") ≡ Ok (
    command_from 0 (
    word_of Bare false 0 (Literal (codes "set") ∷ []) 3
    ∷ word_of Bare false 4 (Literal (codes "a") ∷ []) 5
    ∷ word_of Bare false 6 (Literal (codes "1") ∷ []) 7
    ∷ []
    )
    ∷ []
    )
unfolding class_of
three_words = refl

brace : read (codes "{") ≡ Err MissingBrace
unfolding class_of
brace = refl

bracket : read (codes "[a") ≡ Err MissingBracket
unfolding class_of
bracket = refl

quote : read (codes "\"a") ≡ Err MissingQuote
unfolding class_of
quote = refl

after_brace : read (codes "{a}b") ≡ Err ExtraAfterBrace
unfolding class_of
after_brace = refl

after_quote : read (codes "\"a\"b") ≡ Err ExtraAfterQuote
unfolding class_of
after_quote = refl

paren : read (codes "$a(b") ≡ Err MissingParen
unfolding class_of dollar_of
paren = refl

-- the fault within stands before that of the quote that never ends
inner_first : read (codes "\"a[b {c}d") ≡ Err ExtraAfterBrace
unfolding class_of
inner_first = refl

pieces : read (codes "p \"a$::b(c[d e]).\\x41[f \"]\"]\" {*}$g") ≡ Ok (
    command_from 0 (
    word_of Bare false 0 (Literal (codes "p") ∷ []) 1
    ∷ word_of Quoted false 2 (Literal (codes "a") ∷ Element (codes "::b") (codes "c[d e]") ∷ Literal (codes ".A") ∷ Bracket (codes "f \"]\"") ∷ []) 29
    ∷ word_of Bare true 30 (Variable (codes "g") ∷ []) 35
    ∷ []
    )
    ∷ []
    )
unfolding class_of dollar_of escape encode
pieces = refl

braces : read (codes "{a\\}\\\n  b{}} {*} ${c d}") ≡ Ok (
    command_from 0 (
    word_of Braced false 0 (Literal (codes "a\\} b{}") ∷ []) 12
    ∷ word_of Braced false 13 (Literal (codes "*") ∷ []) 16
    ∷ word_of Bare false 17 (Variable (codes "c d") ∷ []) 23
    ∷ []
    )
    ∷ []
    )
unfolding class_of dollar_of escape
braces = refl

-- a backslash before a newline separates words, and a comment swallows a bracket
lines : read (codes "a\\\n b[# ]\nc];d") ≡ Ok (
    command_from 0 (
    word_of Bare false 0 (Literal (codes "a") ∷ []) 1
    ∷ word_of Bare false 4 (Literal (codes "b") ∷ Bracket (codes "# ]\nc") ∷ []) 12
    ∷ []
    )
    ∷ command_from 13 (word_of Bare false 13 (Literal (codes "d") ∷ []) 14 ∷ [])
    ∷ []
    )
unfolding class_of escape
lines = refl

index : index_pieces_of (codes "a)[b)] $c(d)") ≡ Ok (Literal (codes "a)") ∷ Bracket (codes "b)") ∷ Literal (codes " ") ∷ Element (codes "c") (codes "d") ∷ [])
unfolding class_of dollar_of
index = refl
