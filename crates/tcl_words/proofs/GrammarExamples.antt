-- What the grammar relates, on scripts whose words a Tcl shell shows.
use lib.Utf8.{encode}
use Rattle.std.proofs.Common.{refl, ℕ, [], ◌∷◌, List, Some, Ok, Err, codes, false, true}
use Rattle.tcl_text.specs.Backslash.{escape}
use Rattle.tcl_words.specs.Kinds.{dollar_of}
use Rattle.tcl_words.specs.Classes.{class_of}
use Rattle.tcl_words.specs.Spans.{word_of, command_from}
use Rattle.tcl_words.specs.Grammar.{IsInnerOf, IsScript, leaves, fails}
use Rattle.tcl_words.specs.OperandGrammar.{IsBehindBracket, IsBehindDollar, IsBehindQuote}
use Rattle.tcl_words.specs.declared.script.WordForm.TheVariants.{Bare, Quoted, Braced}
use Rattle.tcl_words.specs.declared.script.Piece.TheVariants.{Literal, Variable, Element, Bracket}
use Rattle.tcl_words.specs.declared.script.Command.{Command}
use Rattle.tcl_text.specs.declared.fault.ParseFault.TheVariants.{MissingBrace, MissingBracket, ExtraAfterBrace, MissingParen}
use Rattle.tcl_text.specs.declared.fault.ParseFault.{ParseFault}
use Rattle.tcl_words.proofs.Grammars.{read_is_cut, told_is_cut}
use Rattle.tcl_words.proofs.OperandsRead.{bracket_is, substitution_is}
use Rattle.tcl_words.proofs.QuotesRead.{quotes_are}

abbrev Cut : List ℕ → List Command → Type 0
Cut text commands = IsScript (IsInnerOf 200) false 0 text commands (leaves [])

abbrev Faulty : List ℕ → ParseFault → Type 0
Faulty text fault = (commands : List Command) × IsScript (IsInnerOf 200) false 0 text commands (fails fault)

abbrev pieces_text : List ℕ
pieces_text = codes "p \"a$::b(c[d e]).\\x41[f \"]\"]\" {*}$g"

abbrev pieces_commands : List Command
pieces_commands =
    command_from 0 (
    word_of Bare false 0 (Literal (codes "p") ∷ []) 1
    ∷ word_of Quoted false 2 (Literal (codes "a") ∷ Element (codes "::b") (codes "c[d e]") ∷ Literal (codes ".A") ∷ Bracket (codes "f \"]\"") ∷ []) 29
    ∷ word_of Bare true 30 (Variable (codes "g") ∷ []) 35
    ∷ []
    )
    ∷ []

pieces_cut : Cut pieces_text pieces_commands
unfolding class_of dollar_of escape encode
pieces_cut = read_is_cut pieces_text pieces_commands refl

abbrev braces_text : List ℕ
braces_text = codes "{a\\}\\\n  b{}} {*} ${c d}"

abbrev braces_commands : List Command
braces_commands =
    command_from 0 (
    word_of Braced false 0 (Literal (codes "a\\} b{}") ∷ []) 12
    ∷ word_of Braced false 13 (Literal (codes "*") ∷ []) 16
    ∷ word_of Bare false 17 (Variable (codes "c d") ∷ []) 23
    ∷ []
    )
    ∷ []

braces_cut : Cut braces_text braces_commands
unfolding class_of dollar_of escape
braces_cut = read_is_cut braces_text braces_commands refl

-- a backslash before a newline separates words, and a comment swallows a bracket
abbrev lines_text : List ℕ
lines_text = codes "a\\\n b[# ]\nc];d"

abbrev lines_commands : List Command
lines_commands =
    command_from 0 (
    word_of Bare false 0 (Literal (codes "a") ∷ []) 1
    ∷ word_of Bare false 4 (Literal (codes "b") ∷ Bracket (codes "# ]\nc") ∷ []) 12
    ∷ []
    )
    ∷ command_from 13 (word_of Bare false 13 (Literal (codes "d") ∷ []) 14 ∷ [])
    ∷ []

lines_cut : Cut lines_text lines_commands
unfolding class_of escape
lines_cut = read_is_cut lines_text lines_commands refl

-- the fault within stands before that of the quote that never ends
inner_first : Faulty (codes "\"a[b {c}d") ExtraAfterBrace
unfolding class_of
inner_first = told_is_cut (codes "\"a[b {c}d") ExtraAfterBrace refl

never_closed : Faulty (codes "a [b; # c]") MissingBracket
unfolding class_of
never_closed = told_is_cut (codes "a [b; # c]") MissingBracket refl

paren : Faulty (codes "$a(b") MissingParen
unfolding class_of dollar_of
paren = told_is_cut (codes "$a(b") MissingParen refl

-- a quote in brackets doesn't end the quotes around them
quoted_operand : IsBehindQuote 200 (codes "a$b[c \"]\"]\" + 1") (Ok (Literal (codes "a") ∷ Variable (codes "b") ∷ Bracket (codes "c \"]\"") ∷ [], 11))
unfolding class_of dollar_of
quoted_operand = quotes_are 200 (codes "a$b[c \"]\"]\" + 1") (Ok (Literal (codes "a") ∷ Variable (codes "b") ∷ Bracket (codes "c \"]\"") ∷ [], 11)) refl

element_operand : IsBehindDollar 200 (codes "a(b c) + 1") (Ok (Some (Element (codes "a") (codes "b c"), 6)))
unfolding class_of dollar_of
element_operand = substitution_is 200 (codes "a(b c) + 1") (Ok (Some (Element (codes "a") (codes "b c"), 6))) refl

unclosed_operand : IsBehindBracket 200 (codes "a {b]") (Err MissingBrace)
unfolding class_of
unclosed_operand = bracket_is 200 (codes "a {b]") (Err MissingBrace) refl
