-- Steps. The tree of a text, by recursion on its bytes: what stands open before a byte, and what the byte makes of it.
use Rattle.std.specs.Prelude.{ℕ, zero, suc, ◌-◌, Bool, true, false, not, ◌==◌, nat_lt, nat_le, if◌then◌else◌, List, [], ◌∷◌, length, take, drop, Option, Some, None, Result, Ok, Err}
use Rattle.std.specs.Str.{is_utf8}
use Rattle.tcl_text.specs.Readings.{boolean_of}
use Rattle.tcl_expr.specs.declared.fault.ExprFault.{ExprFault}
use Rattle.tcl_expr.specs.declared.fault.ExprFault.TheVariants.{Syntax, Script}
use Rattle.tcl_expr.specs.Faults.{too_long, missing_paren}
use Rattle.tcl_expr.specs.declared.operators.UnaryOperator.{UnaryOperator}
use Rattle.tcl_expr.specs.declared.operators.UnaryOperator.TheVariants.{Negate, Keep, Complement, Not}
use Rattle.tcl_expr.specs.declared.operators.Infix.{Infix}
use Rattle.tcl_expr.specs.declared.tokens.Mark.{Mark}
use Rattle.tcl_expr.specs.declared.tokens.Mark.TheVariants as mark
use Rattle.tcl_expr.specs.declared.tokens.Link.{Link}
use Rattle.tcl_expr.specs.declared.tokens.Link.TheVariants as link
use Rattle.tcl_expr.specs.declared.step.Step.{Step}
use Rattle.tcl_expr.specs.Tokens.{mark_of, link_at, ends_number}
use Rattle.tcl_expr.specs.Counts.{number_length}
use Rattle.tcl_expr.specs.Operators.{level_of, between}
use Rattle.tcl_expr.specs.Trees.{Tree, Integer, Plain, Unary, Choice}
use Rattle.tcl_expr.specs.Steps.{steps_of}
use Rattle.tcl_expr.specs.Braces.{braced}
use Rattle.tcl_expr.specs.declared.braces.BracePlace.TheVariants.{Plain as Unescaped}
use Rattle.tcl_expr.specs.Substitution.{piece_tree, text_tree}
use Rattle.tcl_words.specs.Classes.{begins_newline}
use Rattle.tcl_words.specs.Kinds.{name_bytes}
use Rattle.tcl_words.specs.Operands.{bracket_of, substitution_of, quoted_of}
use Rattle.tcl_words.specs.declared.script.Piece.{Piece}
use Rattle.tcl_text.specs.declared.fault.ParseFault.{ParseFault}
use Rattle.tcl_text.specs.Limits.{most_bytes, most_nested}

-- ── what stands open ──

pub data Opened : Type 0 where
  -- an operator that waits for the operand behind it
  Before : UnaryOperator → Opened
  -- an operator that has its left operand
  After : Infix → Tree → Opened
  -- a parenthesis
  Paren : Opened
  -- a condition with its `?`, and with what is chosen and its `:`
  Question : Tree → Opened
  Otherwise : Tree → Tree → Opened

-- how many parentheses are open
abbrev pub parens : List Opened → ℕ
parens [] = 0
parens (Paren ∷ opened) = suc (parens opened)
parens (Before operator ∷ opened) = parens opened
parens (After operator a ∷ opened) = parens opened
parens (Question a ∷ opened) = parens opened
parens (Otherwise a b ∷ opened) = parens opened

-- what stands open ends here, where what comes binds no tighter than this level; only at level 0 a choice ends
abbrev pub ends_at : ℕ → Opened → Bool
ends_at level (Before operator) = true
ends_at level (After operator a) = nat_le level (level_of operator)
ends_at level Paren = false
ends_at level (Question a) = false
ends_at level (Otherwise a b) = level == 0

-- the tree that it is with what stands behind it
abbrev pub ended : Opened → Tree → Tree
ended (Before operator) tree = Unary operator tree
ended (After operator a) tree = between operator a tree
ended Paren tree = tree
ended (Question a) tree = tree
ended (Otherwise a b) tree = Choice a b tree

-- what is left open, and the tree in front of what comes
pub record Closed : Type 0 where
  pub opened : List Opened
  pub tree : Tree

-- a tree with all that ends behind it, innermost first
abbrev pub close : ℕ → List Opened → Tree → Closed
close level [] tree = record { opened = []; tree = tree }
close level (own ∷ opened) tree = if ends_at level own then close level opened (ended own tree) else record { opened = own ∷ opened; tree = tree }

-- ── bytes ──

-- an operand is due, or stands before
pub data OperandPlace : Type 0 where
  AtOperand : OperandPlace
  AtOperator : Tree → OperandPlace

-- how reading goes on: so many further bytes are taken
pub record ReadingMove : Type 0 where
  pub skip : ℕ
  pub place : OperandPlace
  pub opened : List Opened

abbrev pub move : ℕ → OperandPlace → List Opened → Result ReadingMove ExprFault
move skip place opened = Ok (record { skip = skip; place = place; opened = opened })

-- white space of one byte, or a newline behind a backslash
abbrev pub at_backslash : OperandPlace → List Opened → List ℕ → Result ReadingMove ExprFault
at_backslash place opened behind = if begins_newline behind then move 1 place opened else Err Syntax

abbrev pub at_sign : UnaryOperator → List Opened → Result ReadingMove ExprFault
at_sign operator opened = move 0 AtOperand (Before operator ∷ opened)

abbrev pub at_paren : List Opened → Result ReadingMove ExprFault
at_paren opened = if nat_lt (parens opened) most_nested then move 0 AtOperand (Paren ∷ opened) else Err too_long

abbrev pub at_number : ℕ → List Opened → List ℕ → Result ReadingMove ExprFault
at_number n opened text = if ends_number (drop n text) then move (n - 1) (AtOperator (Integer (take n text))) opened else Err Syntax

abbrev pub word_or_fault : ℕ → List Opened → List ℕ → Option Bool → Result ReadingMove ExprFault
word_or_fault n opened word (Some truth) = move (n - 1) (AtOperator (Plain word)) opened
word_or_fault n opened word None = Err Syntax

abbrev pub at_word : ℕ → List Opened → List ℕ → Result ReadingMove ExprFault
at_word n opened text = word_or_fault n opened (take n text) (boolean_of (take n text))

-- how many parentheses, brackets and indices may still be opened in one another
abbrev pub room_in : List Opened → ℕ
room_in opened = most_nested - parens opened

abbrev pub with_operand : ℕ → List Opened → Result Tree ExprFault → Result ReadingMove ExprFault
with_operand skip opened (Ok tree) = move skip (AtOperator tree) opened
with_operand skip opened (Err fault) = Err fault

abbrev pub with_piece : List Opened → Result (Piece × ℕ) ParseFault → Result ReadingMove ExprFault
with_piece opened (Ok found) = with_operand found.1 opened (piece_tree (room_in opened) found.0)
with_piece opened (Err fault) = Err (Script fault)

abbrev pub with_pieces : List Opened → Result (List Piece × ℕ) ParseFault → Result ReadingMove ExprFault
with_pieces opened (Ok found) = with_operand found.1 opened (text_tree (room_in opened) found.0)
with_pieces opened (Err fault) = Err (Script fault)

-- a `$` with nothing that it could begin is no operand
abbrev pub with_substitution : List Opened → Result (Option (Piece × ℕ)) ParseFault → Result ReadingMove ExprFault
with_substitution opened (Ok None) = Err Syntax
with_substitution opened (Ok (Some found)) = with_operand found.1 opened (piece_tree (room_in opened) found.0)
with_substitution opened (Err fault) = Err (Script fault)

-- a bracket, a `$` and a quote, as in a script
abbrev pub at_bracket : List Opened → List ℕ → Result ReadingMove ExprFault
at_bracket opened behind = with_piece opened (bracket_of (room_in opened) behind)

abbrev pub at_dollar : List Opened → List ℕ → Result ReadingMove ExprFault
at_dollar opened behind = with_substitution opened (substitution_of (room_in opened) behind)

abbrev pub at_quote : List Opened → List ℕ → Result ReadingMove ExprFault
at_quote opened behind = with_pieces opened (quoted_of (room_in opened) behind)

-- what stands in braces is a text
abbrev pub at_brace : List Opened → Result (List ℕ × ℕ) ExprFault → Result ReadingMove ExprFault
at_brace opened (Ok found) = move (suc found.1) (AtOperator (Plain found.0)) opened
at_brace opened (Err fault) = Err fault

-- a byte of this kind where an operand is due
abbrev pub operand_move : Mark → List Opened → List ℕ → List ℕ → Result ReadingMove ExprFault
operand_move mark.White opened text behind = move 0 AtOperand opened
operand_move mark.Backslash opened text behind = at_backslash AtOperand opened behind
operand_move mark.Minus opened text behind = at_sign Negate opened
operand_move mark.Plus opened text behind = at_sign Keep opened
operand_move mark.Tilde opened text behind = at_sign Complement opened
operand_move mark.Bang opened text behind = at_sign Not opened
operand_move mark.OpenParen opened text behind = at_paren opened
operand_move mark.Dollar opened text behind = at_dollar opened behind
operand_move mark.OpenBracket opened text behind = at_bracket opened behind
operand_move mark.Quote opened text behind = at_quote opened behind
operand_move mark.OpenBrace opened text behind = at_brace opened (braced Unescaped 0 behind)
operand_move mark.Digit opened text behind = at_number (number_length text) opened text
operand_move mark.Letter opened text behind = at_word (name_bytes text) opened text
operand_move _ opened text behind = Err Syntax

-- how reading goes on behind an operator
pub record Next : Type 0 where
  pub place : OperandPlace
  pub opened : List Opened

abbrev pub next : OperandPlace → List Opened → Result Next ExprFault
next place opened = Ok (record { place = place; opened = opened })

abbrev pub at_colon : List Opened → Tree → Result Next ExprFault
at_colon (Question a ∷ opened) tree = next AtOperand (Otherwise a tree ∷ opened)
at_colon _ tree = Err Syntax

abbrev pub at_close : List Opened → Tree → Result Next ExprFault
at_close (Paren ∷ opened) tree = next (AtOperator tree) opened
at_close _ tree = Err Syntax

abbrev pub at_infix : Infix → Closed → Result Next ExprFault
at_infix operator closed = next AtOperand (After operator closed.tree ∷ closed.opened)

abbrev pub at_question : Closed → Result Next ExprFault
at_question closed = next AtOperand (Question closed.tree ∷ closed.opened)

-- an operator behind a tree
abbrev pub link_next : List Opened → Tree → Link → Result Next ExprFault
link_next opened tree (link.Infix operator) = at_infix operator (close (level_of operator) opened tree)
link_next opened tree link.Question = at_question (close 1 opened tree)
link_next opened tree link.Colon = at_colon (close 0 opened tree).opened (close 0 opened tree).tree
link_next opened tree link.Close = at_close (close 0 opened tree).opened (close 0 opened tree).tree

abbrev pub with_skip : ℕ → Result Next ExprFault → Result ReadingMove ExprFault
with_skip skip (Ok n) = move skip n.place n.opened
with_skip skip (Err fault) = Err fault

abbrev pub link_move : List Opened → Tree → Option (Link × ℕ) → Result ReadingMove ExprFault
link_move opened tree None = Err Syntax
link_move opened tree (Some found) = with_skip (found.1 - 1) (link_next opened tree found.0)

-- a byte of this kind behind an operand
abbrev pub operator_move : Mark → List Opened → Tree → List ℕ → List ℕ → Result ReadingMove ExprFault
operator_move mark.White opened tree text behind = move 0 (AtOperator tree) opened
operator_move mark.Backslash opened tree text behind = at_backslash (AtOperator tree) opened behind
operator_move _ opened tree text behind = link_move opened tree (link_at text)

abbrev pub move_of : OperandPlace → List Opened → List ℕ → List ℕ → Mark → Result ReadingMove ExprFault
move_of AtOperand opened text behind m = operand_move m opened text behind
move_of (AtOperator tree) opened text behind m = operator_move m opened tree text behind

-- the end of the text
abbrev pub whole : List Opened → Tree → Result Tree ExprFault
whole [] tree = Ok tree
whole (Paren ∷ opened) tree = Err missing_paren
whole _ tree = Err Syntax

abbrev pub tree_at_end : OperandPlace → List Opened → Result Tree ExprFault
tree_at_end AtOperand opened = Err Syntax
tree_at_end (AtOperator tree) opened = whole (close 0 opened tree).opened (close 0 opened tree).tree

abbrev pub on_move : Result ReadingMove ExprFault → (ℕ → OperandPlace → List Opened → Result Tree ExprFault) → Result Tree ExprFault
on_move (Ok next) go = go next.skip next.place next.opened
on_move (Err fault) go = Err fault

-- what a text gives past so many bytes of it
abbrev pub tree_reading : ℕ → OperandPlace → List Opened → List ℕ → Result Tree ExprFault
tree_reading skip place opened [] = tree_at_end place opened
tree_reading (suc skip) place opened (b ∷ text) = tree_reading skip place opened text
tree_reading zero place opened (b ∷ text) =
    on_move (move_of place opened (b ∷ text) text (mark_of b)) (λ further next left. tree_reading further next left text)

-- The tree of a text, or its fault.
unfoldable pub tree_of : List ℕ → Result Tree ExprFault
tree_of text = if nat_lt most_bytes (length text) then Err too_long else if not (is_utf8 text) then Err too_long else tree_reading 0 AtOperand [] text

-- and its steps
abbrev pub compiled_by : Result Tree ExprFault → Result (List Step) ExprFault
compiled_by (Ok tree) = Ok (steps_of tree)
compiled_by (Err fault) = Err fault

abbrev pub compiled : List ℕ → Result (List Step) ExprFault
compiled text = compiled_by (tree_of text)
