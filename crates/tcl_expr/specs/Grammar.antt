-- Meaning. The grammar of expressions, as a relation between a text and its tree or fault, by the levels of the operators. It says nothing of what
-- stands open while a text is read. What stands at the front of a text is read with how that goes on: with what is left, or with a fault.
use Rattle.std.specs.Prelude.{ℕ, zero, suc, ◌-◌, ◌≡◌, ◌≢◌, ◌≤◌, nat_lt, Bool, true, false, not, if◌then◌else◌, List, [], ◌∷◌, ◌++◌, length, drop, Option, Some, None, Result, Ok, Err}
use Rattle.std.specs.Char.{digit_value}
use Rattle.tcl_text.specs.Bytes.{quote, dollar_sign, digit_zero, open_bracket, close_bracket, open_brace, close_brace}
use Rattle.tcl_text.specs.Readings.{boolean_of, base_named}
use Rattle.tcl_words.specs.Classes.{begins_newline}
use Rattle.tcl_words.specs.Grammar.{leaves as leaves_text, fails as text_fails, script, begins, begins_name, begins_name_byte, AreNameBytes, ArePieces, IsBraced, IsUnclosed, IsInnerOf, IsIndexOf, IsText}
use Rattle.tcl_words.specs.OperandGrammar.{IsSubstitution, IsFaultySubstitution}
use Rattle.tcl_words.specs.declared.kind.Mode.TheVariants.{Quotes}
use Rattle.tcl_words.specs.declared.script.Piece.{Piece}
use Rattle.tcl_words.specs.declared.script.Piece.TheVariants as piece
use Rattle.tcl_text.specs.declared.fault.ParseFault.{ParseFault}
use Rattle.tcl_expr.specs.declared.fault.ExprFault.{ExprFault}
use Rattle.tcl_expr.specs.declared.fault.ExprFault.TheVariants.{Syntax, Script}
use Rattle.tcl_expr.specs.Faults.{too_long, missing_brace, missing_paren}
use Rattle.tcl_expr.specs.declared.operators.UnaryOperator.{UnaryOperator}
use Rattle.tcl_expr.specs.declared.operators.UnaryOperator.TheVariants.{Negate, Keep, Complement, Not}
use Rattle.tcl_expr.specs.declared.operators.Infix.{Infix}
use Rattle.tcl_expr.specs.declared.tokens.Mark.{Mark}
use Rattle.tcl_expr.specs.declared.tokens.Mark.TheVariants as mark
use Rattle.tcl_expr.specs.declared.tokens.Link.{Link}
use Rattle.tcl_expr.specs.declared.tokens.Link.TheVariants as link
use Rattle.tcl_expr.specs.Operators.{level_of, between}
use Rattle.tcl_expr.specs.Tokens.{mark_of, link_at, ends_number}
use Rattle.tcl_expr.specs.Trees.{Tree, Integer, Plain, Variable, Element, Command, Joined, Unary, Choice}
use Rattle.tcl_text.specs.Limits.{most_nested}

-- ── what stands between operands and operators ──

-- white space, or a backslash before a newline
abbrev pub blank_mark : Mark → List ℕ → Bool
blank_mark mark.White behind = true
blank_mark mark.Backslash behind = begins_newline behind
blank_mark _ behind = false

abbrev pub past_blanks : List ℕ → List ℕ
past_blanks [] = []
past_blanks (b ∷ behind) = if blank_mark (mark_of b) behind then past_blanks behind else b ∷ behind

-- What stands behind an operand: the end of the text; an operator, `?`, `:` or `)`, and what is left behind that; or neither.
pub data After : Type 0 where
  at_end : After
  linked : Link → List ℕ → After
  nothing : After

-- (the first byte of so many is off already)
abbrev pub after_link : List ℕ → Option (Link × ℕ) → After
after_link behind (Some found) = linked found.0 (drop (found.1 - 1) behind)
after_link behind None = nothing

abbrev pub after_blanks : List ℕ → After
after_blanks [] = at_end
after_blanks (b ∷ behind) = after_link behind (link_at (b ∷ behind))

abbrev pub after : List ℕ → After
after text = after_blanks (past_blanks text)

-- ── how what stands at the front of a text goes on ──

pub data ExprEnding : Type 0 where
  -- it is this tree, and this is left
  leaves : Tree → List ℕ → ExprEnding
  -- it has this fault
  fails : ExprFault → ExprEnding

-- an operator that an expression can always go on with
abbrev pub goes_on : After → Bool
goes_on (linked (link.Infix operator) behind) = true
goes_on (linked link.Question behind) = true
goes_on _ = false

-- the expression is as long as can be
abbrev pub stops : ExprEnding → Bool
stops (leaves tree left) = not (goes_on (after left))
stops (fails fault) = true

abbrev pub with_tree : (Tree → Tree) → ExprEnding → ExprEnding
with_tree of (leaves tree left) = leaves (of tree) left
with_tree of (fails fault) = fails fault

-- ── operands ──

-- digits of a base
abbrev pub AreDigits : ℕ → List ℕ → Type 0
AreDigits base [] = Unit {0}
AreDigits base (b ∷ digits) = (nat_lt (digit_value b) base ≡ true) × AreDigits base digits

abbrev pub begins_digit : ℕ → List ℕ → Bool
begins_digit base [] = false
begins_digit base (b ∷ text) = nat_lt (digit_value b) base

-- a digit of the base, if one is named, is first
abbrev pub begins_digit_of : Option ℕ → List ℕ → Bool
begins_digit_of (Some base) text = begins_digit base text
begins_digit_of None text = false

-- the letter of a base is first, with a digit of that base behind it
abbrev pub begins_base : List ℕ → Bool
begins_base [] = false
begins_base (letter ∷ behind) = begins_digit_of (base_named letter) behind

-- The number in front of this text, as long as can be: `0` and the letter of a base with digits of it, octal digits behind a `0`, or decimal ones.
pub data IsNumber (rest : List ℕ) : List ℕ → Type 0 where
  based : (letter base digit : ℕ) (digits : List ℕ) → base_named letter ≡ Some base → AreDigits base (digit ∷ digits) → begins_digit base rest ≡ false →
      IsNumber rest (digit_zero ∷ letter ∷ digit ∷ digits)
  octal : (digits : List ℕ) → AreDigits 8 digits → begins_digit 8 rest ≡ false → begins_base (digits ++ rest) ≡ false → IsNumber rest (digit_zero ∷ digits)
  decimal : (digit : ℕ) (digits : List ℕ) → digit ≢ digit_zero → AreDigits 10 (digit ∷ digits) → begins_digit 10 rest ≡ false → IsNumber rest (digit ∷ digits)

-- What pieces of a script are as trees: one of them, and several that are joined from the left.
mutual
  pub data IsPieceTree : Piece → Tree → Type 0 where
    literal : (text : List ℕ) → IsPieceTree (piece.Literal text) (Plain text)
    variable : (name : List ℕ) → IsPieceTree (piece.Variable name) (Variable name)
    bracket : (script : List ℕ) → IsPieceTree (piece.Bracket script) (Command script)
    element : (name index : List ℕ) (pieces : List Piece) (tree : Tree) → IsIndexOf index pieces → IsTextTree pieces tree →
        IsPieceTree (piece.Element name index) (Element name tree)

  pub data IsTextTree : List Piece → Tree → Type 0 where
    none : IsTextTree [] (Plain [])
    some : (own : Piece) (pieces : List Piece) (first tree : Tree) → IsPieceTree own first → IsJoinedTree first pieces tree → IsTextTree (own ∷ pieces) tree

  pub data IsJoinedTree : Tree → List Piece → Tree → Type 0 where
    all : (tree : Tree) → IsJoinedTree tree [] tree
    more : (own : Piece) (pieces : List Piece) (first next tree : Tree) → IsPieceTree own next → IsJoinedTree (Joined first next) pieces tree →
        IsJoinedTree first (own ∷ pieces) tree

-- what can begin an operand that is no operator and no parenthesis
abbrev pub begins_operand : Mark → Bool
begins_operand mark.Digit = true
begins_operand mark.Letter = true
begins_operand mark.OpenBrace = true
begins_operand mark.Quote = true
begins_operand mark.OpenBracket = true
begins_operand mark.Dollar = true
begins_operand _ = false

-- An operand at the front of a text, without an operator or a parenthesis before it, where so many brackets and indices may stand in one
-- another. What a bracket, a `$`, a quote or a brace begins is as the grammar of scripts has it.
pub data IsOperand (room : ℕ) : List ℕ → ExprEnding → Type 0 where
  number : (b : ℕ) (own rest : List ℕ) → mark_of b ≡ mark.Digit → IsNumber rest (b ∷ own) → ends_number rest ≡ true →
      IsOperand room (b ∷ (own ++ rest)) (leaves (Integer (b ∷ own)) rest)
  unended_number : (b : ℕ) (own rest : List ℕ) → mark_of b ≡ mark.Digit → IsNumber rest (b ∷ own) → ends_number rest ≡ false →
      IsOperand room (b ∷ (own ++ rest)) (fails Syntax)
  -- a word that spells a boolean
  word : (b : ℕ) (own rest : List ℕ) (truth : Bool) → mark_of b ≡ mark.Letter → AreNameBytes (b ∷ own) → begins_name_byte rest ≡ false →
      boolean_of (b ∷ own) ≡ Some truth →
      IsOperand room (b ∷ (own ++ rest)) (leaves (Plain (b ∷ own)) rest)
  other_word : (b : ℕ) (own rest : List ℕ) → mark_of b ≡ mark.Letter → AreNameBytes (b ∷ own) → begins_name_byte rest ≡ false → boolean_of (b ∷ own) ≡ None →
      IsOperand room (b ∷ (own ++ rest)) (fails Syntax)
  braces : (own value rest : List ℕ) → IsBraced own value → IsOperand room (open_brace ∷ (own ++ close_brace ∷ rest)) (leaves (Plain value) rest)
  unclosed_braces : (text : List ℕ) → IsUnclosed text → IsOperand room (open_brace ∷ text) (fails missing_brace)
  quotes : (own rest : List ℕ) (pieces : List Piece) (tree : Tree) →
      ArePieces (IsInnerOf room) true Quotes (own ++ quote ∷ rest) pieces (leaves_text (quote ∷ rest)) → IsTextTree pieces tree →
      IsOperand room (quote ∷ (own ++ quote ∷ rest)) (leaves tree rest)
  faulty_quotes : (text : List ℕ) (pieces : List Piece) (fault : ParseFault) → ArePieces (IsInnerOf room) true Quotes text pieces (text_fails fault) →
      IsOperand room (quote ∷ text) (fails (Script fault))
  bracket : (own rest : List ℕ) → IsInnerOf room script (own ++ close_bracket ∷ rest) (leaves_text (close_bracket ∷ rest)) →
      IsOperand room (open_bracket ∷ (own ++ close_bracket ∷ rest)) (leaves (Command own) rest)
  faulty_bracket : (text : List ℕ) (fault : ParseFault) → IsInnerOf room script text (text_fails fault) →
      IsOperand room (open_bracket ∷ text) (fails (Script fault))
  -- a variable or an element
  variable : (text rest : List ℕ) (own : Piece) (tree : Tree) → IsSubstitution room text own rest → IsPieceTree own tree →
      IsOperand room (dollar_sign ∷ text) (leaves tree rest)
  faulty_variable : (text : List ℕ) (fault : ParseFault) → IsFaultySubstitution room text fault → IsOperand room (dollar_sign ∷ text) (fails (Script fault))
  -- a `$` with nothing that it could begin
  no_variable : (text : List ℕ) → begins_name text ≡ false → begins open_brace text ≡ false → IsOperand room (dollar_sign ∷ text) (fails Syntax)
  none : (b : ℕ) (behind : List ℕ) → begins_operand (mark_of b) ≡ false → IsOperand room (b ∷ behind) (fails Syntax)

-- what a byte of this kind begins where an operand is due
pub data First : Type 0 where
  sign : UnaryOperator → First
  paren : First
  operand : First

abbrev pub first_of : Mark → First
first_of mark.Minus = sign Negate
first_of mark.Plus = sign Keep
first_of mark.Tilde = sign Complement
first_of mark.Bang = sign Not
first_of mark.OpenParen = paren
first_of _ = operand

-- ── expressions ──

-- what stands in parentheses, with what comes behind it
abbrev pub closed_by : Tree → After → ExprEnding
closed_by tree (linked link.Close behind) = leaves tree behind
closed_by tree at_end = fails missing_paren
closed_by tree _ = fails Syntax

abbrev pub closed : ExprEnding → ExprEnding
closed (leaves tree left) = closed_by tree (after left)
closed (fails fault) = fails fault

-- no `:` stands behind what is chosen where a condition is true
abbrev pub colon_fault : After → Option ExprFault
colon_fault (linked link.Colon behind) = None
colon_fault _ = Some Syntax

abbrev pub unchosen : ExprEnding → Option ExprFault
unchosen (leaves tree left) = colon_fault (after left)
unchosen (fails fault) = Some fault

-- What stands at the front of a text at this level or a tighter one, where so many parentheses, brackets and indices may be opened in one
-- another. Level 0 is that of a choice, 11 that of operands.
pub data IsExpr : ℕ → ℕ → List ℕ → ExprEnding → Type 0 where
  -- no operand
  lacks : {room : ℕ} {text : List ℕ} → past_blanks text ≡ [] → IsExpr room 11 text (fails Syntax)
  operand_read : {room : ℕ} {text : List ℕ} {ending : ExprEnding} (b : ℕ) (behind : List ℕ) → past_blanks text ≡ b ∷ behind → first_of (mark_of b) ≡ operand →
      IsOperand room (b ∷ behind) ending → IsExpr room 11 text ending
  -- an operator before its operand
  signed : {room : ℕ} {text : List ℕ} (b : ℕ) (behind : List ℕ) (operator : UnaryOperator) {ending : ExprEnding} → past_blanks text ≡ b ∷ behind →
      first_of (mark_of b) ≡ sign operator →
      IsExpr room 11 behind ending → IsExpr room 11 text (with_tree (Unary operator) ending)
  -- parentheses
  deep : {text : List ℕ} (b : ℕ) (behind : List ℕ) → past_blanks text ≡ b ∷ behind → first_of (mark_of b) ≡ paren → IsExpr zero 11 text (fails too_long)
  parens : {room : ℕ} {text : List ℕ} (b : ℕ) (behind : List ℕ) {inner : ExprEnding} → past_blanks text ≡ b ∷ behind → first_of (mark_of b) ≡ paren →
      IsExpr room 0 behind inner → stops inner ≡ true → IsExpr (suc room) 11 text (closed inner)
  -- what binds tighter
  tighter : {room level : ℕ} {text : List ℕ} {ending : ExprEnding} → IsExpr room (suc level) text ending → IsExpr room level text ending
  -- an operator between operands: the left one may have operators of its level, the right one only tighter ones
  operated : {room : ℕ} {text : List ℕ} (operator : Infix) (a : Tree) (left behind : List ℕ) {ending : ExprEnding} →
      IsExpr room (level_of operator) text (leaves a left) →
      after left ≡ linked (link.Infix operator) behind → IsExpr room (suc (level_of operator)) behind ending →
      IsExpr room (level_of operator) text (with_tree (between operator a) ending)
  -- a choice: its condition is no choice, its last part may be one
  choice : {room : ℕ} {text : List ℕ} (a b : Tree) (left behind left' behind' : List ℕ) {ending : ExprEnding} → IsExpr room 1 text (leaves a left) →
      after left ≡ linked link.Question behind → IsExpr room 0 behind (leaves b left') → after left' ≡ linked link.Colon behind' →
      IsExpr room 0 behind' ending →
      IsExpr room 0 text (with_tree (Choice a b) ending)
  no_choice : {room : ℕ} {text : List ℕ} (a : Tree) (left behind : List ℕ) (fault : ExprFault) {ending : ExprEnding} → IsExpr room 1 text (leaves a left) →
      after left ≡ linked link.Question behind → IsExpr room 0 behind ending → stops ending ≡ true → unchosen ending ≡ Some fault →
      IsExpr room 0 text (fails fault)

-- ── whole texts ──

abbrev pub whole_by : Tree → After → Result Tree ExprFault
whole_by tree at_end = Ok tree
whole_by tree _ = Err Syntax

abbrev pub whole_of : ExprEnding → Result Tree ExprFault
whole_of (leaves tree left) = whole_by tree (after left)
whole_of (fails fault) = Err fault

-- The text as a whole is of this tree, or has this fault, as the levels of operators cut it. At most 200 parentheses, brackets and
-- indices stand in one another.
abbrev pub IsWholeExpr : List ℕ → Result Tree ExprFault → Type 0
IsWholeExpr text whole = (ending : ExprEnding) × IsExpr most_nested 0 text ending × (stops ending ≡ true) × (whole_of ending ≡ whole)

-- The text is an expression with this tree.
pub record IsTreeOf (text : List ℕ) (tree : Tree) : Type 0 where
  pub is_text : IsText text
  pub cut : IsWholeExpr text (Ok tree)

-- The text is no expression, and this is its first fault from the left.
pub data IsExprFault (text : List ℕ) : ExprFault → Type 0 where
  -- that it is no text counts before all else
  no_text : ¬ IsText text → IsExprFault text too_long
  faulty_text : {fault : ExprFault} → IsText text → IsWholeExpr text (Err fault) → IsExprFault text fault

-- What the text is: an expression with this tree, or none, with this fault. Each text is one of both, and in one way alone.
abbrev pub IsExprParse : List ℕ → Result Tree ExprFault → Type 0
IsExprParse text (Ok tree) = IsTreeOf text tree
IsExprParse text (Err fault) = IsExprFault text fault

abbrev pub IsExpression : List ℕ → Type 0
IsExpression text = (tree : Tree) × IsTreeOf text tree

-- a text has at most one tree, at most one fault, and never both
pub record OneTreeOrFault : Type 0 where
  pub one_tree : (text : List ℕ) (tree other : Tree) → IsTreeOf text tree → IsTreeOf text other → tree ≡ other
  pub one_fault : (text : List ℕ) (fault other : ExprFault) → IsExprFault text fault → IsExprFault text other → fault ≡ other
  pub never_both : (text : List ℕ) (tree : Tree) (fault : ExprFault) → IsTreeOf text tree → ¬ IsExprFault text fault
