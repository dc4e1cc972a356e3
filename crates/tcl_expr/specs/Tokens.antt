-- Meaning. What stands in front of a text where an operand or an operator is due.
use Rattle.std.specs.Prelude.{ℕ, Bool, true, false, not, ◌==◌, nat_eq, nat_le, ◌&&◌, ◌||◌, if◌then◌else◌, List, [], ◌∷◌, drop, Option, Some, None, codes}
use Rattle.std.specs.List.{starts_with}
use Rattle.tcl_text.specs.Bytes.{tab, carriage_return, space, exclamation_mark, quote, dollar_sign, percent_sign, ampersand, open_paren, close_paren, star, plus_sign, minus_sign, slash, colon, less_sign, equals_sign, greater_sign, question_mark, open_bracket, backslash_sign, caret, open_brace, bar, tilde}
use Rattle.tcl_words.specs.Classes.{is_digit, is_alphabetic}
use Rattle.tcl_words.specs.Grammar.{begins_name_byte}
use Rattle.tcl_expr.specs.declared.operators.ArithmeticOperator.TheVariants.{Multiply, Divide, Remainder, Add, Subtract, ShiftLeft, ShiftRight, BitAnd, BitXor, BitOr}
use Rattle.tcl_expr.specs.declared.operators.Comparison.{Comparison}
use Rattle.tcl_expr.specs.declared.operators.Comparison.TheVariants as comparison
use Rattle.tcl_expr.specs.declared.operators.TextOperator.{TextOperator}
use Rattle.tcl_expr.specs.declared.operators.TextOperator.TheVariants as text_test
use Rattle.tcl_expr.specs.declared.operators.ArithmeticOperator.{ArithmeticOperator}
use Rattle.tcl_expr.specs.declared.operators.BinaryOperator.TheVariants as binary
use Rattle.tcl_expr.specs.declared.operators.Infix.TheVariants.{And, Or, Binary}
use Rattle.tcl_expr.specs.declared.tokens.Mark.{Mark}
use Rattle.tcl_expr.specs.declared.tokens.Mark.TheVariants as mark
use Rattle.tcl_expr.specs.declared.tokens.Link.{Link}
use Rattle.tcl_expr.specs.declared.tokens.Link.TheVariants as link

-- ── bytes ──

-- what a byte can begin
unfoldable pub mark_of : ℕ → Mark
mark_of b =
    if b == space || (nat_le tab b && nat_le b carriage_return) then mark.White
    else if b == plus_sign then mark.Plus
    else if b == minus_sign then mark.Minus
    else if b == star then mark.Star
    else if b == slash then mark.Slash
    else if b == percent_sign then mark.Percent
    else if b == less_sign then mark.Less
    else if b == greater_sign then mark.Greater
    else if b == equals_sign then mark.Equals
    else if b == exclamation_mark then mark.Bang
    else if b == ampersand then mark.Ampersand
    else if b == bar then mark.Bar
    else if b == caret then mark.Caret
    else if b == tilde then mark.Tilde
    else if b == question_mark then mark.Question
    else if b == colon then mark.Colon
    else if b == open_paren then mark.OpenParen
    else if b == close_paren then mark.CloseParen
    else if b == dollar_sign then mark.Dollar
    else if b == open_brace then mark.OpenBrace
    else if b == quote then mark.Quote
    else if b == open_bracket then mark.OpenBracket
    else if b == backslash_sign then mark.Backslash
    else if is_digit b then mark.Digit
    else if is_alphabetic b then mark.Letter
    else mark.Other

abbrev pub first_mark : List ℕ → Mark
first_mark [] = mark.Other
first_mark (b ∷ text) = mark_of b

abbrev pub begins_letter : List ℕ → Bool
begins_letter [] = false
begins_letter (b ∷ text) = is_alphabetic b

-- ── operators ──

abbrev pub arithmetic_link : ArithmeticOperator → Link
arithmetic_link operator = link.Infix (Binary (binary.Arithmetic operator))

abbrev pub comparison_link : Comparison → Link
comparison_link operator = link.Infix (Binary (binary.Comparison operator))

abbrev pub text_link : TextOperator → Link
text_link operator = link.Infix (Binary (binary.Text operator))

-- an operator word ends before a byte that is no letter
abbrev pub is_word : List ℕ → List ℕ → Bool
is_word word text = starts_with nat_eq text word && not (begins_letter (drop 2 text))

abbrev pub word_link : List ℕ → Option (Link × ℕ)
word_link text =
    if is_word (codes "eq") text then Some (text_link text_test.Same, 2)
    else if is_word (codes "ne") text then Some (text_link text_test.Different, 2)
    else if is_word (codes "in") text then Some (text_link text_test.In, 2)
    else if is_word (codes "ni") text then Some (text_link text_test.NotIn, 2)
    else None

-- the operators that begin alike: as long as can be
abbrev pub less_link : Mark → Link × ℕ
less_link mark.Less = (arithmetic_link ShiftLeft, 2)
less_link mark.Equals = (comparison_link comparison.LessOrEqual, 2)
less_link _ = (comparison_link comparison.Less, 1)

abbrev pub greater_link : Mark → Link × ℕ
greater_link mark.Greater = (arithmetic_link ShiftRight, 2)
greater_link mark.Equals = (comparison_link comparison.GreaterOrEqual, 2)
greater_link _ = (comparison_link comparison.Greater, 1)

abbrev pub and_link : Mark → Link × ℕ
and_link mark.Ampersand = (link.Infix And, 2)
and_link _ = (arithmetic_link BitAnd, 1)

abbrev pub or_link : Mark → Link × ℕ
or_link mark.Bar = (link.Infix Or, 2)
or_link _ = (arithmetic_link BitOr, 1)

abbrev pub equals_link : Comparison → Mark → Option (Link × ℕ)
equals_link operator mark.Equals = Some (comparison_link operator, 2)
equals_link operator _ = None

-- the operator in front of a text that begins with a byte of this kind, and how long it is
abbrev pub link_by : Mark → List ℕ → List ℕ → Option (Link × ℕ)
link_by mark.Plus text behind = Some (arithmetic_link Add, 1)
link_by mark.Minus text behind = Some (arithmetic_link Subtract, 1)
link_by mark.Star text behind = Some (arithmetic_link Multiply, 1)
link_by mark.Slash text behind = Some (arithmetic_link Divide, 1)
link_by mark.Percent text behind = Some (arithmetic_link Remainder, 1)
link_by mark.Caret text behind = Some (arithmetic_link BitXor, 1)
link_by mark.Less text behind = Some (less_link (first_mark behind))
link_by mark.Greater text behind = Some (greater_link (first_mark behind))
link_by mark.Ampersand text behind = Some (and_link (first_mark behind))
link_by mark.Bar text behind = Some (or_link (first_mark behind))
link_by mark.Equals text behind = equals_link comparison.Same (first_mark behind)
link_by mark.Bang text behind = equals_link comparison.Different (first_mark behind)
link_by mark.Question text behind = Some (link.Question, 1)
link_by mark.Colon text behind = Some (link.Colon, 1)
link_by mark.CloseParen text behind = Some (link.Close, 1)
link_by mark.Letter text behind = word_link text
link_by _ text behind = None

abbrev pub link_at : List ℕ → Option (Link × ℕ)
link_at [] = None
link_at (b ∷ behind) = link_by (mark_of b) (b ∷ behind) behind

-- ── numbers ──

-- a number ends before a byte that is none of a name, or before an operator word
abbrev pub ends_number : List ℕ → Bool
ends_number behind = not (begins_name_byte behind) || is_link (word_link behind)
  where
    is_link : Option (Link × ℕ) → Bool
    is_link (Some found) = true
    is_link None = false
