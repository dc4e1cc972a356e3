-- Meaning. What bytes are by themselves.
use Rattle.std.specs.Prelude.{ℕ, Bool, ◌==◌, nat_eq, nat_le, ◌&&◌, ◌||◌, if◌then◌else◌, List, [], ◌∷◌}
use Rattle.std.specs.List.{starts_with}
use Rattle.tcl_text.specs.Bytes.{tab, line_feed, vertical_tab, form_feed, carriage_return, space, quote, hash, dollar_sign, close_paren, star, digit_zero, digit_nine, semicolon, capital_a, capital_z, open_bracket, backslash_sign, close_bracket, underscore, letter_a, letter_z, open_brace, close_brace}
use Rattle.tcl_words.specs.declared.kind.Kind.{Kind}
use Rattle.tcl_words.specs.declared.kind.Kind.TheVariants.{Blank, Newline, Semicolon, Hash, Dollar, Quote, OpenBracket, CloseBracket, OpenBrace, CloseBrace, CloseParen, Backslash, Other}

-- white space but the newline
abbrev pub is_blank : ℕ → Bool
is_blank b = b == space || b == tab || b == vertical_tab || b == form_feed || b == carriage_return

abbrev pub is_digit : ℕ → Bool
is_digit b = nat_le digit_zero b && nat_le b digit_nine

abbrev pub is_alphabetic : ℕ → Bool
is_alphabetic b = (nat_le letter_a b && nat_le b letter_z) || (nat_le capital_a b && nat_le b capital_z)

-- a byte of a name: a letter, a digit or `_`
abbrev pub is_name_byte : ℕ → Bool
is_name_byte b = is_alphabetic b || is_digit b || b == underscore

-- what a byte can mean
unfoldable pub class_of : ℕ → Kind
class_of b =
    if b == line_feed then Newline
    else if is_blank b then Blank
    else if b == semicolon then Semicolon
    else if b == hash then Hash
    else if b == dollar_sign then Dollar
    else if b == quote then Quote
    else if b == open_bracket then OpenBracket
    else if b == close_bracket then CloseBracket
    else if b == open_brace then OpenBrace
    else if b == close_brace then CloseBrace
    else if b == close_paren then CloseParen
    else if b == backslash_sign then Backslash
    else Other

-- a newline is the first byte
abbrev pub begins_newline : List ℕ → Bool
begins_newline text = starts_with nat_eq text (line_feed ∷ [])

-- what stands behind the `{` of a `{*}`
abbrev pub begins_expansion : List ℕ → Bool
begins_expansion text = starts_with nat_eq text (star ∷ close_brace ∷ [])
