-- Meaning. The bytes that the grammars of lists, globs, scripts and expressions name.
use Rattle.std.specs.Prelude.{ℕ}

-- the alert, \a
abbrev pub alert : ℕ
alert = 7

-- the backspace, \b
abbrev pub backspace : ℕ
backspace = 8

-- b'\t'
abbrev pub tab : ℕ
tab = 9

-- b'\n'
abbrev pub line_feed : ℕ
line_feed = 10

-- the vertical tab, \v
abbrev pub vertical_tab : ℕ
vertical_tab = 11

-- the form feed, \f
abbrev pub form_feed : ℕ
form_feed = 12

-- b'\r'
abbrev pub carriage_return : ℕ
carriage_return = 13

-- b' '
abbrev pub space : ℕ
space = 32

-- b'!'
abbrev pub exclamation_mark : ℕ
exclamation_mark = 33

-- b'"'
abbrev pub quote : ℕ
quote = 34

-- b'#'
abbrev pub hash : ℕ
hash = 35

-- b'$'
abbrev pub dollar_sign : ℕ
dollar_sign = 36

-- b'%'
abbrev pub percent_sign : ℕ
percent_sign = 37

-- b'&'
abbrev pub ampersand : ℕ
ampersand = 38

-- b'('
abbrev pub open_paren : ℕ
open_paren = 40

-- b')'
abbrev pub close_paren : ℕ
close_paren = 41

-- b'*'
abbrev pub star : ℕ
star = 42

-- b'+'
abbrev pub plus_sign : ℕ
plus_sign = 43

-- b'-'
abbrev pub minus_sign : ℕ
minus_sign = 45

-- b'/'
abbrev pub slash : ℕ
slash = 47

-- b'0'
abbrev pub digit_zero : ℕ
digit_zero = 48

-- b'7'
abbrev pub digit_seven : ℕ
digit_seven = 55

-- b'9'
abbrev pub digit_nine : ℕ
digit_nine = 57

-- b':'
abbrev pub colon : ℕ
colon = 58

-- b';'
abbrev pub semicolon : ℕ
semicolon = 59

-- b'<'
abbrev pub less_sign : ℕ
less_sign = 60

-- b'='
abbrev pub equals_sign : ℕ
equals_sign = 61

-- b'>'
abbrev pub greater_sign : ℕ
greater_sign = 62

-- b'?'
abbrev pub question_mark : ℕ
question_mark = 63

-- b'A'
abbrev pub capital_a : ℕ
capital_a = 65

-- b'B'
abbrev pub capital_b : ℕ
capital_b = 66

-- b'O'
abbrev pub capital_o : ℕ
capital_o = 79

-- b'U'
abbrev pub capital_u : ℕ
capital_u = 85

-- b'X'
abbrev pub capital_x : ℕ
capital_x = 88

-- b'Z'
abbrev pub capital_z : ℕ
capital_z = 90

-- b'['
abbrev pub open_bracket : ℕ
open_bracket = 91

-- b'\'
abbrev pub backslash_sign : ℕ
backslash_sign = 92

-- b']'
abbrev pub close_bracket : ℕ
close_bracket = 93

-- b'^'
abbrev pub caret : ℕ
caret = 94

-- b'_'
abbrev pub underscore : ℕ
underscore = 95

-- b'a'
abbrev pub letter_a : ℕ
letter_a = 97

-- b'b'
abbrev pub letter_b : ℕ
letter_b = 98

-- b'f'
abbrev pub letter_f : ℕ
letter_f = 102

-- b'n'
abbrev pub letter_n : ℕ
letter_n = 110

-- b'o'
abbrev pub letter_o : ℕ
letter_o = 111

-- b'r'
abbrev pub letter_r : ℕ
letter_r = 114

-- b't'
abbrev pub letter_t : ℕ
letter_t = 116

-- b'u'
abbrev pub letter_u : ℕ
letter_u = 117

-- b'v'
abbrev pub letter_v : ℕ
letter_v = 118

-- b'x'
abbrev pub letter_x : ℕ
letter_x = 120

-- b'z'
abbrev pub letter_z : ℕ
letter_z = 122

-- b'{'
abbrev pub open_brace : ℕ
open_brace = 123

-- b'|'
abbrev pub bar : ℕ
bar = 124

-- b'}'
abbrev pub close_brace : ℕ
close_brace = 125

-- b'~'
abbrev pub tilde : ℕ
tilde = 126
