-- Meaning. What a backslash stands for, and a text as the marks that it is written in.
use Rattle.std.specs.Prelude.{ℕ, zero, suc, ◌+◌, ◌*◌, Bool, not, ◌&&◌, ◌||◌, ◌==◌, nat_lt, nat_le, if◌then◌else◌, List, [], ◌∷◌, drop, take, encode_utf8}
use Rattle.std.specs.Char.{digit_value}
use Rattle.tcl_text.specs.Bytes.{alert, backspace, tab, line_feed, vertical_tab, form_feed, carriage_return, space, quote, digit_zero, digit_seven, capital_u, backslash_sign, letter_a, letter_b, letter_f, letter_n, letter_r, letter_t, letter_u, letter_v, letter_x, open_brace, close_brace}
use Rattle.tcl_text.specs.declared.splitting.ByteKind.{ByteKind}
use Rattle.tcl_text.specs.declared.splitting.ByteKind.TheVariants.{White, OpenBrace, CloseBrace, Quote, Backslash, Other}

-- blank, tab, newline, vertical tab, form feed and carriage return
abbrev pub is_white : ℕ → Bool
is_white c = c == space || (nat_le tab c && nat_le c carriage_return)

-- what a byte is to the form of a list
unfoldable pub kind_of : ℕ → ByteKind
kind_of c =
    if is_white c then White
    else (if c == open_brace then OpenBrace
    else (if c == close_brace then CloseBrace
    else (if c == quote then Quote
    else (if c == backslash_sign then Backslash
    else Other))))

-- what stands for a character, and how many bytes it takes behind the backslash
pub record Escape : Type 0 where
  pub meaning : List ℕ
  pub length : ℕ

-- a number, and how many digits spell it
pub record Digits : Type 0 where
  pub value : ℕ
  pub count : ℕ

-- the digits in front, most of them at most and none with which the number would pass the bound; n is the number so far
abbrev pub digits_from : ℕ → ℕ → ℕ → ℕ → List ℕ → Digits
digits_from base bound zero n text = record { value = n; count = 0 }
digits_from base bound (suc most) n [] = record { value = n; count = 0 }
digits_from base bound (suc most) n (c ∷ cs) =
    if nat_lt (digit_value c) base && nat_le (n * base + digit_value c) bound
    then (let more : Digits = digits_from base bound most (n * base + digit_value c) cs in record { value = more.value; count = suc more.count })
    else (record { value = n; count = 0 })

-- half of a surrogate pair is no character: the replacement character stands for it
abbrev pub character_of : ℕ → ℕ
character_of n = if nat_le 0xD800 n && nat_le n 0xDFFF then 0xFFFD else n

-- the character that digits give, or where there are none the letter before them
abbrev pub numbered : ℕ → ℕ → Digits → Escape
numbered letter before digits =
    if digits.count == 0 then (record { meaning = letter ∷ []; length = 1 })
    else (record { meaning = encode_utf8 (character_of digits.value); length = before + digits.count })

-- the control character that a letter names, or the byte itself
abbrev pub named : ℕ → ℕ
named c =
    if c == letter_a then alert
    else (if c == letter_b then backspace
    else (if c == letter_f then form_feed
    else (if c == letter_n then line_feed
    else (if c == letter_r then carriage_return
    else (if c == letter_t then tab
    else (if c == letter_v then vertical_tab
    else c))))))

-- a backslash takes this byte and no other, whatever stands behind it: it is no newline, no octal digit, and no letter before digits
abbrev pub is_alone : ℕ → Bool
is_alone c = not (c == line_feed || (nat_le digit_zero c && nat_le c digit_seven) || c == letter_x || c == letter_u || c == capital_u)

-- a byte that is taken alone, and means one byte
abbrev pub one_byte : ℕ → Escape
one_byte b = record { meaning = b ∷ []; length = 1 }

-- how many blanks and tabs stand in front
abbrev pub blanks : List ℕ → ℕ
blanks [] = 0
blanks (c ∷ cs) = if c == space || c == tab then suc (blanks cs) else 0

-- What a backslash before this text stands for: a newline with the blanks behind it a blank; one to three octal digits up to
-- 377, x with one or two hexadecimal digits, u with one to four and U with one to eight up to 10FFFF a character by its
-- number; a letter of abfnrtv a control character; another byte itself; at the end of the text the backslash itself.
unfoldable pub escape : List ℕ → Escape
escape [] = record { meaning = backslash_sign ∷ []; length = 0 }
escape (c ∷ cs) =
    if c == line_feed then (record { meaning = space ∷ []; length = suc (blanks cs) })
    else (if nat_le digit_zero c && nat_le c digit_seven then numbered c 0 (digits_from 8 255 3 0 (c ∷ cs))
    else (if c == letter_x then numbered c 1 (digits_from 16 0xFF 2 0 cs)
    else (if c == letter_u then numbered c 1 (digits_from 16 0xFFFF 4 0 cs)
    else (if c == capital_u then numbered c 1 (digits_from 16 0x10FFFF 8 0 cs)
    else (record { meaning = named c ∷ []; length = 1 })))))

-- A byte, or a backslash with all that it takes: how it is written, and what it stands for.
pub record Mark : Type 0 where
  pub kind : ByteKind
  pub written : List ℕ
  pub meant : List ℕ

abbrev pub byte_mark : ℕ → Mark
byte_mark b = record { kind = kind_of b; written = b ∷ []; meant = b ∷ [] }

abbrev pub escape_mark : List ℕ → Mark
escape_mark behind = record { kind = Backslash; written = backslash_sign ∷ take (escape behind).length behind; meant = (escape behind).meaning }

-- The first mark of a text, and then those of what is left: a backslash with all that it takes, or a byte by itself. How what is left is marked is given.
abbrev pub marked : (List ℕ → List Mark) → List ℕ → List Mark
marked rest [] = []
marked rest (b ∷ bs) = if b == backslash_sign then escape_mark bs ∷ rest (drop (escape bs).length bs) else byte_mark b ∷ rest bs

-- The marks of a text from the left, past the bytes that an earlier mark took. The number is there for the recursion alone: law `texts_are_marked` has the
-- equation without it.
abbrev pub marks_past : ℕ → List ℕ → List Mark
marks_past taken [] = []
marks_past (suc taken) (b ∷ bs) = marks_past taken bs
marks_past zero (b ∷ bs) =
    if b == backslash_sign then escape_mark bs ∷ marks_past (escape bs).length bs
    else byte_mark b ∷ marks_past 0 bs

-- the marks that a text is written in
unfoldable pub marks : List ℕ → List Mark
marks text = marks_past 0 text
