-- Meaning. What can be read in a text: an integer, a boolean and a list, each as a relation on the whole text and as a function.
use Rattle.std.specs.Prelude.{◌≡◌, ◌≢◌, ◌⊎◌, ℕ, zero, suc, ◌+◌, ◌*◌, ◌^◌, ℤ, pos, neg_ℤ, Bool, true, false, not, ◌&&◌, ◌||◌, ◌==◌, nat_lt, nat_le, if◌then◌else◌, List, [], ◌∷◌, ◌++◌, map, filter, IsTrue, Option, Some, None, Result, Ok, Err, codes, ⊤}
use Rattle.std.specs.Char.{digit_value, to_ascii_lowercase}
use Rattle.std.specs.Option.{option_map_or}
use Rattle.std.specs.List.{list_all, join_with_byte, flat_map}
use Rattle.std.specs.Str.Parse.{AllDigits, digits_value}
use Rattle.tcl_text.specs.Backslash.{is_white, Mark, marks}
use Rattle.tcl_text.specs.Bytes.{tab, line_feed, vertical_tab, form_feed, carriage_return, space, quote, hash, dollar_sign, plus_sign, minus_sign, digit_zero, semicolon, capital_b, capital_o, capital_x, open_bracket, backslash_sign, close_bracket, letter_b, letter_f, letter_n, letter_o, letter_r, letter_t, letter_v, letter_x, open_brace, close_brace}
use Rattle.tcl_text.specs.declared.splitting.ByteKind.{ByteKind}
use Rattle.tcl_text.specs.declared.splitting.ByteKind.TheVariants.{White, OpenBrace, CloseBrace, Quote}
use Rattle.tcl_text.specs.declared.fault.ListFault.{ListFault}
use Rattle.tcl_text.specs.declared.fault.ListFault.TheVariants.{OpenBrace as UnmatchedBrace, OpenQuote as UnmatchedQuote, ExtraCharacters}

-- white space and nothing else
abbrev pub IsBlank : List ℕ → Type 0
IsBlank text = IsTrue (list_all is_white text)

-- ── integers ──

-- the base that the letter of 0x, 0o or 0b names, in both cases
abbrev pub base_named : ℕ → Option ℕ
base_named c =
    if c == letter_x || c == capital_x then Some 16
    else (if c == letter_o || c == capital_o then Some 8
    else (if c == letter_b || c == capital_b then Some 2
    else None))

-- what opens digits of this base: 0 with a letter, or nothing, and then digits that begin with 0 are octal and others decimal
abbrev pub OpensDigits : List ℕ → List ℕ → ℕ → Type 0
OpensDigits [] [] base = ⊥
OpensDigits [] (d ∷ ds) base = base ≡ (if d == digit_zero then 8 else 10)
OpensDigits (z ∷ []) digits base = ⊥
OpensDigits (z ∷ letter ∷ []) digits base = (z ≡ digit_zero) × (base_named letter ≡ Some base)
OpensDigits (z ∷ letter ∷ c ∷ cs) digits base = ⊥

-- one digit or more of a base, and their value
pub record IsNumeral (text : List ℕ) (value : ℕ) : Type 0 where
  pub base : ℕ
  pub opening : List ℕ
  pub digits : List ℕ
  pub cut : text ≡ opening ++ digits
  pub opened : OpensDigits opening digits base
  pub some : digits ≢ []
  pub each : AllDigits base digits
  pub valued : value ≡ digits_value base digits

-- a sign, if any, and whether it is a minus
abbrev pub IsSign : List ℕ → Bool → Type 0
IsSign [] negative = negative ≡ false
IsSign (c ∷ []) negative = (c ≡ plus_sign) × (negative ≡ false) ⊎ (c ≡ minus_sign) × (negative ≡ true)
IsSign (c ∷ d ∷ cs) negative = ⊥

-- the number with its sign, where it fits 64 bits
abbrev pub signed : Bool → ℕ → Option ℤ
signed false n = if nat_lt n (2 ^ 63) then Some (pos n) else None
signed true n = if nat_le n (2 ^ 63) then Some (neg_ℤ (pos n)) else None

-- the text is the integer: a sign, if any, and a numeral, with white space around, in 64 bits
pub record IsInteger (text : List ℕ) (value : ℤ) : Type 0 where
  pub before : List ℕ
  pub sign : List ℕ
  pub numeral : List ℕ
  pub after : List ℕ
  pub negative : Bool
  pub magnitude : ℕ
  pub cut : text ≡ before ++ (sign ++ (numeral ++ after))
  pub blank_before : IsBlank before
  pub blank_after : IsBlank after
  pub signs : IsSign sign negative
  pub spells : IsNumeral numeral magnitude
  pub valued : signed negative magnitude ≡ Some value

-- the text without white space in front
abbrev pub skip_white : List ℕ → List ℕ
skip_white [] = []
skip_white (c ∷ cs) = if is_white c then skip_white cs else c ∷ cs

-- the number of which n are the digits so far and the text has the others, with white space behind them
abbrev pub number_from : ℕ → ℕ → List ℕ → Option ℕ
number_from base n [] = Some n
number_from base n (c ∷ cs) =
    if nat_lt (digit_value c) base then number_from base (n * base + digit_value c) cs
    else (if list_all is_white (c ∷ cs) then Some n else None)

-- the same with one digit at least
abbrev pub number_in : ℕ → List ℕ → Option ℕ
number_in base [] = None
number_in base (c ∷ cs) = if nat_lt (digit_value c) base then number_from base (digit_value c) cs else None

-- the number of a numeral that begins with 0, by the base that the next character names, if any
abbrev pub behind_zero : Option ℕ → ℕ → List ℕ → Option ℕ
behind_zero (Some base) c cs = number_in base cs
behind_zero None c cs = number_from 8 0 (c ∷ cs)

abbrev pub zero_numeral : List ℕ → Option ℕ
zero_numeral [] = Some 0
zero_numeral (c ∷ cs) = behind_zero (base_named c) c cs

-- the number that a numeral in front spells, with white space behind it
abbrev pub numeral_of : List ℕ → Option ℕ
numeral_of [] = None
numeral_of (c ∷ cs) = if c == digit_zero then zero_numeral cs else number_in 10 (c ∷ cs)

abbrev pub signed_option : Bool → Option ℕ → Option ℤ
signed_option negative None = None
signed_option negative (Some n) = signed negative n

abbrev pub signed_numeral : List ℕ → Option ℤ
signed_numeral [] = None
signed_numeral (c ∷ cs) =
    if c == minus_sign then signed_option true (numeral_of cs)
    else (if c == plus_sign then signed_option false (numeral_of cs)
    else signed_option false (numeral_of (c ∷ cs)))

-- a number that is below a bound
abbrev pub below : ℕ → Option ℕ → Option ℕ
below bound None = None
below bound (Some n) = if nat_lt n bound then Some n else None

-- the integer that the text is, if any
unfoldable pub integer_of : List ℕ → Option ℤ
integer_of text = signed_numeral (skip_white text)

-- ── booleans ──

-- the words for true and false
abbrev pub boolean_words : List (List ℕ × Bool)
boolean_words =
    (codes "yes", true) ∷ (codes "no", false) ∷ (codes "true", true) ∷ (codes "false", false) ∷ (codes "on", true) ∷ (codes "off", false) ∷ []

-- whether a word begins with the text, ignoring the case of ASCII letters
abbrev pub begins_word : List ℕ → List ℕ → Bool
begins_word [] word = true
begins_word (c ∷ cs) [] = false
begins_word (c ∷ cs) (w ∷ ws) = to_ascii_lowercase c == w && begins_word cs ws

-- the words that begin with the text
abbrev pub words_begun : List ℕ → List (List ℕ × Bool)
words_begun text = filter (λ word. begins_word text word.0) boolean_words

-- the integer as a boolean: whether it isn't 0
abbrev pub is_nonzero : ℤ → Bool
is_nonzero (pos zero) = false
is_nonzero _ = true

-- the text is an integer, of which 0 is false, or begins exactly one of the words
abbrev pub IsBoolean : List ℕ → Bool → Type 0
IsBoolean text b =
    ((n : ℤ) × IsInteger text n × (b ≡ is_nonzero n))
    ⊎ ((word : List ℕ) × (words_begun text ≡ (word, b) ∷ []))

-- the value of the only word
abbrev pub only_word : List (List ℕ × Bool) → Option Bool
only_word [] = None
only_word (w ∷ []) = Some w.1
only_word (v ∷ w ∷ ws) = None

-- the boolean of the integer, or else that of the words
abbrev pub boolean_by : Option ℤ → List ℕ → Option Bool
boolean_by (Some n) text = Some (is_nonzero n)
boolean_by None text = only_word (words_begun text)

-- the boolean that the text is, if any
unfoldable pub boolean_of : List ℕ → Option Bool
boolean_of text = boolean_by (integer_of text) text

-- ── lists ──

-- how marks are written, and what they stand for
abbrev pub written : List Mark → List ℕ
written ms = flat_map (λ m. m.written) ms

abbrev pub meant : List Mark → List ℕ
meant ms = flat_map (λ m. m.meant) ms

abbrev pub is_white_mark : Mark → Bool
is_white_mark m = elim m.kind [ White ↦ true | _ ↦ false ]

abbrev pub is_quote_mark : Mark → Bool
is_quote_mark m = elim m.kind [ Quote ↦ true | _ ↦ false ]

-- how many braces are open behind a mark, if it doesn't close one too many
abbrev pub depth_after : ℕ → ByteKind → Option ℕ
depth_after depth OpenBrace = Some (suc depth)
depth_after zero CloseBrace = None
depth_after (suc depth) CloseBrace = Some depth
depth_after depth _ = Some depth

-- each brace that isn't behind a backslash has its match, with so many open in front
abbrev pub are_balanced : ℕ → List Mark → Bool
are_balanced depth [] = depth == 0
are_balanced depth (m ∷ ms) = option_map_or (λ next. are_balanced next ms) (depth_after depth m.kind) false

-- An element and how it stands in a list.
pub data IsElement : List Mark → List ℕ → Type 0 where
  -- in braces, whose inside is taken as it is written
  braced : (first last : Mark) (inside : List Mark) → first.kind ≡ OpenBrace → last.kind ≡ CloseBrace
      → IsTrue (are_balanced 0 inside) → IsElement (first ∷ (inside ++ last ∷ [])) (written inside)
  -- in quotes, with what backslashes stand for
  quoted : (first last : Mark) (inside : List Mark) → first.kind ≡ Quote → last.kind ≡ Quote
      → IsTrue (list_all (λ m. not (is_quote_mark m)) inside) → IsElement (first ∷ (inside ++ last ∷ [])) (meant inside)
  -- bare, without white space, with what backslashes stand for
  bare : (first : Mark) (others : List Mark) → first.kind ≢ OpenBrace → first.kind ≢ Quote
      → IsTrue (list_all (λ m. not (is_white_mark m)) (first ∷ others)) → IsElement (first ∷ others) (meant (first ∷ others))

-- a place at which an element may end: before white space, or at the end
abbrev pub IsElementEnd : List Mark → Type 0
IsElementEnd [] = ⊤
IsElementEnd (m ∷ ms) = IsTrue (is_white_mark m)

-- the marks are these elements, with white space between them and around
abbrev pub AreElements : List Mark → List (List ℕ) → Type 0
AreElements ms [] = IsTrue (list_all is_white_mark ms)
AreElements ms (item ∷ items) =
    (white : List Mark) × (element : List Mark) × (rest : List Mark) × (ms ≡ white ++ (element ++ rest))
    × IsTrue (list_all is_white_mark white) × IsElement element item × IsElementEnd rest × AreElements rest items

-- the text is the list of these items
abbrev pub IsList : List ℕ → List (List ℕ) → Type 0
IsList text items = AreElements (marks text) items

-- where reading stands: between elements, in braces with so many more open, in quotes, in a bare element, or behind a
-- closing brace or quote
pub data ListPlace : Type 0 where
  between : ListPlace
  in_braces : ℕ → ListPlace
  in_quotes : ListPlace
  in_bare : ListPlace
  closed : ListPlace

-- what is left of the element that stands open, and the elements after it
abbrev pub Reading : Type 0
Reading = Result (List ℕ × List (List ℕ)) ListFault

-- the place behind a mark
abbrev pub place_after : ListPlace → ByteKind → ListPlace
place_after between White = between
place_after between OpenBrace = in_braces 0
place_after between Quote = in_quotes
place_after between _ = in_bare
place_after (in_braces depth) OpenBrace = in_braces (suc depth)
place_after (in_braces zero) CloseBrace = closed
place_after (in_braces (suc depth)) CloseBrace = in_braces depth
place_after (in_braces depth) _ = in_braces depth
place_after in_quotes Quote = closed
place_after in_quotes _ = in_quotes
place_after in_bare White = between
place_after in_bare _ = in_bare
place_after closed White = between
place_after closed _ = closed

-- bytes in front of the element that stands open
abbrev pub onto : List ℕ → Reading → Reading
onto bytes (Ok r) = Ok (bytes ++ r.0, r.1)
onto bytes (Err f) = Err f

-- the element that stood open begins here
abbrev pub begun : Reading → Reading
begun (Ok r) = Ok ([], r.0 ∷ r.1)
begun (Err f) = Err f

-- what a mark adds to the reading of what stands behind it
abbrev pub with_mark : ListPlace → ByteKind → Mark → Reading → Reading
with_mark between White m r = r
with_mark between OpenBrace m r = begun r
with_mark between Quote m r = begun r
with_mark between _ m r = begun (onto m.meant r)
with_mark (in_braces zero) CloseBrace m r = r
with_mark (in_braces depth) _ m r = onto m.written r
with_mark in_quotes Quote m r = r
with_mark in_quotes _ m r = onto m.meant r
with_mark in_bare White m r = r
with_mark in_bare _ m r = onto m.meant r
with_mark closed White m r = r
with_mark closed _ m r = Err ExtraCharacters

-- what the end of the text is
abbrev pub at_end : ListPlace → Reading
at_end (in_braces depth) = Err UnmatchedBrace
at_end in_quotes = Err UnmatchedQuote
at_end _ = Ok ([], [])

abbrev pub reading : ListPlace → List Mark → Reading
reading place [] = at_end place
reading place (m ∷ ms) = with_mark place m.kind m (reading (place_after place m.kind) ms)

abbrev pub elements : Reading → Result (List (List ℕ)) ListFault
elements (Ok r) = Ok r.1
elements (Err f) = Err f

-- the items of the list that the text is, or the first fault in it. Other definitions compute with this one; the meaning is IsList above and IsListFault
-- of ListFaults, which the laws lists_are_read and list_faults_are_told say it is
unfoldable pub list_of : List ℕ → Result (List (List ℕ)) ListFault
list_of text = elements (reading between (marks text))

-- ── the list form ──

-- a byte that a list gives a meaning: white space, quote, braces, brackets, dollar, semicolon and backslash
abbrev pub is_special : ℕ → Bool
is_special c =
    is_white c
    || (c == quote || (c == dollar_sign || (c == semicolon || (c == open_bracket
    || (c == backslash_sign || (c == close_bracket || (c == open_brace || c == close_brace)))))))

abbrev pub begins_comment : List ℕ → Bool
begins_comment [] = false
begins_comment (c ∷ cs) = c == hash

-- the letter behind a backslash that stands for a byte, or the byte itself
abbrev pub letter_of : ℕ → ℕ
letter_of c =
    if c == line_feed then letter_n
    else (if c == tab then letter_t
    else (if c == vertical_tab then letter_v
    else (if c == form_feed then letter_f
    else (if c == carriage_return then letter_r
    else c))))

-- each special byte behind a backslash
abbrev pub with_backslashes : List ℕ → List ℕ
with_backslashes [] = []
with_backslashes (c ∷ cs) = if is_special c then backslash_sign ∷ letter_of c ∷ with_backslashes cs else c ∷ with_backslashes cs

-- and a first # too
abbrev pub backslashed : List ℕ → List ℕ
backslashed item = if begins_comment item then backslash_sign ∷ with_backslashes item else with_backslashes item

-- whether a backslash and a newline stand side by side, or a backslash at the end
abbrev pub has_joined_line : List ℕ → Bool
has_joined_line [] = false
has_joined_line (c ∷ []) = c == backslash_sign
has_joined_line (c ∷ d ∷ cs) = (c == backslash_sign && d == line_feed) || has_joined_line (d ∷ cs)

-- whether an element can stand as it is, or in braces
abbrev pub can_be_bare : List ℕ → Bool
can_be_bare item = not (begins_comment item) && list_all (λ c. not (is_special c)) item

abbrev pub can_be_braced : List ℕ → Bool
can_be_braced item = are_balanced 0 (marks item) && not (has_joined_line item)

-- how an item is written as an element
abbrev pub element_form : List ℕ → List ℕ
element_form [] = codes "{}"
element_form (c ∷ cs) =
    if can_be_bare (c ∷ cs) then c ∷ cs
    else (if can_be_braced (c ∷ cs) then open_brace ∷ ((c ∷ cs) ++ close_brace ∷ [])
    else backslashed (c ∷ cs))

-- the one text of the items: their elements with a blank between each two
unfoldable pub list_form : List (List ℕ) → List ℕ
list_form items = join_with_byte space (map element_form items)
