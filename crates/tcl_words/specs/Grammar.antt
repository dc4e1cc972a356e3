-- Meaning. The grammar of scripts, as a relation between a text and its commands. It cuts texts into gaps, commands, words and
-- pieces, and says nothing of how a text is read. What stands at the front of a text is read with how that goes on: with
-- a text that is left behind it, or with the fault of the text.
-- Commands and words tell where they stand (`at`, spans): only notes for people ask for that, and what scripts do doesn't hang on it.
use Rattle.std.specs.Prelude.{ℕ, zero, suc, ◌+◌, ◌≡◌, ◌≢◌, ◌≤◌, ◌⊎◌, Bool, true, false, not, ◌&&◌, ◌||◌, ◌==◌, nat_eq, List, [], ◌∷◌, ◌++◌, length, drop, Result, Ok, Err}
use Rattle.std.specs.List.{starts_with}
use Rattle.std.specs.Str.{IsUtf8}
use Rattle.tcl_text.specs.Bytes.{tab, line_feed, space, quote, hash, dollar_sign, open_paren, close_paren, star, colon, semicolon, open_bracket, backslash_sign, close_bracket, open_brace, close_brace}
use Rattle.tcl_text.specs.Backslash.{escape}
use Rattle.tcl_words.specs.Classes.{class_of, is_name_byte, begins_newline, begins_expansion}
use Rattle.tcl_words.specs.Places.{Stretch}
use Rattle.tcl_words.specs.Spans.{command_from, word_of}
use Rattle.tcl_words.specs.declared.kind.Mode.{Mode}
use Rattle.tcl_words.specs.declared.kind.Mode.TheVariants.{Bare, Quotes, Parens}
use Rattle.tcl_words.specs.declared.kind.Kind.{Kind}
use Rattle.tcl_words.specs.declared.kind.Kind.TheVariants.{Blank, Newline, Semicolon, Dollar, OpenBracket, CloseBracket, Backslash, Continuation}
use Rattle.tcl_words.specs.declared.script.WordForm.{WordForm}
use Rattle.tcl_words.specs.declared.script.WordForm.TheVariants.{Bare as BareForm, Quoted as QuotedForm, Braced as BracedForm}
use Rattle.tcl_words.specs.declared.script.Piece.{Piece}
use Rattle.tcl_words.specs.declared.script.Piece.TheVariants.{Literal, Variable, Element, Bracket}
use Rattle.tcl_words.specs.declared.script.Word.{Word}
use Rattle.tcl_words.specs.declared.script.Command.{Command}
use Rattle.tcl_text.specs.declared.fault.ParseFault.{ParseFault}
use Rattle.tcl_text.specs.declared.fault.ParseFault.TheVariants.{TooLong, MissingBrace, MissingBracket, MissingQuote, ExtraAfterBrace, ExtraAfterQuote, MissingParen}
use Rattle.tcl_text.specs.Limits.{most_bytes, most_nested}

-- How a text goes on behind what stands at its front.
pub data TextEnding : Type 0 where
  -- this is left of it
  leaves : List ℕ → TextEnding
  -- it has this fault
  fails : ParseFault → TextEnding

-- What is read by itself within a script: a script in brackets, or the index of an element.
pub data Inner : Type 0 where
  script : Inner
  index : Inner

-- this byte is the first
abbrev pub begins : ℕ → List ℕ → Bool
begins b [] = false
begins b (c ∷ text) = c == b

abbrev pub begins_name_byte : List ℕ → Bool
begins_name_byte [] = false
begins_name_byte (b ∷ text) = is_name_byte b

-- a name stands at the front: `::` or nothing, and then a letter, a digit or `_`
abbrev pub begins_name : List ℕ → Bool
begins_name text = begins_name_byte text || (starts_with nat_eq text (colon ∷ colon ∷ []) && begins_name_byte (drop 2 text))

-- A byte of this class, and then this text, end the word before them. `inside` says that the script or the index ends at a
-- closing bracket or parenthesis.
abbrev pub class_ends : Bool → Kind → List ℕ → Bool
class_ends inside Blank behind = true
class_ends inside Newline behind = true
class_ends inside Semicolon behind = true
class_ends inside CloseBracket behind = inside
class_ends inside Backslash behind = begins_newline behind
class_ends inside class behind = false

-- a word can end before this text
abbrev pub ends_word : Bool → List ℕ → Bool
ends_word inside [] = true
ends_word inside (b ∷ text) = class_ends inside (class_of b) text

-- a `{*}` stands at the front, before a character that doesn't end the word
abbrev pub begins_expanded : Bool → List ℕ → Bool
begins_expanded inside [] = false
begins_expanded inside (b ∷ text) = b == open_brace && (begins_expansion text && not (ends_word inside (drop 2 text)))

-- letters, digits and `_`
abbrev pub AreNameBytes : List ℕ → Type 0
AreNameBytes [] = Unit {0}
AreNameBytes (b ∷ text) = (is_name_byte b ≡ true) × AreNameBytes text

-- a variable's name: at least one of these, and before that `::` or nothing
abbrev pub IsName : List ℕ → Type 0
IsName name = (b : ℕ) × (letters : List ℕ) × (is_name_byte b ≡ true) × AreNameBytes letters × ((name ≡ b ∷ letters) ⊎ (name ≡ colon ∷ colon ∷ b ∷ letters))

-- no `}`
abbrev pub HasNoBrace : List ℕ → Type 0
HasNoBrace [] = Unit {0}
HasNoBrace (b ∷ text) = (b ≢ close_brace) × HasNoBrace text

-- an index ends at a parenthesis; read by itself it ends where the text does
abbrev pub index_stops : Bool → List ℕ → Bool
index_stops inside [] = not inside
index_stops inside (b ∷ text) = inside && b == close_paren

-- the body ends before this text
abbrev pub ends_body : Bool → Mode → List ℕ → Bool
ends_body inside Bare text = ends_word inside text
ends_body inside Quotes text = begins quote text
ends_body inside Parens text = index_stops inside text

-- the fault of a body that never ends
abbrev pub unended_fault : Mode → ParseFault
unended_fault Bare = MissingBracket
unended_fault Quotes = MissingQuote
unended_fault Parens = MissingParen

-- what stands for itself where a body goes on (no byte alone is a Continuation: see class_of)
abbrev pub is_plain : Kind → Bool
is_plain Dollar = false
is_plain OpenBracket = false
is_plain Backslash = false
is_plain Continuation = false
is_plain kind = true

-- what stands for itself goes together into literals, as long as can be
abbrev pub with_bytes : List ℕ → List Piece → List Piece
with_bytes [] pieces = pieces
with_bytes (b ∷ bytes) [] = Literal (b ∷ bytes) ∷ []
with_bytes (b ∷ bytes) (Literal text ∷ pieces) = Literal (b ∷ (bytes ++ text)) ∷ pieces
with_bytes (b ∷ bytes) (Variable name ∷ pieces) = Literal (b ∷ bytes) ∷ Variable name ∷ pieces
with_bytes (b ∷ bytes) (Element name key ∷ pieces) = Literal (b ∷ bytes) ∷ Element name key ∷ pieces
with_bytes (b ∷ bytes) (Bracket own ∷ pieces) = Literal (b ∷ bytes) ∷ Bracket own ∷ pieces

-- The pieces of a body at the front of a text, where `IsInner` says how scripts in brackets and indices are read. With a
-- fault the pieces are those before it.
pub data ArePieces (IsInner : Inner → List ℕ → TextEnding → Type 0) (inside : Bool) (mode : Mode) : List ℕ → List Piece → TextEnding → Type 0 where
  -- it ends before this text
  stop : {text : List ℕ} → ends_body inside mode text ≡ true → ArePieces IsInner inside mode text [] (leaves text)
  -- it should have ended
  unended : ends_body inside mode [] ≡ false → ArePieces IsInner inside mode [] [] (fails (unended_fault mode))
  -- a byte that stands for itself
  byte : {b : ℕ} {text : List ℕ} {pieces : List Piece} {ending : TextEnding} → ends_body inside mode (b ∷ text) ≡ false → is_plain (class_of b) ≡ true →
      ArePieces IsInner inside mode text pieces ending → ArePieces IsInner inside mode (b ∷ text) (with_bytes (b ∷ []) pieces) ending
  -- a backslash, with as much of the text behind it as it takes
  backslash : {text : List ℕ} {pieces : List Piece} {ending : TextEnding} → ends_body inside mode (backslash_sign ∷ text) ≡ false →
      ArePieces IsInner inside mode (drop (escape text).length text) pieces ending →
      ArePieces IsInner inside mode (backslash_sign ∷ text) (with_bytes (escape text).meaning pieces) ending
  -- a `$` that stands for itself
  dollar : {text : List ℕ} {pieces : List Piece} {ending : TextEnding} → begins_name text ≡ false → begins open_brace text ≡ false →
      ArePieces IsInner inside mode text pieces ending → ArePieces IsInner inside mode (dollar_sign ∷ text) (with_bytes (dollar_sign ∷ []) pieces) ending
  -- `$name`: the name goes as far as it can
  variable : (name : List ℕ) {text : List ℕ} {pieces : List Piece} {ending : TextEnding} → IsName name → begins_name_byte text ≡ false →
      begins open_paren text ≡ false →
      ArePieces IsInner inside mode text pieces ending → ArePieces IsInner inside mode (dollar_sign ∷ (name ++ text)) (Variable name ∷ pieces) ending
  -- `${name}`: any text up to the first brace
  braced_name : (name : List ℕ) {text : List ℕ} {pieces : List Piece} {ending : TextEnding} → HasNoBrace name →
      ArePieces IsInner inside mode text pieces ending →
      ArePieces IsInner inside mode (dollar_sign ∷ open_brace ∷ (name ++ close_brace ∷ text)) (Variable name ∷ pieces) ending
  unclosed_name : {text : List ℕ} → HasNoBrace text → ArePieces IsInner inside mode (dollar_sign ∷ open_brace ∷ text) [] (fails MissingBrace)
  -- `$name(index)`
  element : (name own : List ℕ) {text : List ℕ} {pieces : List Piece} {ending : TextEnding} → IsName name →
      IsInner index (own ++ close_paren ∷ text) (leaves (close_paren ∷ text)) →
      ArePieces IsInner inside mode text pieces ending →
      ArePieces IsInner inside mode (dollar_sign ∷ (name ++ open_paren ∷ (own ++ close_paren ∷ text))) (Element name own ∷ pieces) ending
  faulty_index : (name : List ℕ) {text : List ℕ} {fault : ParseFault} → IsName name → IsInner index text (fails fault) →
      ArePieces IsInner inside mode (dollar_sign ∷ (name ++ open_paren ∷ text)) [] (fails fault)
  -- a script in brackets
  bracket : (own : List ℕ) {text : List ℕ} {pieces : List Piece} {ending : TextEnding} →
      IsInner script (own ++ close_bracket ∷ text) (leaves (close_bracket ∷ text)) →
      ArePieces IsInner inside mode text pieces ending →
      ArePieces IsInner inside mode (open_bracket ∷ (own ++ close_bracket ∷ text)) (Bracket own ∷ pieces) ending
  faulty_script : {text : List ℕ} {fault : ParseFault} → IsInner script text (fails fault) →
      ArePieces IsInner inside mode (open_bracket ∷ text) [] (fails fault)

-- a blank or a tab
abbrev pub begins_space : List ℕ → Bool
begins_space [] = false
begins_space (b ∷ text) = b == space || b == tab

abbrev pub AreSpaces : List ℕ → Type 0
AreSpaces [] = Unit {0}
AreSpaces (b ∷ text) = (begins_space (b ∷ text) ≡ true) × AreSpaces text

-- What stands between braces, each of which has its match but where it follows a backslash, and the text that it is: a
-- backslash before a newline gives a blank, with the blanks and tabs behind it.
pub data IsBraced : List ℕ → List ℕ → Type 0 where
  none : IsBraced [] []
  byte : {b : ℕ} {text value : List ℕ} → b ≢ open_brace → b ≢ close_brace → b ≢ backslash_sign → IsBraced text value → IsBraced (b ∷ text) (b ∷ value)
  pair : {b : ℕ} {text value : List ℕ} → b ≢ line_feed → IsBraced text value → IsBraced (backslash_sign ∷ b ∷ text) (backslash_sign ∷ b ∷ value)
  continuation : (spaces : List ℕ) {text value : List ℕ} → AreSpaces spaces → begins_space text ≡ false → IsBraced text value →
      IsBraced (backslash_sign ∷ line_feed ∷ (spaces ++ text)) (space ∷ value)
  braces : (own text : List ℕ) {inner value : List ℕ} → IsBraced own inner → IsBraced text value →
      IsBraced (open_brace ∷ (own ++ close_brace ∷ text)) (open_brace ∷ (inner ++ close_brace ∷ value))

-- The text past an opening brace that has no match in it.
pub data IsUnclosed : List ℕ → Type 0 where
  ends : {text value : List ℕ} → IsBraced text value → IsUnclosed text
  backslash : (text : List ℕ) {value : List ℕ} → IsBraced text value → IsUnclosed (text ++ backslash_sign ∷ [])
  opens : (before text : List ℕ) {value : List ℕ} → IsBraced before value → IsUnclosed text → IsUnclosed (before ++ open_brace ∷ text)

-- the first byte of a bare word
abbrev pub begins_bare : Bool → List ℕ → Bool
begins_bare inside text = not (ends_word inside text) && (not (begins open_brace text) && not (begins quote text))

-- A word's own text, without a `{*}`, where `rest` follows it.
pub data IsOwnWord (IsInner : Inner → List ℕ → TextEnding → Type 0) (inside : Bool) (rest : List ℕ) : List ℕ → WordForm → List Piece → Type 0 where
  bare_word : {own : List ℕ} {pieces : List Piece} → begins_bare inside (own ++ rest) ≡ true →
      ArePieces IsInner inside Bare (own ++ rest) pieces (leaves rest) →
      IsOwnWord IsInner inside rest own BareForm pieces
  quoted_word : (own : List ℕ) {pieces : List Piece} → ArePieces IsInner inside Quotes (own ++ quote ∷ rest) pieces (leaves (quote ∷ rest)) →
      IsOwnWord IsInner inside rest (quote ∷ (own ++ quote ∷ [])) QuotedForm pieces
  braced_word : (own : List ℕ) {value : List ℕ} → IsBraced own value →
      IsOwnWord IsInner inside rest (open_brace ∷ (own ++ close_brace ∷ [])) BracedForm (Literal value ∷ [])

-- The fault of a text at whose front a word's own text would stand: the word never ends, something in it is at fault, or
-- something follows the quote or the brace that ends it.
pub data IsFaultyOwn (IsInner : Inner → List ℕ → TextEnding → Type 0) (inside : Bool) : List ℕ → ParseFault → Type 0 where
  faulty_bare : {text : List ℕ} {pieces : List Piece} {fault : ParseFault} → begins_bare inside text ≡ true →
      ArePieces IsInner inside Bare text pieces (fails fault) →
      IsFaultyOwn IsInner inside text fault
  faulty_quoted : {text : List ℕ} {pieces : List Piece} {fault : ParseFault} → ArePieces IsInner inside Quotes text pieces (fails fault) →
      IsFaultyOwn IsInner inside (quote ∷ text) fault
  followed_quoted : (own rest : List ℕ) {pieces : List Piece} → ArePieces IsInner inside Quotes (own ++ quote ∷ rest) pieces (leaves (quote ∷ rest)) →
      ends_word inside rest ≡ false →
      IsFaultyOwn IsInner inside (quote ∷ (own ++ quote ∷ rest)) ExtraAfterQuote
  unclosed_braced : {text : List ℕ} → IsUnclosed text → IsFaultyOwn IsInner inside (open_brace ∷ text) MissingBrace
  followed_braced : (own rest : List ℕ) {value : List ℕ} → IsBraced own value → ends_word inside rest ≡ false →
      IsFaultyOwn IsInner inside (open_brace ∷ (own ++ close_brace ∷ rest)) ExtraAfterBrace

-- what stands before a word's own text: `{*}`, or nothing
abbrev pub HasExpansion : Bool → Bool → List ℕ → List ℕ → Type 0
HasExpansion inside false mark text = (mark ≡ []) × (begins_expanded inside text ≡ false)
HasExpansion inside true mark text = (mark ≡ open_brace ∷ star ∷ close_brace ∷ []) × (ends_word inside text ≡ false)

-- A word at this position, where `rest` follows it.
pub record IsWord (IsInner : Inner → List ℕ → TextEnding → Type 0) (inside : Bool) (rest : List ℕ) (at : ℕ) (text : List ℕ) (word : Word) : Type 0 where
  pub expand : Bool
  pub mark : List ℕ
  pub own : List ℕ
  pub form : WordForm
  pub pieces : List Piece
  pub cut : text ≡ mark ++ own
  pub marked : HasExpansion inside expand mark (own ++ rest)
  pub is : IsOwnWord IsInner inside rest own form pieces
  pub ends : ends_word inside rest ≡ true
  pub same : word ≡ word_of form expand at pieces (at + length text)

-- A text at whose front a word would stand, with `{*}` or without, has this fault.
pub record IsFaultyWord (IsInner : Inner → List ℕ → TextEnding → Type 0) (inside : Bool) (text : List ℕ) (fault : ParseFault) : Type 0 where
  pub expand : Bool
  pub mark : List ℕ
  pub own : List ℕ
  pub cut : text ≡ mark ++ own
  pub marked : HasExpansion inside expand mark own
  pub is : IsFaultyOwn IsInner inside own fault

-- a newline or `;`
abbrev pub IsSeparator : ℕ → Type 0
IsSeparator b = (b ≡ line_feed) ⊎ (b ≡ semicolon)

-- What parts the words of a command: blank characters, and backslashes before newlines.
pub data AreBlanks : List ℕ → Type 0 where
  none : AreBlanks []
  blank : {b : ℕ} {text : List ℕ} → class_of b ≡ Blank → AreBlanks text → AreBlanks (b ∷ text)
  continuation : {text : List ℕ} → AreBlanks text → AreBlanks (backslash_sign ∷ line_feed ∷ text)

-- A comment's text: a backslash goes with the byte behind it, and no newline stands for itself.
pub data IsNote : List ℕ → Type 0 where
  none : IsNote []
  byte : {b : ℕ} {text : List ℕ} → b ≢ line_feed → b ≢ backslash_sign → IsNote text → IsNote (b ∷ text)
  pair : {b : ℕ} {text : List ℕ} → IsNote text → IsNote (backslash_sign ∷ b ∷ text)

-- a comment that goes on to the end of the text, where a backslash may be the last byte
abbrev pub IsLastNote : List ℕ → Type 0
IsLastNote text = IsNote text ⊎ ((front : List ℕ) × (text ≡ front ++ backslash_sign ∷ []) × IsNote front)

-- What may stand where a command could begin: blanks, separators, and comments that end.
pub data IsGap : List ℕ → Type 0 where
  none : IsGap []
  blank : {b : ℕ} {text : List ℕ} → class_of b ≡ Blank → IsGap text → IsGap (b ∷ text)
  continuation : {text : List ℕ} → IsGap text → IsGap (backslash_sign ∷ line_feed ∷ text)
  separator : {b : ℕ} {text : List ℕ} → IsSeparator b → IsGap text → IsGap (b ∷ text)
  comment : (note text : List ℕ) → IsNote note → IsGap text → IsGap (hash ∷ (note ++ line_feed ∷ text))

-- how a script goes on at the end of the text
abbrev pub end_of_text : Bool → TextEnding
end_of_text true = fails MissingBracket
end_of_text false = leaves []

-- The end of a script: the bracket that closes it, or the end of the text.
pub data IsEnd (inside : Bool) : List ℕ → TextEnding → Type 0 where
  closes : {text : List ℕ} → inside ≡ true → IsEnd inside (close_bracket ∷ text) (leaves (close_bracket ∷ text))
  stands : IsEnd inside [] (end_of_text inside)

-- How a script ends where a word could begin.
pub data IsEnding (IsInner : Inner → List ℕ → TextEnding → Type 0) (inside : Bool) : List ℕ → TextEnding → Type 0 where
  ends : {text : List ℕ} {ending : TextEnding} → IsEnd inside text ending → IsEnding IsInner inside text ending
  faulty : {text : List ℕ} {fault : ParseFault} → IsFaultyWord IsInner inside text fault → IsEnding IsInner inside text (fails fault)

-- How a script ends where a command could begin.
pub data IsLast (IsInner : Inner → List ℕ → TextEnding → Type 0) (inside : Bool) : List ℕ → TextEnding → Type 0 where
  ends : {text : List ℕ} {ending : TextEnding} → IsEnd inside text ending → IsLast IsInner inside text ending
  -- a comment holds all that is left, a bracket too
  comment : {note : List ℕ} → IsLastNote note → IsLast IsInner inside (hash ∷ note) (end_of_text inside)
  faulty : {text : List ℕ} {fault : ParseFault} → begins hash text ≡ false → IsFaultyWord IsInner inside text fault → IsLast IsInner inside text (fails fault)

-- The further words of a command, and then what comes after it.
abbrev pub AreFurtherWords : (Inner → List ℕ → TextEnding → Type 0) → Bool → (ℕ → List ℕ → Type 0) → ℕ → List ℕ → List Word → Type 0
AreFurtherWords IsInner inside IsAfter at text [] = IsAfter at text
AreFurtherWords IsInner inside IsAfter at text (word ∷ words) =
    (blanks : List ℕ) × (own : List ℕ) × (rest : List ℕ) × (text ≡ blanks ++ (own ++ rest)) × AreBlanks blanks
    × IsWord IsInner inside rest (at + length blanks) own word × AreFurtherWords IsInner inside IsAfter (at + length blanks + length own) rest words

-- Blanks, and then a separator before the rest of the script, or the end.
abbrev pub IsRest : (ℕ → List ℕ → Type 0) → (List ℕ → Type 0) → ℕ → List ℕ → Type 0
IsRest IsNext IsLastOf at text =
    (blanks : List ℕ) × (rest : List ℕ) × (text ≡ blanks ++ rest) × AreBlanks blanks
    × (((b : ℕ) × (after : List ℕ) × (rest ≡ b ∷ after) × IsSeparator b × IsNext (at + length blanks + 1) after) ⊎ IsLastOf rest)

-- The commands of a script at the front of a text that begins at this position. Where there is a fault in a command, that
-- command has the words before the fault.
abbrev pub IsScript : (Inner → List ℕ → TextEnding → Type 0) → Bool → ℕ → List ℕ → List Command → TextEnding → Type 0
IsScript IsInner inside at text [] ending = (gap : List ℕ) × (rest : List ℕ) × (text ≡ gap ++ rest) × IsGap gap × IsLast IsInner inside rest ending
IsScript IsInner inside at text (command ∷ commands) ending =
    (gap : List ℕ) × (own : List ℕ) × (rest : List ℕ) × (word : Word) × (words : List Word)
    × (text ≡ gap ++ (own ++ rest)) × IsGap gap × (begins hash (own ++ rest) ≡ false)
    × IsWord IsInner inside rest (at + length gap) own word
    × AreFurtherWords IsInner inside
    (IsRest (λ next after. IsScript IsInner inside next after commands ending) (λ last. (commands ≡ []) × IsEnding IsInner inside last ending))
    (at + length gap + length own) rest words
    × (command ≡ command_from (at + length gap) (word ∷ words))

-- What brackets and indices hold where so many may still be opened in one another: a script, or the pieces of an index,
-- with positions counted from its own first byte. Where none may be opened, that is a fault at the opener.
abbrev pub IsInnerOf : ℕ → Inner → List ℕ → TextEnding → Type 0
IsInnerOf zero inner text ending = ending ≡ fails TooLong
IsInnerOf (suc room) script text ending = (commands : List Command) × IsScript (IsInnerOf room) true 0 text commands ending
IsInnerOf (suc room) index text ending = (pieces : List Piece) × ArePieces (IsInnerOf room) true Parens text pieces ending

-- a script's text: at most 65,536 bytes of UTF-8
abbrev pub IsText : List ℕ → Type 0
IsText text = (length text ≤ most_bytes) × IsUtf8 text

-- The text is a script of these commands. At most 200 brackets and indices stand in one another.
pub record IsScriptOf (text : List ℕ) (commands : List Command) : Type 0 where
  pub is_text : IsText text
  pub cut : IsScript (IsInnerOf most_nested) false 0 text commands (leaves [])

-- The text is no script, and this is its first fault from the left.
pub data IsScriptFault (text : List ℕ) : ParseFault → Type 0 where
  -- that it is no text of a script counts before all else
  no_text : ¬ IsText text → IsScriptFault text TooLong
  faulty_text : {fault : ParseFault} (commands : List Command) → IsText text → IsScript (IsInnerOf most_nested) false 0 text commands (fails fault) →
      IsScriptFault text fault

-- What the text is: a script of these commands, or none, with this fault. Each text is one of both, and in one way alone.
abbrev pub IsScriptParse : List ℕ → Result (List Command) ParseFault → Type 0
IsScriptParse text (Ok commands) = IsScriptOf text commands
IsScriptParse text (Err fault) = IsScriptFault text fault

-- The text, read by itself, is an index of these pieces.
pub record IsIndexOf (text : List ℕ) (pieces : List Piece) : Type 0 where
  pub cut : ArePieces (IsInnerOf most_nested) false Parens text pieces (leaves [])

-- The text, read by itself, is no index, and this is its first fault from the left.
pub record IsIndexFault (text : List ℕ) (fault : ParseFault) : Type 0 where
  pub pieces : List Piece
  pub cut : ArePieces (IsInnerOf most_nested) false Parens text pieces (fails fault)

-- What the text is as an index, likewise.
abbrev pub IsIndexParse : List ℕ → Result (List Piece) ParseFault → Type 0
IsIndexParse text (Ok pieces) = IsIndexOf text pieces
IsIndexParse text (Err fault) = IsIndexFault text fault

-- the span is where this part stands in the text
abbrev pub IsSlice : List ℕ → Stretch → List ℕ → Type 0
IsSlice text span own =
    (before : List ℕ) × (after : List ℕ) × (text ≡ before ++ (own ++ after)) × (span ≡ record { start = length before; end = length before + length own })

-- each word's span is where a text of that word stands
abbrev pub WordsAreSlices : List ℕ → List Word → Type 0
WordsAreSlices text [] = Unit {0}
WordsAreSlices text (word ∷ words) =
    ((own : List ℕ) × (rest : List ℕ) × IsSlice text word.span own × IsWord (IsInnerOf most_nested) false rest word.span.start own word)
    × WordsAreSlices text words

-- likewise in each command, whose span goes from its first word to the end of its last
abbrev pub CommandsAreSlices : List ℕ → List Command → Type 0
CommandsAreSlices text [] = Unit {0}
CommandsAreSlices text (command ∷ commands) =
    WordsAreSlices text command.words × (command ≡ command_from command.span.start command.words) × ((own : List ℕ) × IsSlice text command.span own)
    × CommandsAreSlices text commands
