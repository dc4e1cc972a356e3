-- Classes and bytes, and what a byte that stands for itself does.
use Rattle.std.proofs.Common.{◌≡◌, ◌≢◌, ℕ, Bool, true, false, ◌==◌, ◌&&◌, if◌then◌else◌, refl, sym, eqb-true, subst, List, [], ◌∷◌}
use Rattle.std.proofs.Common.{arith}
use Rattle.std.proofs.lemmas.Bool.Decides.{nat_tests}
use Rattle.tcl_text.specs.Backslash.{escape}
use Rattle.tcl_words.specs.Kinds.{class_means, kind_before}
use Rattle.tcl_words.specs.Classes.{class_of, is_blank, begins_newline, begins_expansion}
use Rattle.tcl_words.specs.Grammar.{class_ends}
use Rattle.tcl_words.specs.Changes.{bytes}
use Rattle.tcl_words.specs.Moves.{on, in_bare, in_quotes, in_parens, move_of, at_dollar}
use Rattle.tcl_words.specs.Kinds.{dollar_of}
use Rattle.tcl_words.specs.Grammar.{ends_body, is_plain}
use Rattle.tcl_words.specs.declared.kind.Mode.{Mode}
use Rattle.tcl_words.specs.declared.kind.Mode.TheVariants.{Bare, Quotes, Parens}
use Rattle.tcl_words.specs.declared.kind.BytePlace.TheVariants.{Text}
use Rattle.std.proofs.Common.{Ok, nat_eq}
use Rattle.tcl_words.specs.declared.kind.Opener.TheVariants.{Bracket as BracketOpener}
use Rattle.tcl_words.specs.declared.kind.Step.TheVariants.{Within}
use Rattle.tcl_words.specs.declared.kind.Kind.{Kind}
use Rattle.tcl_words.specs.declared.kind.Kind.TheVariants.{Blank, Newline, Semicolon, Hash, Dollar, Quote, OpenBracket, CloseBracket, OpenBrace, Expansion, CloseBrace, CloseParen, Backslash, Continuation, Other}

-- the byte of a class that has one
abbrev pub IsByteOf : ℕ → Kind → Type 0
IsByteOf b Newline = b ≡ 10
IsByteOf b Semicolon = b ≡ 59
IsByteOf b Hash = b ≡ 35
IsByteOf b Dollar = b ≡ 36
IsByteOf b Quote = b ≡ 34
IsByteOf b OpenBracket = b ≡ 91
IsByteOf b CloseBracket = b ≡ 93
IsByteOf b OpenBrace = b ≡ 123
IsByteOf b CloseBrace = b ≡ 125
IsByteOf b CloseParen = b ≡ 41
IsByteOf b Backslash = b ≡ 92
IsByteOf b Blank = is_blank b ≡ true
IsByteOf b Expansion = ⊥
IsByteOf b Continuation = ⊥
IsByteOf b Other = Unit {0}

chosen : (P : Kind → Type 0) (t : Bool) (x y : Kind) → (t ≡ true → P x) → P y → P (if t then x else y)
chosen P true x y f g = f refl
chosen P false x y f g = g

class_is : (b : ℕ) → IsByteOf b (class_of b)
unfolding class_of
class_is b =
    chosen (IsByteOf b) (b == 10) Newline _ (eqb-true b 10)
    (chosen (IsByteOf b) (is_blank b) Blank _ (λ e. e)
    (chosen (IsByteOf b) (b == 59) Semicolon _ (eqb-true b 59)
    (chosen (IsByteOf b) (b == 35) Hash _ (eqb-true b 35)
    (chosen (IsByteOf b) (b == 36) Dollar _ (eqb-true b 36)
    (chosen (IsByteOf b) (b == 34) Quote _ (eqb-true b 34)
    (chosen (IsByteOf b) (b == 91) OpenBracket _ (eqb-true b 91)
    (chosen (IsByteOf b) (b == 93) CloseBracket _ (eqb-true b 93)
    (chosen (IsByteOf b) (b == 123) OpenBrace _ (eqb-true b 123)
    (chosen (IsByteOf b) (b == 125) CloseBrace _ (eqb-true b 125)
    (chosen (IsByteOf b) (b == 41) CloseParen _ (eqb-true b 41)
    (chosen (IsByteOf b) (b == 92) Backslash Other (eqb-true b 92) tt)))))))))))

-- the byte is the one of its class
pub byte_is : (b : ℕ) (kind : Kind) → class_of b ≡ kind → IsByteOf b kind
byte_is b kind e = subst (IsByteOf b) e (class_is b)

pub class-newline : class_of 10 ≡ Newline
unfolding class_of
class-newline = refl

pub class-semicolon : class_of 59 ≡ Semicolon
unfolding class_of
class-semicolon = refl

pub class-hash : class_of 35 ≡ Hash
unfolding class_of
class-hash = refl

pub class-dollar : class_of 36 ≡ Dollar
unfolding class_of
class-dollar = refl

pub class-quote : class_of 34 ≡ Quote
unfolding class_of
class-quote = refl

pub class-open_bracket : class_of 91 ≡ OpenBracket
unfolding class_of
class-open_bracket = refl

pub class-close_bracket : class_of 93 ≡ CloseBracket
unfolding class_of
class-close_bracket = refl

pub class-open_brace : class_of 123 ≡ OpenBrace
unfolding class_of
class-open_brace = refl

pub class-close_brace : class_of 125 ≡ CloseBrace
unfolding class_of
class-close_brace = refl

pub class-close_paren : class_of 41 ≡ CloseParen
unfolding class_of
class-close_paren = refl

pub class-backslash : class_of 92 ≡ Backslash
unfolding class_of
class-backslash = refl

pub expansion_or : (P : Kind → Type 0) (t : Bool) → P Expansion → P OpenBrace → P (if t then Expansion else OpenBrace)
expansion_or P true x y = x
expansion_or P false x y = y

plain_bare : (inside : Bool) (kind : Kind) (b at : ℕ) (text : List ℕ) → class_ends inside kind text ≡ false → is_plain kind ≡ true →
    in_bare (class_means inside kind text) b at text ≡ on (bytes (b ∷ []) ∷ []) 0 (Text Bare)
plain_bare true CloseBracket b at text h p = cc
plain_bare false CloseBracket b at text h p = refl
plain_bare inside OpenBrace b at text h p = expansion_or (λ k. in_bare k b at text ≡ on (bytes (b ∷ []) ∷ []) 0 (Text Bare)) (begins_expansion text) refl refl
plain_bare true CloseParen b at text h p = refl
plain_bare false CloseParen b at text h p = refl
plain_bare inside Hash b at text h p = refl
plain_bare inside Quote b at text h p = refl
plain_bare inside Expansion b at text h p = refl
plain_bare inside CloseBrace b at text h p = refl
plain_bare inside Other b at text h p = refl
plain_bare inside kind b at text h p = cc

plain_quoted : (inside : Bool) (kind : Kind) (b : ℕ) (text : List ℕ) → kind ≢ Quote → is_plain kind ≡ true →
    in_quotes (class_means inside kind text) b text ≡ on (bytes (b ∷ []) ∷ []) 0 (Text Quotes)
plain_quoted inside Quote b text h p = absurd (h refl)
plain_quoted inside Dollar b text h p = cc
plain_quoted inside OpenBracket b text h p = cc
plain_quoted inside Backslash b text h p = cc
plain_quoted inside Continuation b text h p = cc
plain_quoted true CloseBracket b text h p = refl
plain_quoted false CloseBracket b text h p = refl
plain_quoted inside OpenBrace b text h p = expansion_or (λ k. in_quotes k b text ≡ on (bytes (b ∷ []) ∷ []) 0 (Text Quotes)) (begins_expansion text) refl refl
plain_quoted true CloseParen b text h p = refl
plain_quoted false CloseParen b text h p = refl
plain_quoted inside kind b text h p = refl

plain_parensed : (inside : Bool) (kind : Kind) (b : ℕ) (text : List ℕ) → (inside ≡ true → kind ≢ CloseParen) → is_plain kind ≡ true →
    in_parens (class_means inside kind text) b text ≡ on (bytes (b ∷ []) ∷ []) 0 (Text Parens)
plain_parensed inside Dollar b text h p = cc
plain_parensed inside OpenBracket b text h p = cc
plain_parensed inside Backslash b text h p = cc
plain_parensed inside Continuation b text h p = cc
plain_parensed true CloseBracket b text h p = refl
plain_parensed false CloseBracket b text h p = refl
plain_parensed inside OpenBrace b text h p = expansion_or (λ k. in_parens k b text ≡ on (bytes (b ∷ []) ∷ []) 0 (Text Parens)) (begins_expansion text) refl refl
plain_parensed true CloseParen b text h p = absurd (h refl refl)
plain_parensed false CloseParen b text h p = refl
plain_parensed inside kind b text h p = refl

-- a byte is not of a class whose byte it isn't
pub other_class : (b c : ℕ) (kind : Kind) → (b == c) ≡ false → (class_of b ≡ kind → b ≡ c) → class_of b ≢ kind
other_class b c kind h is e = let same : b ≡ c = is e in absurd (grind (arith, nat_tests))

pub plain_move : (inside : Bool) (mode : Mode) (b at : ℕ) (text : List ℕ) → ends_body inside mode (b ∷ text) ≡ false → is_plain (class_of b) ≡ true →
    move_of (Text mode) (kind_before inside b text) b at text ≡ on (bytes (b ∷ []) ∷ []) 0 (Text mode)
plain_move inside Bare b at text h p = plain_bare inside (class_of b) b at text h p
plain_move inside Quotes b at text h p = plain_quoted inside (class_of b) b text (other_class b 34 Quote h (byte_is b Quote)) p
plain_move true Parens b at text h p = plain_parensed true (class_of b) b text (λ q. other_class b 41 CloseParen h (byte_is b CloseParen)) p
plain_move false Parens b at text h p = plain_parensed false (class_of b) b text (λ q. cc) p

pub continuation_or : (P : Kind → Type 0) (t : Bool) → P Continuation → P Backslash → P (if t then Continuation else Backslash)
continuation_or P true x y = x
continuation_or P false x y = y

pub backslash_move : (inside : Bool) (mode : Mode) (at : ℕ) (text : List ℕ) → ends_body inside mode (92 ∷ text) ≡ false →
    move_of (Text mode) (kind_before inside 92 text) 92 at text ≡ on (bytes (escape text).meaning ∷ []) (escape text).length (Text mode)
unfolding class_of
backslash_move inside Bare at text h = rw h refl
backslash_move inside Quotes at text h =
    continuation_or (λ k. in_quotes k 92 text ≡ on (bytes (escape text).meaning ∷ []) (escape text).length (Text Quotes)) (begins_newline text) refl refl
backslash_move inside Parens at text h =
    continuation_or (λ k. in_parens k 92 text ≡ on (bytes (escape text).meaning ∷ []) (escape text).length (Text Parens)) (begins_newline text) refl refl

pub dollar_move : (inside : Bool) (mode : Mode) (at : ℕ) (text : List ℕ) → move_of (Text mode) (kind_before inside 36 text) 36 at text ≡ at_dollar mode (dollar_of text) 36 text
unfolding class_of
dollar_move inside Bare at text = refl
dollar_move inside Quotes at text = refl
dollar_move inside Parens at text = refl

pub bracket_move : (inside : Bool) (mode : Mode) (at : ℕ) (text : List ℕ) →
    move_of (Text mode) (kind_before inside 91 text) 91 at text ≡ record { changes = []; step = Ok (Within BracketOpener mode) }
unfolding class_of
bracket_move inside Bare at text = refl
bracket_move inside Quotes at text = refl
bracket_move inside Parens at text = refl

-- a backslash that stands before no newline
pub newline_or : (P : Kind → Type 0) (b : ℕ) (text : List ℕ) → b ≢ 10 → P Backslash → P (if begins_newline (b ∷ text) then Continuation else Backslash)
newline_or P b text h x = go (nat_eq 10 b) refl
  where
    go : (t : Bool) → nat_eq 10 b ≡ t → P (if t && true then Continuation else Backslash)
    go true e = absurd (h (sym (eqb-true 10 b e)))
    go false e = x
