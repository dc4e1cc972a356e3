-- Steps. What a byte can mean in a script by what stands behind it.
use Rattle.std.specs.Prelude.{ℕ, zero, suc, ◌+◌, Bool, ◌==◌, nat_eq, if◌then◌else◌, List, [], ◌∷◌, drop, Option, Some, None}
use Rattle.std.specs.List.{starts_with}
use Rattle.tcl_text.specs.Bytes.{open_paren, colon, open_brace, close_brace}
use Rattle.tcl_words.specs.Classes.{is_name_byte, class_of, begins_newline, begins_expansion}
use Rattle.tcl_words.specs.declared.kind.Kind.{Kind}
use Rattle.tcl_words.specs.declared.kind.Kind.TheVariants.{CloseBracket, OpenBrace, Expansion, CloseParen, Backslash, Continuation, Other}
use Rattle.tcl_words.specs.declared.kind.Dollar.{Dollar as DollarForm}
use Rattle.tcl_words.specs.declared.kind.Dollar.TheVariants.{Alone, Named, Indexed, Braced, Unclosed}

-- what a byte of this class means before this text; `inside` says that the script or the index ends at a closing bracket or parenthesis
abbrev pub class_means : Bool → Kind → List ℕ → Kind
class_means inside OpenBrace behind = if begins_expansion behind then Expansion else OpenBrace
class_means inside Backslash behind = if begins_newline behind then Continuation else Backslash
class_means inside CloseBracket behind = if inside then CloseBracket else Other
class_means inside CloseParen behind = if inside then CloseParen else Other
class_means inside class behind = class

abbrev pub kind_before : Bool → ℕ → List ℕ → Kind
kind_before inside b behind = class_means inside (class_of b) behind

-- how many bytes of a name stand in front
abbrev pub name_bytes : List ℕ → ℕ
name_bytes [] = 0
name_bytes (b ∷ text) = if is_name_byte b then suc (name_bytes text) else 0

-- so many, with the `::` before them, where there are some
abbrev pub past_colons : ℕ → ℕ
past_colons zero = 0
past_colons (suc n) = suc n + 2

-- how long the variable's name in front is: `::` or nothing, and at least one letter, digit or `_`
abbrev pub name_length : List ℕ → ℕ
name_length text = if starts_with nat_eq text (colon ∷ colon ∷ []) then past_colons (name_bytes (drop 2 text)) else name_bytes text

-- one byte further
abbrev pub one_further : Option ℕ → Option ℕ
one_further None = None
one_further (Some n) = Some (suc n)

-- how many bytes stand before the first `}`
abbrev pub to_brace : List ℕ → Option ℕ
to_brace [] = None
to_brace (b ∷ text) = if b == close_brace then Some 0 else one_further (to_brace text)

abbrev pub dollar_braced : Option ℕ → DollarForm
dollar_braced None = Unclosed
dollar_braced (Some n) = Braced n

-- behind a name of this length stands this text
abbrev pub dollar_named : ℕ → List ℕ → DollarForm
dollar_named zero behind = Alone
dollar_named (suc n) behind = if starts_with nat_eq behind (open_paren ∷ []) then Indexed (suc n) else Named (suc n)

-- what a `$` is before this text
unfoldable pub dollar_of : List ℕ → DollarForm
dollar_of behind =
    if starts_with nat_eq behind (open_brace ∷ []) then dollar_braced (to_brace (drop 1 behind))
    else dollar_named (name_length behind) (drop (name_length behind) behind)
