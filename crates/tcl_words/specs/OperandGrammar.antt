-- Meaning. What a bracket, a `$` or a quote begins in an expression, by the grammar of scripts: what it gives and how many bytes behind it
-- are its own, or its fault. `room` is how many brackets and indices may still be opened in one another.
use Rattle.std.specs.Prelude.{◌≡◌, ℕ, suc, ◌+◌, true, false, List, ◌∷◌, ◌++◌, length, Option, Some, None, Result, Ok, Err}
use Rattle.tcl_text.specs.Bytes.{quote, open_paren, close_paren, close_bracket, open_brace, close_brace}
use Rattle.tcl_words.specs.Grammar.{leaves, fails, script, index, begins, begins_name_byte, begins_name, IsName, HasNoBrace, ArePieces, IsInnerOf}
use Rattle.tcl_words.specs.declared.kind.Mode.TheVariants.{Quotes}
use Rattle.tcl_words.specs.declared.script.Piece.{Piece}
use Rattle.tcl_words.specs.declared.script.Piece.TheVariants.{Variable, Element, Bracket}
use Rattle.tcl_text.specs.declared.fault.ParseFault.{ParseFault}
use Rattle.tcl_text.specs.declared.fault.ParseFault.TheVariants.{MissingBrace}

-- the text behind a bracket: a script up to the bracket that closes it
abbrev pub IsBehindBracket : ℕ → List ℕ → Result (Piece × ℕ) ParseFault → Type 0
IsBehindBracket room text (Ok found) =
    (own : List ℕ) × (rest : List ℕ) × (text ≡ own ++ close_bracket ∷ rest)
    × IsInnerOf room script (own ++ close_bracket ∷ rest) (leaves (close_bracket ∷ rest)) × (found ≡ (Bracket own, suc (length own)))
IsBehindBracket room text (Err fault) = IsInnerOf room script text (fails fault)

-- What a `$` before this text begins, as in the pieces of a body, and what is left of the text.
pub data IsSubstitution (room : ℕ) : List ℕ → Piece → List ℕ → Type 0 where
  -- `$name`: the name goes as far as it can
  variable : (name : List ℕ) {text : List ℕ} → IsName name → begins_name_byte text ≡ false → begins open_paren text ≡ false →
      IsSubstitution room (name ++ text) (Variable name) text
  -- `${name}`: any text up to the first brace
  braced_name : (name : List ℕ) {text : List ℕ} → HasNoBrace name → IsSubstitution room (open_brace ∷ (name ++ close_brace ∷ text)) (Variable name) text
  -- `$name(index)`
  element : (name own : List ℕ) {text : List ℕ} → IsName name → IsInnerOf room index (own ++ close_paren ∷ text) (leaves (close_paren ∷ text)) →
      IsSubstitution room (name ++ open_paren ∷ (own ++ close_paren ∷ text)) (Element name own) text

-- The fault of what it begins.
pub data IsFaultySubstitution (room : ℕ) : List ℕ → ParseFault → Type 0 where
  unclosed_name : (text : List ℕ) → HasNoBrace text → IsFaultySubstitution room (open_brace ∷ text) MissingBrace
  faulty_index : (name text : List ℕ) {fault : ParseFault} → IsName name → IsInnerOf room index text (fails fault) →
      IsFaultySubstitution room (name ++ open_paren ∷ text) fault

-- the text behind a `$`: none where it begins no variable
abbrev pub IsBehindDollar : ℕ → List ℕ → Result (Option (Piece × ℕ)) ParseFault → Type 0
IsBehindDollar room text (Ok None) = (begins_name text ≡ false) × (begins open_brace text ≡ false)
IsBehindDollar room text (Ok (Some found)) = (rest : List ℕ) × IsSubstitution room text found.0 rest × (found.1 + length rest ≡ length text)
IsBehindDollar room text (Err fault) = IsFaultySubstitution room text fault

-- the text behind a quote: pieces up to the next quote that isn't within one of them
abbrev pub IsBehindQuote : ℕ → List ℕ → Result (List Piece × ℕ) ParseFault → Type 0
IsBehindQuote room text (Ok found) =
    (own : List ℕ) × (rest : List ℕ) × (text ≡ own ++ quote ∷ rest)
    × ArePieces (IsInnerOf room) true Quotes (own ++ quote ∷ rest) found.0 (leaves (quote ∷ rest)) × (found.1 ≡ suc (length own))
IsBehindQuote room text (Err fault) = (pieces : List Piece) × ArePieces (IsInnerOf room) true Quotes text pieces (fails fault)
