-- Meaning. Which fault a text has that is no list, as a relation: elements, and then a faulty one.
use Rattle.std.specs.Prelude.{◌≡◌, ℕ, false, not, List, [], ◌∷◌, ◌++◌, IsTrue}
use Rattle.std.specs.List.{list_all}
use Rattle.tcl_text.specs.Backslash.{Mark, marks}
use Rattle.tcl_text.specs.Readings.{is_white_mark, is_quote_mark, are_balanced, IsElement, IsElementEnd}
use Rattle.tcl_text.specs.declared.splitting.ByteKind.TheVariants.{OpenBrace, CloseBrace, Quote}
use Rattle.tcl_text.specs.declared.fault.ListFault.{ListFault}
use Rattle.tcl_text.specs.declared.fault.ListFault.TheVariants.{OpenBrace as UnmatchedBrace, OpenQuote as UnmatchedQuote, ExtraCharacters}

-- no closing brace among these marks has balanced marks before it, so none is the match of a brace in front of them all
abbrev pub HasNoClosingBrace : List Mark → Type 0
HasNoClosingBrace ms = (before rest : List Mark) (last : Mark) → ms ≡ before ++ last ∷ rest → last.kind ≡ CloseBrace → are_balanced 0 before ≡ false

-- An element that is at fault, with all that stands behind it.
pub data IsFaultyElement : List Mark → ListFault → Type 0 where
  -- a brace opens it that has no match
  unclosed_brace : (first : Mark) (inside : List Mark) → first.kind ≡ OpenBrace → HasNoClosingBrace inside → IsFaultyElement (first ∷ inside) UnmatchedBrace
  -- a quote opens it, and no other quote follows
  unclosed_quote : (first : Mark) (inside : List Mark) → first.kind ≡ Quote
      → IsTrue (list_all (λ m. not (is_quote_mark m)) inside) → IsFaultyElement (first ∷ inside) UnmatchedQuote
  -- something other than white space follows the brace that ends it
  followed_brace : (first last next : Mark) (inside rest : List Mark) → first.kind ≡ OpenBrace → last.kind ≡ CloseBrace
      → IsTrue (are_balanced 0 inside) → is_white_mark next ≡ false
      → IsFaultyElement (first ∷ (inside ++ last ∷ next ∷ rest)) ExtraCharacters
  -- something other than white space follows the quote that ends it
  followed_quote : (first last next : Mark) (inside rest : List Mark) → first.kind ≡ Quote → last.kind ≡ Quote
      → IsTrue (list_all (λ m. not (is_quote_mark m)) inside) → is_white_mark next ≡ false
      → IsFaultyElement (first ∷ (inside ++ last ∷ next ∷ rest)) ExtraCharacters

-- the marks are these elements, with white space between them, and then one that is at fault
abbrev pub AreItemsBeforeFault : List Mark → List (List ℕ) → ListFault → Type 0
AreItemsBeforeFault ms [] fault =
    (white : List Mark) × (rest : List Mark) × (ms ≡ white ++ rest) × IsTrue (list_all is_white_mark white) × IsFaultyElement rest fault
AreItemsBeforeFault ms (item ∷ items) fault =
    (white : List Mark) × (element : List Mark) × (rest : List Mark) × (ms ≡ white ++ (element ++ rest))
    × IsTrue (list_all is_white_mark white) × IsElement element item × IsElementEnd rest × AreItemsBeforeFault rest items fault

-- the text is no list, and this is its first fault
abbrev pub IsListFault : List ℕ → ListFault → Type 0
IsListFault text fault = (items : List (List ℕ)) × AreItemsBeforeFault (marks text) items fault
