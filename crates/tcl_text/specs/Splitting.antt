-- Steps. What the steps of splitting a list say, in the words of the readings.
use Rattle.std.specs.Prelude.{◌≡◌, ℕ, ◌+◌, ◌-◌, ◌<◌, ◌≤◌, ◌==◌, ◌⊎◌, IsUtf8, Bool, true, false, List, [], ◌∷◌, ◌++◌, take, drop, length, slice_index, Option, Some, None, Result, Ok, Err, ⊤}
use Rattle.std.specs.Borrow.{Bor}
use Rattle.tcl_text.specs.Backslash.{is_white, marks}
use Rattle.tcl_text.specs.Bytes.{quote, backslash_sign, close_brace}
use Rattle.tcl_text.specs.Readings.{ListPlace, in_braces, in_quotes, in_bare, closed, Reading, onto, reading, list_of, are_balanced}
use Rattle.tcl_text.specs.declared.splitting.ByteKind.{ByteKind}
use Rattle.tcl_text.specs.declared.splitting.ByteKind.TheVariants.{White, OpenBrace, Quote}
use Rattle.tcl_text.specs.declared.fault.ListFault.{ListFault}
use Rattle.tcl_text.specs.declared.fault.ListFault.TheVariants.{OpenBrace as UnmatchedBrace, ExtraCharacters}
use Rattle.tcl_text.specs.declared.fault.SplitFault.{SplitFault}
use Rattle.tcl_text.specs.declared.fault.SplitFault.TheVariants.{BadList, NoMemory}

-- the answer is what reading gives, unless memory was refused
abbrev pub Splits : Result (List (List ℕ)) SplitFault → Result (List (List ℕ)) ListFault → Type 0
Splits (Ok items) read = read ≡ Ok items
Splits (Err (BadList fault)) read = read ≡ Err fault
Splits (Err NoMemory) read = ⊤

-- the list has these items in front of those of another
abbrev pub items_before : List (List ℕ) → Result (List (List ℕ)) ListFault → Result (List (List ℕ)) ListFault
items_before front (Ok items) = Ok (front ++ items)
items_before front (Err fault) = Err fault

-- the bytes in front of a place of the text go to the element that stands open, and reading goes on from there
abbrev pub ReadsTo : ListPlace → List ℕ → ℕ → List ℕ → ListPlace → Type 0
ReadsTo start text at bytes place = reading start (marks text) ≡ onto bytes (reading place (marks (drop at text)))

-- an element in quotes, or a bare one
abbrev pub within : Bool → ListPlace
within true = in_quotes
within false = in_bare

-- the byte that ends it
abbrev pub ends : Bool → ℕ → Bool
ends true b = b == quote
ends false b = is_white b

-- one step in braces: how many bytes it takes and how many braces are open behind it, or that the closing brace is here
abbrev pub StepsInBraces : ℕ → List ℕ → Option (ℕ × ℕ) → Type 0
StepsInBraces depth text (Some step) =
    (step.0 ≤ length text) × (0 < step.0) × (step.1 ≤ depth + 1)
    × (reading (in_braces depth) (marks text) ≡ onto (take step.0 text) (reading (in_braces step.1) (marks (drop step.0 text))))
StepsInBraces depth text None = (slice_index text 0 ≡ close_brace) × (reading (in_braces depth) (marks text) ≡ reading closed (marks (drop 1 text)))

-- and by it braces are balanced from there, or aren't
abbrev pub KeepsBalance : ℕ → List ℕ → Option (ℕ × ℕ) → Type 0
KeepsBalance depth text (Some step) = are_balanced depth (marks text) ≡ are_balanced step.1 (marks (drop step.0 text))
KeepsBalance depth text None = are_balanced depth (marks text) ≡ false

-- where the closing brace stands, or that there is none
abbrev pub FindsBrace : List ℕ → Option ℕ → Type 0
FindsBrace text (Some at) =
    (at < length text) × (slice_index text at ≡ close_brace)
    × (reading (in_braces 0) (marks text) ≡ onto (take at text) (reading closed (marks (drop (at + 1) text))))
FindsBrace text None = reading (in_braces 0) (marks text) ≡ Err UnmatchedBrace

-- how far an element in quotes or a bare one was read, and what it is so far
pub record Unescapes (quoted : Bool) (text bytes : List ℕ) (at : ℕ) : Type 0 where
  pub fits : at ≤ length text
  pub reads : ReadsTo (within quoted) text at bytes (within quoted)
  pub short : length bytes ≤ at
  pub utf8 : IsUtf8 text → IsUtf8 (bytes ++ drop at text)

-- reading stands at the end of the element or of the text
abbrev pub IsAtEnd : Bool → List ℕ → ℕ → Type 0
IsAtEnd quoted text at = at < length text → ends quoted (slice_index text at) ≡ true

-- or at a backslash
abbrev pub IsAtStop : Bool → List ℕ → ℕ → Type 0
IsAtStop quoted text at = at < length text → (slice_index text at ≡ backslash_sign) ⊎ (ends quoted (slice_index text at) ≡ true)

-- an element that ends here, and the list behind it
abbrev pub ended : Result (List (List ℕ)) ListFault → Reading
ended (Ok items) = Ok ([], items)
ended (Err fault) = Err fault

-- these bytes are what stands behind a place of the text
abbrev pub IsBehind : List ℕ → List ℕ → Type 0
IsBehind text behind = behind ≡ drop (length text - length behind) text

-- behind a closing byte an element ends, or something is too many
abbrev pub GivesBehind : List ℕ → ℕ → Option (Bor (List ℕ)) → Type 0
GivesBehind text at (Some behind) = (behind.now ≡ drop (at + 1) text) × (reading closed (marks (drop (at + 1) text)) ≡ ended (list_of behind.now)) × IsBehind text behind.now
GivesBehind text at None = reading closed (marks (drop (at + 1) text)) ≡ Err ExtraCharacters

-- the text goes on with an item, and then with the list in what is left; or it is at fault, or memory was refused
abbrev pub GivesItem : ListPlace → List ℕ → Result (List ℕ × Bor (List ℕ)) SplitFault → Type 0
GivesItem place text (Ok r) = (length r.1.now ≤ length text) × (reading place (marks text) ≡ onto r.0 (ended (list_of r.1.now))) × IsBehind text r.1.now
GivesItem place text (Err (BadList fault)) = reading place (marks text) ≡ Err fault
GivesItem place text (Err NoMemory) = ⊤

-- the same of a whole list
abbrev pub GivesElement : List ℕ → Result (List ℕ × Bor (List ℕ)) SplitFault → Type 0
GivesElement text (Ok r) = (length r.1.now < length text) × (list_of text ≡ items_before (r.0 ∷ []) (list_of r.1.now)) × IsBehind text r.1.now
GivesElement text (Err (BadList fault)) = list_of text ≡ Err fault
GivesElement text (Err NoMemory) = ⊤

-- an element may end before this text
abbrev pub is_behind_element : List ℕ → Bool
is_behind_element [] = true
is_behind_element (c ∷ cs) = is_white c

-- a byte of this kind begins a bare element
abbrev pub begins_bare_element : ByteKind → Bool
begins_bare_element White = false
begins_bare_element OpenBrace = false
begins_bare_element Quote = false
begins_bare_element _ = true
