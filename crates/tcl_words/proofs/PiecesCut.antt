-- Each text begins with the pieces of a body.
use Rattle.std.proofs.Common.{◌≡◌, ℕ, zero, suc, ◌≤◌, inl, inr, Bool, true, false, List, [], ◌∷◌, ◌++◌, length, take, drop, refl, sym, ap, subst, ◌∙◌, eqb-true, append_assoc, length-append, length-drop, take-append-drop, arith}
use Rattle.tcl_text.specs.Backslash.{escape}
use Rattle.tcl_words.specs.Classes.{class_of}
use Rattle.tcl_words.specs.Grammar.{TextEnding, leaves, fails, Inner, script, index, ends_body, is_plain, unended_fault, with_bytes, begins, begins_name_byte, begins_name, IsName, ArePieces, IsInnerOf}
use Rattle.tcl_words.specs.Grammar.ArePieces.{stop, unended, byte, backslash, dollar, variable, braced_name, unclosed_name, element, faulty_index, bracket, faulty_script}
use Rattle.tcl_words.specs.declared.kind.Mode.{Mode}
use Rattle.tcl_words.specs.declared.kind.Kind.{Kind}
use Rattle.tcl_words.specs.declared.kind.Kind.TheVariants.{Blank, Newline, Semicolon, Hash, Dollar, Quote, OpenBracket, CloseBracket, OpenBrace, Expansion, CloseBrace, CloseParen, Backslash, Continuation, Other}
use Rattle.tcl_words.specs.declared.script.Piece.{Piece}
use Rattle.tcl_words.specs.declared.script.Piece.TheVariants.{Variable, Element, Bracket}
use Rattle.tcl_text.specs.declared.fault.ParseFault.{ParseFault}
use Rattle.tcl_text.specs.declared.fault.ParseFault.TheVariants.{MissingBrace}
use Rattle.tcl_words.proofs.ClassLemmas.{byte_is}
use Rattle.tcl_words.proofs.BracesCut.{decided}
use Rattle.tcl_words.proofs.NamesCut.{name_cut, name_end}

-- what closes a script in brackets, and an index
abbrev pub closer : Inner → ℕ
closer script = 93
closer index = 41

abbrev pub IsInnerCut : Inner → List ℕ → TextEnding → Type 0
IsInnerCut inner text (leaves left) = (own : List ℕ) × (rest : List ℕ) × (text ≡ own ++ closer inner ∷ rest) × (left ≡ closer inner ∷ rest)
IsInnerCut inner text (fails fault) = Unit {0}

-- scripts in brackets and indices are cut where so many may be opened
abbrev pub InnerCuts : ℕ → Type 0
InnerCuts room = (inner : Inner) (text : List ℕ) → (ending : TextEnding) × IsInnerOf room inner text ending × IsInnerCut inner text ending

abbrev pub IsPiecesCut : Bool → Mode → List ℕ → TextEnding → Type 0
IsPiecesCut inside mode text (leaves left) = (own : List ℕ) × (text ≡ own ++ left) × (ends_body inside mode left ≡ true)
IsPiecesCut inside mode text (fails fault) = Unit {0}

pub record FoundPieces (room : ℕ) (inside : Bool) (mode : Mode) (text : List ℕ) : Type 0 where
  pub pieces : List Piece
  pub ending : TextEnding
  pub are : ArePieces (IsInnerOf room) inside mode text pieces ending
  pub cut : IsPiecesCut inside mode text ending

cut_onto : (inside : Bool) (mode : Mode) (whole front text : List ℕ) (ending : TextEnding) → whole ≡ front ++ text → IsPiecesCut inside mode text ending → IsPiecesCut inside mode whole ending
cut_onto inside mode whole front text (leaves left) e (own, f, h) = (front ++ own, e ∙ ap (λ t. front ++ t) f ∙ sym (append_assoc front own left), h)
cut_onto inside mode whole front text (fails fault) e h = tt

found_onto : (room : ℕ) (inside : Bool) (mode : Mode) (whole front text : List ℕ) → whole ≡ front ++ text →
    ((pieces : List Piece) (ending : TextEnding) → ArePieces (IsInnerOf room) inside mode text pieces ending → (more : List Piece) × ArePieces (IsInnerOf room) inside mode whole more ending) →
    FoundPieces room inside mode text → FoundPieces room inside mode whole
found_onto room inside mode whole front text e make found =
    let more = make found.pieces found.ending found.are in
    record { pieces = more.0; ending = found.ending; are = more.1; cut = cut_onto inside mode whole front text found.ending e found.cut }

faulty_found : (room : ℕ) (inside : Bool) (mode : Mode) (text : List ℕ) (fault : ParseFault) → ArePieces (IsInnerOf room) inside mode text [] (fails fault) → FoundPieces room inside mode text
faulty_found room inside mode text fault h = record { pieces = []; ending = fails fault; are = h; cut = tt }

abbrev Finds : ℕ → Bool → Mode → ℕ → Type 0
Finds room inside mode n = (text : List ℕ) → length text ≤ n → FoundPieces room inside mode text

bracket_found : (room : ℕ) (inside : Bool) (mode : Mode) (n : ℕ) (text : List ℕ) → Finds room inside mode n → length text ≤ n → (ending : TextEnding) → IsInnerOf room script text ending → IsInnerCut script text ending →
    FoundPieces room inside mode (91 ∷ text)
bracket_found room inside mode n text ih fits (fails fault) h cut = faulty_found room inside mode (91 ∷ text) fault (faulty_script h)
bracket_found room inside mode n text ih fits (leaves left) h (own, rest, e, f) =
    let short : length rest ≤ n = omega (arith, ap length e, length-append own (93 ∷ rest)) in
    let is : IsInnerOf room script (own ++ 93 ∷ rest) (leaves (93 ∷ rest)) = subst (λ t. IsInnerOf room script t (leaves (93 ∷ rest))) e (subst (λ t. IsInnerOf room script text (leaves t)) f h) in
    subst (λ t. FoundPieces room inside mode (91 ∷ t)) (sym e)
    (found_onto room inside mode (91 ∷ (own ++ 93 ∷ rest)) (91 ∷ (own ++ 93 ∷ [])) rest (ap (λ t. 91 ∷ t) (sym (append_assoc own (93 ∷ []) rest)))
    (λ pieces ending are. (Bracket own ∷ pieces, bracket own is are)) (ih rest short))

index_found : (room : ℕ) (inside : Bool) (mode : Mode) (n : ℕ) (name text : List ℕ) → Finds room inside mode n → length text ≤ n → IsName name → (ending : TextEnding) → IsInnerOf room index text ending → IsInnerCut index text ending →
    FoundPieces room inside mode (36 ∷ (name ++ 40 ∷ text))
index_found room inside mode n name text ih fits is (fails fault) h cut = faulty_found room inside mode (36 ∷ (name ++ 40 ∷ text)) fault (faulty_index name is h)
index_found room inside mode n name text ih fits is (leaves left) h (own, rest, e, f) =
    let short : length rest ≤ n = omega (arith, ap length e, length-append own (41 ∷ rest)) in
    let inner : IsInnerOf room index (own ++ 41 ∷ rest) (leaves (41 ∷ rest)) = subst (λ t. IsInnerOf room index t (leaves (41 ∷ rest))) e (subst (λ t. IsInnerOf room index text (leaves t)) f h) in
    let cut : name ++ 40 ∷ (own ++ 41 ∷ rest) ≡ (name ++ 40 ∷ (own ++ 41 ∷ [])) ++ rest =
    ap (λ t. name ++ 40 ∷ t) (sym (append_assoc own (41 ∷ []) rest)) ∙ sym (append_assoc name (40 ∷ (own ++ 41 ∷ [])) rest) in
    subst (λ t. FoundPieces room inside mode (36 ∷ (name ++ 40 ∷ t))) (sym e)
    (found_onto room inside mode (36 ∷ (name ++ 40 ∷ (own ++ 41 ∷ rest))) (36 ∷ (name ++ 40 ∷ (own ++ 41 ∷ []))) rest (ap (λ t. 36 ∷ t) cut)
    (λ pieces ending are. (Element name own ∷ pieces, element name own is inner are)) (ih rest short))

paren_found : (room : ℕ) (inside : Bool) (mode : Mode) (n : ℕ) (name rest : List ℕ) → InnerCuts room → Finds room inside mode n → length rest ≤ n → IsName name → begins_name_byte rest ≡ false → FoundPieces room inside mode (36 ∷ (name ++ rest))
paren_found room inside mode n name [] inner ih fits is h =
    found_onto room inside mode (36 ∷ (name ++ [])) (36 ∷ name) [] refl (λ pieces ending are. (Variable name ∷ pieces, variable name is h refl are)) (ih [] fits)
paren_found room inside mode n name (b ∷ rest) inner ih fits is h = elim (decided (begins 40 (b ∷ rest))) [
  | inl e ↦ (
      let same : b ≡ 40 = eqb-true b 40 e in
      let some = inner index rest in
      subst (λ c. FoundPieces room inside mode (36 ∷ (name ++ c ∷ rest))) (sym same) (index_found room inside mode n name rest ih (omega arith) is some.0 some.1 some.2))
  | inr e ↦ found_onto room inside mode (36 ∷ (name ++ b ∷ rest)) (36 ∷ name) (b ∷ rest) refl (λ pieces ending are. (Variable name ∷ pieces, variable name is h e are)) (ih (b ∷ rest) fits)
]

braced_found : (room : ℕ) (inside : Bool) (mode : Mode) (n : ℕ) (text : List ℕ) → Finds room inside mode n → length text ≤ n → FoundPieces room inside mode (36 ∷ 123 ∷ text)
braced_found room inside mode n text ih fits = elim (name_end text) [
  | inl (name, rest, e, h) ↦ (
      let short : length rest ≤ n = omega (arith, ap length e, length-append name (125 ∷ rest)) in
      subst (λ t. FoundPieces room inside mode (36 ∷ 123 ∷ t)) (sym e)
      (found_onto room inside mode (36 ∷ 123 ∷ (name ++ 125 ∷ rest)) (36 ∷ 123 ∷ (name ++ 125 ∷ [])) rest (ap (λ t. 36 ∷ 123 ∷ t) (sym (append_assoc name (125 ∷ []) rest)))
      (λ pieces ending are. (Variable name ∷ pieces, braced_name name h are)) (ih rest short)))
  | inr h ↦ faulty_found room inside mode (36 ∷ 123 ∷ text) MissingBrace (unclosed_name h)
]

name_found : (room : ℕ) (inside : Bool) (mode : Mode) (n : ℕ) (text : List ℕ) → InnerCuts room → Finds room inside mode n → length text ≤ n → begins 123 text ≡ false → FoundPieces room inside mode (36 ∷ text)
name_found room inside mode n text inner ih fits brace = elim (decided (begins_name text)) [
  | inl e ↦ (
      let some = name_cut text e in
      let short : length some.1 ≤ n = omega (arith, ap length some.2, length-append some.0 some.1) in
      subst (λ t. FoundPieces room inside mode (36 ∷ t)) (sym some.2) (paren_found room inside mode n some.0 some.1 inner ih short some.3 some.4))
  | inr e ↦ found_onto room inside mode (36 ∷ text) (36 ∷ []) text refl (λ pieces ending are. (with_bytes (36 ∷ []) pieces, dollar e brace are)) (ih text fits)
]

dollar_found : (room : ℕ) (inside : Bool) (mode : Mode) (n : ℕ) (text : List ℕ) → InnerCuts room → Finds room inside mode n → length text ≤ n → FoundPieces room inside mode (36 ∷ text)
dollar_found room inside mode n [] inner ih fits = name_found room inside mode n [] inner ih fits refl
dollar_found room inside mode n (b ∷ text) inner ih fits = elim (decided (begins 123 (b ∷ text))) [
  | inl e ↦ (let same : b ≡ 123 = eqb-true b 123 e in subst (λ c. FoundPieces room inside mode (36 ∷ c ∷ text)) (sym same) (braced_found room inside mode n text ih (omega arith)))
  | inr e ↦ name_found room inside mode n (b ∷ text) inner ih fits e
]

backslash_found : (room : ℕ) (inside : Bool) (mode : Mode) (n : ℕ) (text : List ℕ) → Finds room inside mode n → length text ≤ n → ends_body inside mode (92 ∷ text) ≡ false → FoundPieces room inside mode (92 ∷ text)
backslash_found room inside mode n text ih fits h =
    let k : ℕ = (escape text).length in
    let short : length (drop k text) ≤ n = omega (arith, length-drop k text) in
    found_onto room inside mode (92 ∷ text) (92 ∷ take k text) (drop k text) (ap (λ t. 92 ∷ t) (sym (take-append-drop k text)))
    (λ pieces ending are. (with_bytes (escape text).meaning pieces, backslash h are)) (ih (drop k text) short)

class_found : (room : ℕ) (inside : Bool) (mode : Mode) (n b : ℕ) (text : List ℕ) (kind : Kind) → class_of b ≡ kind → InnerCuts room → Finds room inside mode n → length text ≤ n → ends_body inside mode (b ∷ text) ≡ false →
    (is_plain kind ≡ true → FoundPieces room inside mode (b ∷ text)) → FoundPieces room inside mode (b ∷ text)
class_found room inside mode n b text Backslash e inner ih fits h plain =
    let same : b ≡ 92 = byte_is b Backslash e in
    subst (λ c. FoundPieces room inside mode (c ∷ text)) (sym same) (backslash_found room inside mode n text ih fits (ap (λ c. ends_body inside mode (c ∷ text)) (sym same) ∙ h))
class_found room inside mode n b text Dollar e inner ih fits h plain =
    let same : b ≡ 36 = byte_is b Dollar e in
    subst (λ c. FoundPieces room inside mode (c ∷ text)) (sym same) (dollar_found room inside mode n text inner ih fits)
class_found room inside mode n b text OpenBracket e inner ih fits h plain =
    let same : b ≡ 91 = byte_is b OpenBracket e in
    let some = inner script text in
    subst (λ c. FoundPieces room inside mode (c ∷ text)) (sym same) (bracket_found room inside mode n text ih fits some.0 some.1 some.2)
class_found room inside mode n b text Continuation e inner ih fits h plain = absurd (byte_is b Continuation e)
class_found room inside mode n b text Blank e inner ih fits h plain = plain refl
class_found room inside mode n b text Newline e inner ih fits h plain = plain refl
class_found room inside mode n b text Semicolon e inner ih fits h plain = plain refl
class_found room inside mode n b text Hash e inner ih fits h plain = plain refl
class_found room inside mode n b text Quote e inner ih fits h plain = plain refl
class_found room inside mode n b text CloseBracket e inner ih fits h plain = plain refl
class_found room inside mode n b text OpenBrace e inner ih fits h plain = plain refl
class_found room inside mode n b text Expansion e inner ih fits h plain = plain refl
class_found room inside mode n b text CloseBrace e inner ih fits h plain = plain refl
class_found room inside mode n b text CloseParen e inner ih fits h plain = plain refl
class_found room inside mode n b text Other e inner ih fits h plain = plain refl

stopped : (room : ℕ) (inside : Bool) (mode : Mode) (text : List ℕ) → ends_body inside mode text ≡ true → FoundPieces room inside mode text
stopped room inside mode text e = record { pieces = []; ending = leaves text; are = stop e; cut = ([], refl, e) }

finds : (room : ℕ) (inside : Bool) (mode : Mode) → InnerCuts room → (n : ℕ) → Finds room inside mode n
finds room inside mode inner n [] fits = elim (decided (ends_body inside mode [])) [
  | inl e ↦ stopped room inside mode [] e
  | inr e ↦ faulty_found room inside mode [] (unended_fault mode) (unended e)
]
finds room inside mode inner zero (b ∷ text) fits = absurd (omega arith)
finds room inside mode inner (suc n) (b ∷ text) fits =
    let short : length text ≤ n = omega arith in
    let ih : Finds room inside mode n = finds room inside mode inner n in
    elim (decided (ends_body inside mode (b ∷ text))) [
      | inl e ↦ stopped room inside mode (b ∷ text) e
      | inr e ↦ class_found room inside mode n b text (class_of b) refl inner ih short e
          (λ p. found_onto room inside mode (b ∷ text) (b ∷ []) text refl (λ pieces ending are. (with_bytes (b ∷ []) pieces, byte e p are)) (ih text short))
    ]

pub pieces_found : (room : ℕ) (inside : Bool) (mode : Mode) → InnerCuts room → (text : List ℕ) → FoundPieces room inside mode text
pieces_found room inside mode inner text = finds room inside mode inner (length text) text (omega arith)
