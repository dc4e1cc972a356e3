-- The fields that a text has are those that it is cut into, and each text is cut into fields.
use Rattle.std.proofs.Common.{◌≡◌, ◌≢◌, ℕ, zero, suc, ◌<◌, ◌&&◌, Bool, true, false, cond, filter, List, [], ◌∷◌, ◌++◌, append-nil, length, get_or, All, refl, sym, ap, ◌∙◌, subst, arith}
use Rattle.std.specs.List.{list_all, slice_split}
use Rattle.std.proofs.lemmas.Bool.Decides.{nat_tests}
use Rattle.std.proofs.lemmas.List.Splits.{slice_split-cons_yes, slice_split_none, slice_split_at}
use Rattle.tk_sequences.proofs.KnownWords.{is_inside_word}
use Rattle.tk_sequences.proofs.WordLemmas.{is_inside}
use Rattle.tk_sequences.proofs.WrittenLemmas.{both_inside}
use Rattle.tk_sequences.specs.Grammar.{Each, AreSeparators, IsField, EndsField, AreFields}
use Rattle.tk_sequences.specs.Reading.{fields}
use Rattle.tk_sequences.specs.Words.{is_separator, is_some_text}

one_more : (Has : ℕ → Type 0) (byte : ℕ) (bytes : List ℕ) → Has byte → All Has bytes → (k d : ℕ) → k < length (byte ∷ bytes) → Has (get_or (byte ∷ bytes) k d)
one_more Has byte bytes first each zero d less = first
one_more Has byte bytes first each (suc k) d less = each k d (omega arith)

pub each_all : (Has : ℕ → Type 0) (bytes : List ℕ) → Each Has bytes → All Has bytes
each_all Has [] each = λ k d less. absurd (omega arith)
each_all Has (byte ∷ bytes) each = one_more Has byte bytes each.0 (each_all Has bytes each.1)

-- ── fields of a text that is cut ──
fields_gap : (gap rest : List ℕ) → AreSeparators gap → fields (gap ++ rest) ≡ fields rest
unfolding fields
fields_gap [] rest are = refl
fields_gap (byte ∷ gap) rest are = ap (filter is_some_text) (slice_split-cons_yes is_separator byte (gap ++ rest) are.0) ∙ fields_gap gap rest are.1

some_first : (field : List ℕ) (words : List (List ℕ)) → field ≢ [] → filter is_some_text (field ∷ words) ≡ field ∷ filter is_some_text words
some_first [] words some = absurd (some refl)
some_first (byte ∷ bytes) words some =
    let is : is_some_text (byte ∷ bytes) ≡ true = grind (arith, nat_tests) in
    ap (λ (t : Bool). cond t ((byte ∷ bytes) ∷ filter is_some_text words) (filter is_some_text words)) is

fields_word : (field rest : List ℕ) → IsField field → EndsField rest → fields (field ++ rest) ≡ field ∷ fields rest
unfolding fields
fields_word field [] is ends =
    ap fields (append-nil field)
    ∙ ap (filter is_some_text) (slice_split_none is_separator field (each_all (λ byte. is_separator byte ≡ false) field is.1))
    ∙ some_first field [] is.0
fields_word field (byte ∷ rest) is ends =
    ap (filter is_some_text) (slice_split_at is_separator field byte rest (each_all (λ byte. is_separator byte ≡ false) field is.1) ends)
    ∙ some_first field (slice_split is_separator rest) is.0
    ∙ ap (λ (words : List (List ℕ)). field ∷ words) (sym (ap (filter is_some_text) (slice_split-cons_yes is_separator byte rest ends)))

fields_none : fields [] ≡ []
unfolding fields
fields_none = refl

pub fields_are : (text : List ℕ) (words : List (List ℕ)) → AreFields text words → fields text ≡ words
fields_are text [] are = ap fields (sym (append-nil text)) ∙ fields_gap text [] are ∙ fields_none
fields_are text (field ∷ words) (gap, rest, cut, separators, is, ends, are) =
    ap fields cut ∙ fields_gap gap (field ++ rest) separators ∙ fields_word field rest is ends ∙ ap (λ (more : List (List ℕ)). field ∷ more) (fields_are rest words are)

-- ── each text is cut ──
pub record FieldsCut (text : List ℕ) : Type 0 where
  pub words : List (List ℕ)
  pub are : AreFields text words

-- what stands before the first separator, and the fields behind it
record FrontCut (text : List ℕ) : Type 0 where
  front : List ℕ
  rest : List ℕ
  words : List (List ℕ)
  cut : text ≡ front ++ rest
  field : Each (λ byte. is_separator byte ≡ false) front
  ends : EndsField rest
  are : AreFields rest words

front_fields : (text front rest : List ℕ) (words : List (List ℕ)) → text ≡ front ++ rest → Each (λ byte. is_separator byte ≡ false) front → EndsField rest → AreFields rest words → FieldsCut text
front_fields text [] rest words cut field ends are = record { words = words; are = subst (λ (t : List ℕ). AreFields t words) (sym cut) are }
front_fields text (byte ∷ front) rest words cut field ends are = record { words = (byte ∷ front) ∷ words; are = ([], rest, cut, tt, ((λ none. absurd (cc)), field), ends, are) }

fields_of_front : (text : List ℕ) → FrontCut text → FieldsCut text
fields_of_front text f = front_fields text f.front f.rest f.words f.cut f.field f.ends f.are

-- a separator in front changes no fields
separated : (byte : ℕ) (text : List ℕ) (words : List (List ℕ)) → is_separator byte ≡ true → AreFields text words → AreFields (byte ∷ text) words
separated byte text [] is are = (is, are)
separated byte text (field ∷ words) is (gap, rest, cut, separators, is_field, ends, are) = (byte ∷ gap, rest, ap (λ (bytes : List ℕ). byte ∷ bytes) cut, (is, separators), is_field, ends, are)

front_cut_by : (byte : ℕ) (text : List ℕ) (t : Bool) → is_separator byte ≡ t → FrontCut text → FrontCut (byte ∷ text)
front_cut_by byte text true is f =
    let behind = fields_of_front text f in
    record { front = []; rest = byte ∷ text; words = behind.words; cut = refl; field = tt; ends = is; are = separated byte text behind.words is behind.are }
front_cut_by byte text false is f =
    record { front = byte ∷ f.front; rest = f.rest; words = f.words; cut = ap (λ (bytes : List ℕ). byte ∷ bytes) f.cut; field = (is, f.field); ends = f.ends; are = f.are }

front_cut : (text : List ℕ) → FrontCut text
front_cut [] = record { front = []; rest = []; words = []; cut = refl; field = tt; ends = tt; are = tt }
front_cut (byte ∷ text) = front_cut_by byte text (is_separator byte) refl (front_cut text)

pub fields_cut : (text : List ℕ) → FieldsCut text
fields_cut text = fields_of_front text (front_cut text)

-- ── no bracket stands in a text whose fields have none ──
abbrev pub AreInside : List (List ℕ) → Type 0
AreInside [] = Unit {0}
AreInside (word ∷ words) = (is_inside_word word ≡ true) × AreInside words

separator_inside : (byte : ℕ) → is_separator byte ≡ true → is_inside byte ≡ true
separator_inside byte is = grind (arith, nat_tests)

gap_inside : (gap : List ℕ) → AreSeparators gap → list_all is_inside gap ≡ true
gap_inside [] are = refl
gap_inside (byte ∷ gap) are = ap (λ (t : Bool). t && list_all is_inside gap) (separator_inside byte are.0) ∙ gap_inside gap are.1

pub fields_inside : (text : List ℕ) (words : List (List ℕ)) → AreFields text words → AreInside words → list_all is_inside text ≡ true
fields_inside text [] are inside = gap_inside text are
fields_inside text (field ∷ words) (gap, rest, cut, separators, is, ends, are) inside =
    ap (list_all is_inside) cut ∙ both_inside gap (field ++ rest) (gap_inside gap separators) (both_inside field rest inside.0 (fields_inside rest words are inside.1))
