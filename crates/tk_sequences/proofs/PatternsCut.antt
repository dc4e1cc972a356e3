-- Each text begins with patterns, and behind them it ends or is at fault.
use Rattle.std.proofs.Common.{◌≡◌, ◌≢◌, inl, inr, ℕ, ◌==◌, Bool, true, false, List, [], ◌∷◌, ◌++◌, append_assoc, eqb-true, Option, Some, None, refl, sym, ap, subst}
use Rattle.std.proofs.lemmas.Bool.{eqb-false}
use Rattle.tcl_text.specs.Backslash.{is_white}
use Rattle.tk_base.specs.Names.{key_of_character}
use Rattle.tk_sequences.proofs.EventsCut.{AreCut, fields_are_cut}
use Rattle.tk_sequences.proofs.FieldsCut.{fields_cut}
use Rattle.tk_sequences.specs.Grammar.{IsGap, HasNoClosing, AreFields, key_pattern, BeginsWith, IsFaulty}
use Rattle.tk_sequences.specs.Grammar.IsPattern.{character, brackets}
use Rattle.tk_sequences.specs.Grammar.IsFaulty.{character as bad_character, unclosed as never_closed, brackets as bad_brackets}
use Rattle.tk_sequences.specs.declared.fault.SequenceFault.{SequenceFault}
use Rattle.tk_sequences.specs.declared.fault.SequenceFault.TheVariants.{BadSequence}
use Rattle.tk_sequences.specs.declared.pattern.Pattern.{Pattern}

-- it ends, or there is a fault behind white space
pub data Ends (whole : List ℕ) : List ℕ → Type 0 where
  ends : {rest : List ℕ} → IsGap rest → Ends whole rest
  fails : (gap : List ℕ) {text rest : List ℕ} {fault : SequenceFault} → rest ≡ gap ++ text → IsGap gap → IsFaulty whole text fault → Ends whole rest

pub record TextCut (whole text : List ℕ) : Type 0 where
  pub patterns : List Pattern
  pub rest : List ℕ
  pub begins : BeginsWith text patterns rest
  pub ends : Ends whole rest

-- a bracket that stood before the text never closes, or closes in it
data Closing (whole : List ℕ) : List ℕ → Type 0 where
  never : {text : List ℕ} → HasNoClosing text → Closing whole text
  closes : (inner rest : List ℕ) {text : List ℕ} → text ≡ inner ++ 62 ∷ rest → HasNoClosing inner → TextCut whole rest → Closing whole text

failed : (whole text : List ℕ) (fault : SequenceFault) → IsFaulty whole text fault → TextCut whole text
failed whole text fault is = record { patterns = []; rest = text; begins = refl; ends = fails [] refl tt is }

-- ── a pattern, or a fault ──
within_cut : (whole inner rest : List ℕ) (words : List (List ℕ)) → HasNoClosing inner → AreFields inner words → AreCut whole words → TextCut whole rest → TextCut whole (60 ∷ (inner ++ 62 ∷ rest))
within_cut whole inner rest words none are (inl (pattern, is)) behind = record {
  patterns = pattern ∷ behind.patterns;
  rest = behind.rest;
  begins = ([], 60 ∷ (inner ++ 62 ∷ []), rest, ap (λ (bytes : List ℕ). 60 ∷ bytes) (sym (append_assoc inner (62 ∷ []) rest)), tt, brackets inner are is, behind.begins);
  ends = behind.ends;
}
within_cut whole inner rest words none are (inr (fault, is)) behind = failed whole (60 ∷ (inner ++ 62 ∷ rest)) fault (bad_brackets inner rest none are is)

bracket_cut : (whole text : List ℕ) → Closing whole text → TextCut whole (60 ∷ text)
bracket_cut whole text (never none) = failed whole (60 ∷ text) (BadSequence whole) (never_closed none)
bracket_cut whole text (closes inner rest cut none behind) =
    let found = fields_cut inner in
    subst (λ (bytes : List ℕ). TextCut whole (60 ∷ bytes)) (sym cut) (within_cut whole inner rest found.words none found.are (fields_are_cut whole found.words) behind)

black_space : (byte : ℕ) → is_white byte ≡ false → byte ≢ 32
black_space byte black same = let f : is_white 32 ≡ false = subst (λ b. is_white b ≡ false) same black in absurd (cc)

character_cut : (whole : List ℕ) (byte : ℕ) (text : List ℕ) (found : Option ℕ) → key_of_character byte ≡ found → is_white byte ≡ false → (byte == 60) ≡ false → TextCut whole text → TextCut whole (byte ∷ text)
character_cut whole byte text None keyed black other behind = failed whole (byte ∷ text) (BadSequence whole) (bad_character black keyed)
character_cut whole byte text (Some key) keyed black other behind = record {
  patterns = key_pattern key ∷ behind.patterns;
  rest = behind.rest;
  begins = ([], byte ∷ [], text, refl, tt, character byte key (black_space byte black) (eqb-false byte 60 other) keyed, behind.begins);
  ends = behind.ends;
}

-- ── white space in front ──
gap_ends : (whole : List ℕ) (byte : ℕ) (rest : List ℕ) → is_white byte ≡ true → Ends whole rest → Ends whole (byte ∷ rest)
gap_ends whole byte rest white (ends is) = ends (white, is)
gap_ends whole byte rest white (fails gap cut is faulty) = fails (byte ∷ gap) (ap (λ (bytes : List ℕ). byte ∷ bytes) cut) (white, is) faulty

white_cut_by : (whole : List ℕ) (byte : ℕ) (text : List ℕ) (patterns : List Pattern) (rest : List ℕ) → is_white byte ≡ true → BeginsWith text patterns rest → Ends whole rest → TextCut whole (byte ∷ text)
white_cut_by whole byte text [] rest white same is =
    record { patterns = []; rest = byte ∷ rest; begins = ap (λ (bytes : List ℕ). byte ∷ bytes) same; ends = gap_ends whole byte rest white is }
white_cut_by whole byte text (pattern ∷ patterns) rest white (gap, own, behind, cut, is_gap, is_pattern, begins) is = record {
  patterns = pattern ∷ patterns;
  rest = rest;
  begins = (byte ∷ gap, own, behind, ap (λ (bytes : List ℕ). byte ∷ bytes) cut, (white, is_gap), is_pattern, begins);
  ends = is;
}

-- ── each text ──
opening_cut : (whole : List ℕ) (byte : ℕ) (text : List ℕ) (t : Bool) → (byte == 60) ≡ t → is_white byte ≡ false → TextCut whole text → Closing whole text → TextCut whole (byte ∷ text)
opening_cut whole byte text true opens black behind closing = subst (λ b. TextCut whole (b ∷ text)) (sym (eqb-true byte 60 opens)) (bracket_cut whole text closing)
opening_cut whole byte text false opens black behind closing = character_cut whole byte text (key_of_character byte) refl black opens behind

byte_cut : (whole : List ℕ) (byte : ℕ) (text : List ℕ) (t : Bool) → is_white byte ≡ t → TextCut whole text → Closing whole text → TextCut whole (byte ∷ text)
byte_cut whole byte text true white behind closing = white_cut_by whole byte text behind.patterns behind.rest white behind.begins behind.ends
byte_cut whole byte text false white behind closing = opening_cut whole byte text (byte == 60) refl white behind closing

closing_more : (whole : List ℕ) (byte : ℕ) (text : List ℕ) → byte ≢ 62 → Closing whole text → Closing whole (byte ∷ text)
closing_more whole byte text other (never none) = never (other, none)
closing_more whole byte text other (closes inner rest cut none behind) = closes (byte ∷ inner) rest (ap (λ (bytes : List ℕ). byte ∷ bytes) cut) (other, none) behind

closing_by : (whole : List ℕ) (byte : ℕ) (text : List ℕ) (t : Bool) → (byte == 62) ≡ t → TextCut whole text → Closing whole text → Closing whole (byte ∷ text)
closing_by whole byte text true is behind closing = closes [] text (ap (λ b. b ∷ text) (eqb-true byte 62 is)) tt behind
closing_by whole byte text false is behind closing = closing_more whole byte text (eqb-false byte 62 is) closing

both_cut : (whole text : List ℕ) → TextCut whole text × Closing whole text
both_cut whole [] = (record { patterns = []; rest = []; begins = refl; ends = ends tt }, never tt)
both_cut whole (byte ∷ text) =
    let behind = both_cut whole text in
    (byte_cut whole byte text (is_white byte) refl behind.0 behind.1, closing_by whole byte text (byte == 62) refl behind.0 behind.1)

pub text_cut : (whole text : List ℕ) → TextCut whole text
text_cut whole text = (both_cut whole text).0
