-- Facts about what stands between the stars of a glob pattern: plain characters, and parts that are counted.
use Rattle.std.proofs.Common.{◌≡◌, ℕ, ◌+◌, ◌-◌, ◌<◌, ◌≤◌, inl, inr, true, false, List, [], ◌∷◌, ◌++◌, Option, Some, None, length, take, drop, add-one, refl, sym, ap, subst, ◌∙◌, arith}
use Rattle.std.specs.List.{list_all}
use Rattle.std.specs.Str.{chars, IsUtf8, IsCharBoundary, encode_utf8_all}
use Rattle.std.proofs.lemmas.Bool.{true≢false, and_parts, and_from, cases_lt}
use Rattle.std.proofs.lemmas.List.{append_assoc, length-append, length-take-le, length-drop, take-append-drop, take_at, drop_at, drop_all, drop-drop}
use Rattle.std.proofs.lemmas.List.Folds.{list_all-append}
use Rattle.std.proofs.lemmas.Str.{chars-append, chars_from_encodes, encodes-chars, encodes-append, length-le-encodes, IsUtf8-append, IsUtf8-take, IsUtf8-drop, IsCharBoundary-from_take, IsCharBoundary-at_seam}
use Rattle.std.specs.Char.{encode_utf8}
use Rattle.std.specs.Option.{IfSome}
use Rattle.memchr.specs.Find.{FindsNeedle, OccursAt}
use Rattle.memchr.proofs.lemmas.MatchLemmas.{OccursAt-from_part, OccursAt-split}
use Rattle.tcl_text.specs.Glob.{AllowsFirst, AllowsByClass, GlobMatches, Lacks}
use Rattle.tcl_text.specs.Glob.GlobMatches.{skips, allows}
use Rattle.tcl_text.specs.GlobSteps.{HasPart, IsBehindFirst, PassesPlain, Runs, Spans, StopsAt, is_plain}
use Rattle.tcl_text.proofs.CharacterLemmas.{IsEnd, IsEnd-past, IsEnd-boundary, IsEnd-front, IsEnd-back}
use Rattle.tcl_text.proofs.FindLemmas.{OccursAt-boundary}
use Rattle.tcl_text.proofs.ListLemmas.{take_past}
use Rattle.tcl_text.proofs.GlobLemmas.{GlobMatches-empty, GlobMatches-part, GlobMatches-star, Runs-here, drop_past, first_cut-same, left_matches, star_skips}

-- a plain character is none that a pattern gives a meaning
record Means (c : ℕ) : Type 0 where
  star : c ≡ 42 → ⊥
  question : c ≡ 63 → ⊥
  bracket : c ≡ 91 → ⊥
  backslash : c ≡ 92 → ⊥

plain_means : (c : ℕ) → is_plain c ≡ true → Means c
plain_means c h = record {
  star = λ e. true≢false (sym h ∙ ap is_plain e);
  question = λ e. true≢false (sym h ∙ ap is_plain e);
  bracket = λ e. true≢false (sym h ∙ ap is_plain e);
  backslash = λ e. true≢false (sym h ∙ ap is_plain e);
}

plain_allows : (c : ℕ) (after : List ℕ) (d : ℕ) (rest : List ℕ) → Means c → AllowsFirst (c ∷ after) d rest → (c ≡ d) × (after ≡ rest)
plain_allows c after d rest means (inl h) = absurd (means.question h.0)
plain_allows c after d rest means (inr (inl h)) = absurd (means.backslash h.0)
plain_allows c after d rest means (inr (inr (inl h))) = absurd (means.bracket h.0)
plain_allows c after d rest means (inr (inr (inr h))) = (h.4, h.5)

-- what plain characters match is the same characters
record Begins (piece rest text : List ℕ) : Type 0 where
  left : List ℕ
  is : text ≡ piece ++ left
  matches : GlobMatches rest left

piece_begins : (piece rest text : List ℕ) → list_all is_plain piece ≡ true → GlobMatches (piece ++ rest) text → Begins piece rest text
piece_begins [] rest text plain m = record { left = text; is = refl; matches = m }
piece_begins (c ∷ cs) rest text plain m =
    let both = and_parts (is_plain c) (list_all is_plain cs) plain in
    let means = plain_means c both.0 in
    let part = GlobMatches-part m means.star in
    let first = plain_allows c (cs ++ rest) part.c part.rest means part.allowed in
    let more = piece_begins cs rest part.left both.1 (subst (λ (q : List ℕ). GlobMatches q part.left) (sym first.1) part.matches) in
    record {
      left = more.left;
      is = part.cut ∙ ap (λ (x : ℕ). x ∷ part.left) (sym first.0) ∙ ap (λ (t : List ℕ). c ∷ t) more.is;
      matches = more.matches;
    }

piece_matches : (piece rest left : List ℕ) → list_all is_plain piece ≡ true → GlobMatches rest left → GlobMatches (piece ++ rest) (piece ++ left)
piece_matches [] rest left plain m = m
piece_matches (c ∷ cs) rest left plain m =
    let both = and_parts (is_plain c) (list_all is_plain cs) plain in
    let means = plain_means c both.0 in
    allows (inr (inr (inr (means.star, means.question, means.bracket, means.backslash, refl, refl)))) (piece_matches cs rest left both.1 m)

-- a text may be cut at both ends of a piece that stands in it
pub piece_end : (text piece : List ℕ) (place : ℕ) → IsUtf8 text → IsUtf8 piece → 0 < length piece → OccursAt text piece place → IsCharBoundary text (place + length piece)
piece_end text piece place utf8 piece_utf8 some occurs =
    let fits = occurs.fits in
    let front_utf8 : IsUtf8 (take place text) = IsUtf8-take text place utf8 (OccursAt-boundary text piece place piece_utf8 some occurs) in
    let long : length (take place text) ≡ place = length-take-le place text (omega arith) in
    let whole : text ≡ (take place text ++ piece) ++ drop (place + length piece) text =
    sym (take-append-drop place text) ∙ ap (λ (t : List ℕ). take place text ++ t) (OccursAt-split text piece place occurs) ∙ sym (append_assoc (take place text) piece (drop (place + length piece) text))
    in
    let both : length (take place text ++ piece) ≡ place + length piece = length-append (take place text) piece ∙ ap (λ (n : ℕ). n + length piece) long in
    let front : take (place + length piece) text ≡ take place text ++ piece =
    ap (take (place + length piece)) whole ∙ take_at (take place text ++ piece) (drop (place + length piece) text) (place + length piece) both
    in
    IsCharBoundary-from_take text (place + length piece) utf8 fits (subst IsUtf8 (sym front) (IsUtf8-append (take place text) piece front_utf8 piece_utf8))

-- where a star and plain characters match, the characters stand in the text
record Stands (text piece rest : List ℕ) : Type 0 where
  place : ℕ
  occurs : OccursAt text piece place
  left : List ℕ
  behind : drop (place + length piece) text ≡ encode_utf8_all left
  matches : GlobMatches rest left

piece_stands : (text piece rest : List ℕ) → IsUtf8 text → IsUtf8 piece → list_all is_plain (chars piece) ≡ true → GlobMatches (42 ∷ (chars piece ++ rest)) (chars text) → Stands text piece rest
piece_stands text piece rest utf8 piece_utf8 plain m =
    let later = GlobMatches-star m (chars piece ++ rest) refl in
    let begins = piece_begins (chars piece) rest (drop later.skipped (chars text)) plain later.matches in
    let front = encode_utf8_all (take later.skipped (chars text)) in
    let back = encode_utf8_all begins.left in
    let cut : chars text ≡ take later.skipped (chars text) ++ (chars piece ++ begins.left) =
    sym (take-append-drop later.skipped (chars text)) ∙ ap (λ (t : List ℕ). take later.skipped (chars text) ++ t) begins.is
    in
    let whole : text ≡ front ++ (piece ++ back) =
    sym (encodes-chars text utf8) ∙ ap encode_utf8_all cut ∙ encodes-append (take later.skipped (chars text)) (chars piece ++ begins.left) ∙ ap (λ (t : List ℕ). front ++ t) (encodes-append (chars piece) begins.left ∙ ap (λ (t : List ℕ). t ++ back) (encodes-chars piece piece_utf8))
    in
    let from : drop (length front) text ≡ piece ++ back = ap (drop (length front)) whole ∙ drop_at front (piece ++ back) (length front) refl in
    let fits : length front + length piece ≤ length text = omega (arith, ap length whole, length-append front (piece ++ back), length-append piece back) in
    let here : take (length piece) (drop (length front) text) ≡ piece = ap (take (length piece)) from ∙ take_at piece back (length piece) refl in
    record {
      place = length front;
      occurs = OccursAt-from_part text piece (length front) fits here;
      left = begins.left;
      behind = sym (drop-drop (length piece) (length front) text) ∙ ap (drop (length piece)) from ∙ drop_at piece back (length piece) refl;
      matches = begins.matches;
    }

pub piece_none : (text piece pattern rest : List ℕ) → IsUtf8 text → IsUtf8 piece → pattern ≡ chars piece ++ rest → list_all is_plain (chars piece) ≡ true → ((place : ℕ) → OccursAt text piece place → ⊥) → GlobMatches (42 ∷ pattern) (chars text) → ⊥
piece_none text piece pattern rest utf8 piece_utf8 cut plain none m =
    let stands = piece_stands text piece rest utf8 piece_utf8 plain (subst (λ (p : List ℕ). GlobMatches (42 ∷ p) (chars text)) cut m) in
    none stands.place stands.occurs

-- what stands behind a later place is the end of what stands behind the first
chars_behind : (left behind : List ℕ) (more : ℕ) → IsUtf8 left → IsUtf8 behind → drop more left ≡ behind → chars behind ≡ drop (length (chars (take more left))) (chars left)
chars_behind left behind more utf8 behind_utf8 is =
    let whole : left ≡ take more left ++ behind = sym (take-append-drop more left) ∙ ap (λ (t : List ℕ). take more left ++ t) is in
    let boundary = IsCharBoundary-at_seam left (take more left) behind whole behind_utf8 in
    let short : take (length (take more left)) left ≡ take more left = ap (take (length (take more left))) whole ∙ take_at (take more left) behind (length (take more left)) refl in
    let front_utf8 : IsUtf8 (take more left) = subst IsUtf8 short (IsUtf8-take left (length (take more left)) utf8 boundary) in
    let cut : chars left ≡ chars (take more left) ++ chars behind = ap chars whole ∙ chars-append (take more left) behind front_utf8 in
    sym (ap (drop (length (chars (take more left)))) cut ∙ drop_at (chars (take more left)) (chars behind) (length (chars (take more left))) refl)

pub piece_found : (text piece pattern rest left : List ℕ) → IsUtf8 text → IsUtf8 piece → IsUtf8 left → 0 < length piece → pattern ≡ chars piece ++ rest → list_all is_plain (chars piece) ≡ true → IsBehindFirst text piece left → StopsAt rest (chars left) → GlobMatches (42 ∷ pattern) (chars text) → GlobMatches rest (chars left)
piece_found text piece pattern rest left utf8 piece_utf8 left_utf8 some cut plain first stops m =
    let stands = piece_stands text piece rest utf8 piece_utf8 plain (subst (λ (p : List ℕ). GlobMatches (42 ∷ p) (chars text)) cut m) in
    let from : first.place ≤ stands.place = elim (cases_lt stands.place first.place) [
      | inl before ↦ absurd (first.before stands.place before stands.occurs)
      | inr h ↦ h
    ] in
    let behind = encode_utf8_all stands.left in
    let end = piece_end text piece stands.place utf8 piece_utf8 some stands.occurs in
    let behind_utf8 : IsUtf8 behind = subst IsUtf8 stands.behind (IsUtf8-drop text (stands.place + length piece) utf8 end) in
    let there : (first.place + length piece) + (stands.place - first.place) ≡ stands.place + length piece = omega arith in
    let later : drop (stands.place - first.place) left ≡ behind =
    ap (drop (stands.place - first.place)) first.is ∙ drop-drop (stands.place - first.place) (first.place + length piece) text ∙ ap (λ (n : ℕ). drop n text) there ∙ stands.behind
    in
    let is : stands.left ≡ drop (length (chars (take (stands.place - first.place) left))) (chars left) =
    chars_from_encodes stands.left behind behind_utf8 refl ∙ chars_behind left behind (stands.place - first.place) left_utf8 behind_utf8 later
    in
    left_matches rest (chars left) stops (length (chars (take (stands.place - first.place) left))) (subst (λ (t : List ℕ). GlobMatches rest t) is stands.matches)

pub piece_matched : (text piece pattern rest left : List ℕ) → IsUtf8 text → IsUtf8 piece → 0 < length piece → pattern ≡ chars piece ++ rest → list_all is_plain (chars piece) ≡ true → IsBehindFirst text piece left → GlobMatches rest (chars left) → GlobMatches (42 ∷ pattern) (chars text)
piece_matched text piece pattern rest left utf8 piece_utf8 some cut plain first m =
    let front = take first.place text in
    let front_utf8 : IsUtf8 front = IsUtf8-take text first.place utf8 (OccursAt-boundary text piece first.place piece_utf8 some first.occurs) in
    let whole : text ≡ front ++ (piece ++ left) =
    sym (take-append-drop first.place text) ∙ ap (λ (t : List ℕ). front ++ t) (OccursAt-split text piece first.place first.occurs ∙ ap (λ (t : List ℕ). piece ++ t) (sym first.is))
    in
    let characters : chars text ≡ chars front ++ (chars piece ++ chars left) =
    ap chars whole ∙ chars-append front (piece ++ left) front_utf8 ∙ ap (λ (t : List ℕ). chars front ++ t) (chars-append piece left piece_utf8)
    in
    subst (λ (p : List ℕ). GlobMatches (42 ∷ p) (chars text)) (sym cut) (skips (chars front) (chars piece ++ chars left) characters (piece_matches (chars piece) rest (chars left) plain m))

-- parts that are counted
pub Spans-none : (pattern : List ℕ) → Spans pattern pattern 0
Spans-none pattern = record { forth = λ any m. (omega arith, m) }

pub Spans-more : (pattern rest after : List ℕ) (count : ℕ) → Spans pattern rest count → HasPart rest → ((c : ℕ) (other : List ℕ) → AllowsFirst rest c other → other ≡ after) → Spans pattern after (count + 1)
Spans-more pattern rest after count spans has behind = record {
  forth = λ any m.
      let so_far = spans.forth any m in
      let within = so_far.0 in
      let part = GlobMatches-part so_far.1 has in
      let long = ap length part.cut in
      let to_rest : part.rest ≡ after = behind part.c part.rest part.allowed in
      let to_left : part.left ≡ drop (count + 1) any = drop_past any part.left count part.c part.cut in (
        omega (arith, length-drop count any, long, within),
        subst (λ (q : List ℕ). GlobMatches q (drop (count + 1) any)) to_rest (subst (λ (t : List ℕ). GlobMatches part.rest t) to_left part.matches),
      );
}

pub Spans-both : (pattern rest after : List ℕ) (count more : ℕ) → Spans pattern rest count → Spans rest after more → Spans pattern after (count + more)
Spans-both pattern rest after count more one two = record {
  forth = λ any m.
      let first = one.forth any m in
      let second = two.forth (drop count any) first.1 in
      (omega (arith, first.0, second.0, length-drop count any), subst (λ (t : List ℕ). GlobMatches after t) (drop-drop more count any) second.1);
}

pub Spans-stuck : (pattern rest : List ℕ) (count : ℕ) → Spans pattern rest count → HasPart rest → ((c : ℕ) (other : List ℕ) → AllowsFirst rest c other → ⊥) → (text : List ℕ) → GlobMatches pattern text → ⊥
Spans-stuck pattern rest count spans has stuck text m =
    let part = GlobMatches-part (spans.forth text m).1 has in
    stuck part.c part.rest part.allowed

pub Spans-many : (pattern rest : List ℕ) (count most : ℕ) → Spans pattern rest count → HasPart rest → count ≡ most → (text : List ℕ) → length text ≤ most → GlobMatches pattern text → ⊥
Spans-many pattern rest count most spans has is text short m =
    let so_far = spans.forth text m in
    let part = GlobMatches-part so_far.1 has in
    let long = ap length part.cut in
    omega (arith, length-drop count text, long, is, short)

pub star_stuck : (pattern bytes : List ℕ) (most : ℕ) → IsUtf8 bytes → length bytes ≤ most → ((any : List ℕ) → length any ≤ most → GlobMatches pattern any → ⊥) → GlobMatches (42 ∷ pattern) (chars bytes) → ⊥
star_stuck pattern bytes most utf8 short stuck m =
    let later = GlobMatches-star m pattern refl in
    let few : length (chars bytes) ≤ length bytes = omega (arith, length-le-encodes (chars bytes), ap length (encodes-chars bytes utf8)) in
    stuck (drop later.skipped (chars bytes)) (omega (arith, length-drop later.skipped (chars bytes), few, short)) later.matches

-- a piece that is longer than the text stands nowhere in it
pub piece_long : (text piece pattern rest : List ℕ) → IsUtf8 text → IsUtf8 piece → pattern ≡ chars piece ++ rest → list_all is_plain (chars piece) ≡ true → length text < length piece → GlobMatches (42 ∷ pattern) (chars text) → ⊥
piece_long text piece pattern rest utf8 piece_utf8 cut plain long =
    piece_none text piece pattern rest utf8 piece_utf8 cut plain (λ place occurs. let fits = occurs.fits in omega (arith, fits, long))

-- a pattern of so many parts matches so many characters, at the text's end behind a star
pub end_matches : (pattern text : List ℕ) (parts : ℕ) → Spans pattern [] parts → GlobMatches (42 ∷ pattern) text → (parts ≤ length text) × GlobMatches pattern (drop (length text - parts) text)
end_matches pattern text parts spans m =
    let later = GlobMatches-star m pattern refl in
    let from = drop later.skipped text in
    let spanned = spans.forth from later.matches in
    let within : parts ≤ length from = spanned.0 in
    let none : drop parts from ≡ [] = GlobMatches-empty spanned.1 refl in
    let ends : length from - parts ≡ 0 = sym (length-drop parts from) ∙ ap length none in
    let long : length from ≡ length text - later.skipped = length-drop later.skipped text in
    elim (cases_lt (length text) later.skipped) [
      | inl past ↦
          let nothing : drop later.skipped text ≡ [] = drop_all later.skipped text (omega arith) in
          let last : drop (length text - parts) text ≡ [] = drop_all (length text - parts) text (omega arith) in
          (omega arith, subst (λ (t : List ℕ). GlobMatches pattern t) (nothing ∙ sym last) later.matches)
      | inr inside ↦
          let same : later.skipped ≡ length text - parts = omega arith in
          (omega arith, subst (λ (n : ℕ). GlobMatches pattern (drop n text)) same later.matches)
    ]

pub end_found : (pattern text rest left : List ℕ) (parts : ℕ) → Spans pattern [] parts → Runs pattern (drop (length text - parts) text) rest left → GlobMatches (42 ∷ pattern) text → GlobMatches rest left
end_found pattern text rest left parts spans run m = Runs-here pattern (drop (length text - parts) text) rest left run (end_matches pattern text parts spans m).1

pub end_matched : (pattern text rest left : List ℕ) (parts : ℕ) → Runs pattern (drop (length text - parts) text) rest left → GlobMatches rest left → GlobMatches (42 ∷ pattern) text
end_matched pattern text rest left parts run m = star_skips pattern text (length text - parts) (run.back m)

-- what follows a part
pub behind_other : (first : ℕ) (after : List ℕ) → (first ≡ 92 → ⊥) → (first ≡ 91 → ⊥) → (c : ℕ) (other : List ℕ) → AllowsFirst (first ∷ after) c other → other ≡ after
behind_other first after backslash bracket c other (inl h) = sym h.1
behind_other first after backslash bracket c other (inr (inl h)) = absurd (backslash h.0)
behind_other first after backslash bracket c other (inr (inr (inl h))) = absurd (bracket h.0)
behind_other first after backslash bracket c other (inr (inr (inr h))) = sym h.5

pub behind_escaped : (first : ℕ) (after : List ℕ) → first ≡ 92 → (c : ℕ) (other : List ℕ) → AllowsFirst (first ∷ after) c other → after ≡ c ∷ other
behind_escaped first after is c other (inl h) = absurd (omega arith)
behind_escaped first after is c other (inr (inl h)) = h.1
behind_escaped first after is c other (inr (inr (inl h))) = absurd (omega arith)
behind_escaped first after is c other (inr (inr (inr h))) = absurd (h.3 is)

pub behind_class : (first : ℕ) (after : List ℕ) → first ≡ 91 → (c : ℕ) (other : List ℕ) → AllowsFirst (first ∷ after) c other → AllowsByClass after c other
behind_class first after is c other (inl h) = absurd (omega arith)
behind_class first after is c other (inr (inl h)) = absurd (omega arith)
behind_class first after is c other (inr (inr (inl h))) = h.1
behind_class first after is c other (inr (inr (inr h))) = absurd (h.2 is)

pub class_rest : (text class rest : List ℕ) (c : ℕ) (other : List ℕ) → text ≡ class ++ 93 ∷ rest → Lacks 93 class → AllowsByClass text c other → other ≡ rest
class_rest text class rest c other cut lacks h = (first_cut-same 93 h.0 class other rest h.1 lacks (sym h.2 ∙ cut)).1

-- where the first place of a piece is, and where none is
pub nowhere : (text piece : List ℕ) → FindsNeedle text piece 0 None → (place : ℕ) → OccursAt text piece place → ⊥
nowhere text piece none place occurs = let fits = occurs.fits in none place (omega arith) (omega (arith, fits)) occurs

pub behind_first_is : (text piece left : List ℕ) (place : ℕ) → FindsNeedle text piece 0 (Some place) → left ≡ drop (place + length piece) text → IsBehindFirst text piece left
behind_first_is text piece left place found is = record { place = place; occurs = found.1; before = λ k below. found.0.before k (omega arith) below; is = is }

-- the plain characters in front
plain_more : (cs : List ℕ) (passed c : ℕ) (next : List ℕ) → drop passed cs ≡ c ∷ next → list_all is_plain (take passed cs) ≡ true → is_plain c ≡ true → list_all is_plain (take (passed + 1) cs) ≡ true
plain_more cs passed c next is plain one =
    let front : take (passed + 1) cs ≡ take passed cs ++ c ∷ [] = rw add-one (take_past passed cs c next is) in
    ap (list_all is_plain) front ∙ list_all-append is_plain (take passed cs) (c ∷ []) ∙ and_from (list_all is_plain (take passed cs)) (list_all is_plain (c ∷ [])) plain (and_from (is_plain c) true one refl)

pub passes_none : (pattern : List ℕ) → PassesPlain pattern pattern
passes_none pattern = record { start = 0; within = omega arith; is = refl; passed = 0; at = refl; plain = refl }

ends_at : (pattern rest : List ℕ) → PassesPlain pattern rest → IsEnd pattern rest
ends_at pattern rest passes = record { start = passes.start; within = passes.within; is = passes.is }

pub passes_more : (pattern rest after : List ℕ) (c : ℕ) → PassesPlain pattern rest → rest ≡ encode_utf8 c ++ after → chars rest ≡ c ∷ chars after → is_plain c ≡ true → PassesPlain pattern after
passes_more pattern rest after c passes bytes cut plain =
    let end = IsEnd-past pattern rest after c (ends_at pattern rest passes) bytes in
    let next : drop passes.passed (chars pattern) ≡ c ∷ chars after = sym passes.at ∙ cut in
    record {
      start = end.start;
      within = end.within;
      is = end.is;
      passed = passes.passed + 1;
      at = drop_past (chars pattern) (chars after) passes.passed c next;
      plain = plain_more (chars pattern) passes.passed c (chars after) next passes.plain plain;
    }

pub passes_boundary : (pattern rest : List ℕ) → PassesPlain pattern rest → IsUtf8 rest → IsCharBoundary pattern (length pattern - length rest)
passes_boundary pattern rest passes utf8 = IsEnd-boundary pattern rest (ends_at pattern rest passes) utf8

passes_taken : (pattern rest front : List ℕ) (passes : PassesPlain pattern rest) → IsUtf8 pattern → IsUtf8 rest → front ≡ take (length pattern - length rest) pattern → chars front ≡ take passes.passed (chars pattern)
passes_taken pattern rest front passes utf8 rest_utf8 is = IsEnd-front pattern rest front passes.passed (ends_at pattern rest passes) utf8 rest_utf8 is passes.at

pub passes_front : (pattern rest front : List ℕ) → PassesPlain pattern rest → IsUtf8 pattern → IsUtf8 rest → front ≡ take (length pattern - length rest) pattern → list_all is_plain (chars front) ≡ true
passes_front pattern rest front passes utf8 rest_utf8 is = ap (list_all is_plain) (passes_taken pattern rest front passes utf8 rest_utf8 is) ∙ passes.plain

pub passes_cut : (pattern rest front back : List ℕ) → PassesPlain pattern rest → IsUtf8 pattern → IsUtf8 rest → front ≡ take (length pattern - length rest) pattern → back ≡ drop (length pattern - length rest) pattern → chars pattern ≡ chars front ++ chars back
passes_cut pattern rest front back passes utf8 rest_utf8 is_front is_back =
    let front_is = passes_taken pattern rest front passes utf8 rest_utf8 is_front in
    let back_is : chars back ≡ drop passes.passed (chars pattern) = IsEnd-back pattern rest back passes.passed (ends_at pattern rest passes) is_back passes.at in
    sym (take-append-drop passes.passed (chars pattern)) ∙ ap (λ (t : List ℕ). t ++ drop passes.passed (chars pattern)) (sym front_is) ∙ ap (λ (t : List ℕ). chars front ++ t) (sym back_is)

-- what an option's value or absence says, by what it said before
pub IfSome-then : {T : Type 0} (o : Option T) (P Q : T → Type 0) → IfSome o P → ((x : T) → P x → Q x) → IfSome o Q
IfSome-then None P Q h f = tt
IfSome-then (Some x) P Q h f = f x h
