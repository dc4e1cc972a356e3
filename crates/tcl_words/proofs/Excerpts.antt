-- A part of a text, and a text that is a part of itself.
use Rattle.std.proofs.Common.{◌≡◌, ◌≤◌, ◌-◌, ℕ, List, length, take, drop, ap, sym, ◌∙◌, arith}
use Rattle.std.specs.List.{slice_range}
use Rattle.std.specs.Str.{IsUtf8, IsCharBoundary}
use Rattle.std.proofs.Math.Seq.{take-length}
use Rattle.std.proofs.lemmas.List.{length-take, length-drop}
use Rattle.std.proofs.lemmas.Str.{IsCharBoundary-start, IsCharBoundary-end}
use Rattle.tcl_text.specs.Limits.{most_bytes}
use Rattle.tcl_words.specs.Places.{Stretch, stretch}
use Rattle.tcl_words.specs.Sources.{part_at, IsPart}

all_of : (whole : List ℕ) → part_at whole (stretch 0 (length whole)) ≡ whole
all_of whole = let same : length whole - 0 ≡ length whole = omega arith in ap (λ n. take n (drop 0 whole)) same ∙ take-length whole

-- a text as a part of itself
pub part_is_whole : (whole own : List ℕ) (place : Stretch) → whole ≡ own → place ≡ stretch 0 (length own) → part_at whole place ≡ own
part_is_whole whole own place e h = rw (e, h) (all_of own)

pub whole_is_part : (whole own : List ℕ) (place : Stretch) → IsUtf8 own → whole ≡ own → place ≡ stretch 0 (length own) → IsPart whole place
whole_is_part whole own place utf8 e h =
    rw (e, h) (record { ordered = omega arith; within = omega arith; begins = IsCharBoundary-start own utf8; ends = IsCharBoundary-end own })

-- a part that is all of its text
pub whole_as_part : (whole own : List ℕ) (place : Stretch) → own ≡ whole → place.start ≡ 0 → place.end ≡ length whole → own ≡ part_at whole place
whole_as_part whole own place e start end = let same : slice_range whole place.start place.end ≡ whole = rw (start, end) (all_of whole) in e ∙ sym same

-- the part between two places
pub is_part : (whole : List ℕ) (place : Stretch) (start end : ℕ) → place ≡ stretch start end → start ≤ end → IsCharBoundary whole start → IsCharBoundary whole end →
    IsPart whole place
is_part whole place start end h ordered begins ends = rw h (record { ordered = ordered; within = ends.0; begins = begins; ends = ends })

pub part_is : (whole text own : List ℕ) (place : Stretch) (start end : ℕ) → place ≡ stretch start end → text ≡ slice_range whole start end → text ≡ own →
    part_at whole place ≡ own
part_is whole text own place start end h is same = rw h (sym is ∙ same)

pub part_short : (whole : List ℕ) (place : Stretch) → length whole ≤ most_bytes → length (part_at whole place) ≤ most_bytes
part_short whole place short =
    let n = place.end - place.start in
    let cut : length (take n (drop place.start whole)) ≤ most_bytes = omega (arith, length-take n (drop place.start whole), length-drop place.start whole, short) in
    cut
