-- Lemmas on where texts stand in others.
use Rattle.std.proofs.Common.{◌≡◌, ℕ, ◌+◌, ◌-◌, ◌≤◌, min, List, ◌++◌, length, take, drop, Option, Some, None, MatchOption, ap, sym, refl, length-append, append_assoc, ◌∙◌, arith}
use Rattle.std.proofs.Math.Seq.{drop-append_seam}
use Rattle.std.proofs.lemmas.List.{length-take, take-append-drop, take_min}
use Rattle.std.specs.Prelude.{slice_range}
use Rattle.std.specs.Str.Pattern.{FindsText, MatchBeginsAt}
use Rattle.panels_bench.specs.Stands.{StandsAt}
use Rattle.panels_text.specs.Places.{count_breaks, line_at}

-- what `find` finds
pub stands-find : (own text : List ℕ) (found : Option ℕ) → MatchOption found (FindsText own text None) (MatchBeginsAt (FindsText own) text) → StandsAt text own found
stands-find own text None none = λ front rest is.
    let long : length front ≤ length text = omega (arith, ap length is, length-append front (own ++ rest)) in
    none (length front) long rest (ap (drop (length front)) is ∙ drop-append_seam front (own ++ rest))
stands-find own text (Some at) found = (
  take at text,
  drop found.0 text,
  sym (take-append-drop at text) ∙ ap (λ left. take at text ++ left) found.1.1.split,
  length-take at text ∙ omega (arith, found.3.0),
)

-- what stands in a part of a text stands in the text
pub stands_within : (text part own : List ℕ) (from to at : ℕ) → part ≡ slice_range text from to → from ≤ length text → StandsAt part own (Some at) → StandsAt text own (Some (from + at))
stands_within text part own from to at cut low there =
    let front = there.0 in
    let rest = there.1 in
    let left = drop (to - from) (drop from text) in
    let inner : drop from text ≡ part ++ left = sym (take-append-drop (to - from) (drop from text)) ∙ ap (λ all. all ++ left) (sym cut) in
    let whole : text ≡ take from text ++ (part ++ left) = sym (take-append-drop from text) ∙ ap (λ all. take from text ++ all) inner in
    let moved : take from text ++ ((front ++ (own ++ rest)) ++ left) ≡ (take from text ++ front) ++ (own ++ (rest ++ left)) = simp append_assoc in
    (take from text ++ front, rest ++ left, whole ∙ (ap (λ all. take from text ++ (all ++ left)) there.2 ∙ moved), omega (arith, length-append (take from text) front, length-take from text, there.3))

-- a byte behind the largest number is behind the text, as that number is
pub line_within : (text : List ℕ) (most byte : ℕ) → length text ≤ most → line_at text (min byte most) ≡ line_at text byte
line_within text most byte short =
    let same : min (min byte most) (length text) ≡ min byte (length text) = omega (arith, short) in
    ap (λ front. 1 + count_breaks front) (sym (take_min (min byte most) text) ∙ (ap (λ n. take n text) same ∙ take_min byte text))
