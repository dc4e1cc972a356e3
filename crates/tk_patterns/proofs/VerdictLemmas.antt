-- One place of the comparison of modifiers.
use Rattle.std.proofs.Common.{◌≡◌, ℕ, zero, suc, ◌+◌, true, false, List, [], ◌∷◌, drop, Some, None, slice_get, refl, ap, ◌∙◌}
use Rattle.tk_patterns.proofs.CopyLemmas.{rest_at}
use Rattle.tk_patterns.specs.declared.copies.PatternCopy.{PatternCopy}
use Rattle.tk_patterns.specs.declared.verdict.Verdict.{Verdict}
use Rattle.tk_patterns.specs.declared.verdict.Verdict.TheVariants.{More, Less, Alike}
use Rattle.tk_patterns.specs.Specific.{first_of, is_alike, by_held, by_modifiers}

decided_by : (verdict later : Verdict) → is_alike verdict ≡ false → first_of verdict later ≡ verdict
decided_by More later h = refl
decided_by Less later h = refl
decided_by Alike later h = absurd (cc)

alike_by : (verdict later : Verdict) → is_alike verdict ≡ true → first_of verdict later ≡ later
alike_by More later h = absurd (cc)
alike_by Less later h = absurd (cc)
alike_by Alike later h = refl

at_place : (copies others : List PatternCopy) (place : ℕ) (copy other : PatternCopy) → slice_get copies place ≡ Some copy → slice_get others place ≡ Some other
    → by_modifiers (drop place copies) (drop place others) ≡ first_of (by_held copy.pattern.modifiers other.pattern.modifiers) (by_modifiers (drop (place + 1) copies) (drop (place + 1) others))
at_place copies others place copy other h k =
    ap (λ rest. by_modifiers rest (drop place others)) (rest_at copies place copy h) ∙ ap (λ rest. by_modifiers (copy ∷ drop (place + 1) copies) rest) (rest_at others place other k)

pub decided_at : (copies others : List PatternCopy) (place : ℕ) (copy other : PatternCopy) → slice_get copies place ≡ Some copy → slice_get others place ≡ Some other → is_alike (by_held copy.pattern.modifiers other.pattern.modifiers) ≡ false
    → by_modifiers (drop place copies) (drop place others) ≡ by_held copy.pattern.modifiers other.pattern.modifiers
decided_at copies others place copy other h k decided = at_place copies others place copy other h k ∙ decided_by (by_held copy.pattern.modifiers other.pattern.modifiers) (by_modifiers (drop (place + 1) copies) (drop (place + 1) others)) decided

pub alike_at : (copies others : List PatternCopy) (place : ℕ) (copy other : PatternCopy) → slice_get copies place ≡ Some copy → slice_get others place ≡ Some other → is_alike (by_held copy.pattern.modifiers other.pattern.modifiers) ≡ true
    → by_modifiers (drop place copies) (drop place others) ≡ by_modifiers (drop (place + 1) copies) (drop (place + 1) others)
alike_at copies others place copy other h k alike = at_place copies others place copy other h k ∙ alike_by (by_held copy.pattern.modifiers other.pattern.modifiers) (by_modifiers (drop (place + 1) copies) (drop (place + 1) others)) alike

nothing_at : (copies : List PatternCopy) (place : ℕ) → slice_get copies place ≡ None → drop place copies ≡ []
nothing_at [] zero h = refl
nothing_at [] (suc place) h = refl
nothing_at (copy ∷ copies) zero h = absurd (cc)
nothing_at (copy ∷ copies) (suc place) h = nothing_at copies place h

pub ended_at : (copies others : List PatternCopy) (place : ℕ) (copy : PatternCopy) → slice_get copies place ≡ Some copy → slice_get others place ≡ None → by_modifiers (drop place copies) (drop place others) ≡ Alike
ended_at copies others place copy h none =
    ap (λ rest. by_modifiers rest (drop place others)) (rest_at copies place copy h) ∙ ap (λ rest. by_modifiers (copy ∷ drop (place + 1) copies) rest) (nothing_at others place none)
