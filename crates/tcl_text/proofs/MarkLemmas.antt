-- The marks of a text by their equation.
use Rattle.std.proofs.Common.{◌≡◌, ◌≤◌, ℕ, zero, suc, Bool, true, false, if◌then◌else◌, List, [], ◌∷◌, length, drop, refl, arith, ap, sym, ◌∙◌}
use Rattle.std.specs.Prelude.{◌==◌}
use Rattle.std.proofs.lemmas.List.{length-drop}
use Rattle.tcl_text.specs.Bytes.{backslash_sign}
use Rattle.tcl_text.specs.Backslash.{Mark, byte_mark, escape, escape_mark, marked, marks}
use Rattle.tcl_text.proofs.SplittingLemmas.{marks_past-drop}

pub marks_marked : (text : List ℕ) → marks text ≡ marked marks text
unfolding marks
marks_marked [] = refl
marks_marked (b ∷ bs) = ap (λ ms. if b == backslash_sign then escape_mark bs ∷ ms else byte_mark b ∷ marks bs) (marks_past-drop (escape bs).length bs)

-- where so many bytes at most are left
only_within : (other : List ℕ → List Mark) → ((text : List ℕ) → other text ≡ marked other text) → (bytes : ℕ) (text : List ℕ) → length text ≤ bytes → other text ≡ marks text
only_within other so bytes [] within = so [] ∙ sym (marks_marked [])
only_within other so zero (b ∷ bs) within = absurd (omega arith)
only_within other so (suc bytes) (b ∷ bs) within =
    let left : length (drop (escape bs).length bs) ≤ bytes = (let fewer = length-drop (escape bs).length bs in omega arith) in
    let behind = only_within other so bytes (drop (escape bs).length bs) left in
    let next = only_within other so bytes bs (omega arith) in
    so (b ∷ bs)
    ∙ ap (λ ms. if b == backslash_sign then escape_mark bs ∷ ms else byte_mark b ∷ other bs) behind
    ∙ ap (λ ms. if b == backslash_sign then escape_mark bs ∷ marks (drop (escape bs).length bs) else byte_mark b ∷ ms) next
    ∙ sym (marks_marked (b ∷ bs))

pub only_marks : (other : List ℕ → List Mark) → ((text : List ℕ) → other text ≡ marked other text) → (text : List ℕ) → other text ≡ marks text
only_marks other so text = only_within other so (length text) text (omega arith)
