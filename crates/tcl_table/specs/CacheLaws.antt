-- Meaning. What follows of a cache whose texts are asked for one after another.
use Rattle.std.specs.Prelude.{◌≡◌, ℕ, ◌≤◌, true, false, List, [], ◌∷◌, length, codes}
use Rattle.std.specs.List.{IsDistinct}
use Rattle.std.specs.Str.{bytes_eq}
use Rattle.tcl_table.specs.Kept.{Kept, none_kept, is_kept, put_first}

-- after all these texts were asked for, the last first
abbrev pub kept_after : List (List ℕ) → ℕ → Kept
kept_after [] capacity = none_kept capacity
kept_after (text ∷ earlier) capacity = put_first text (kept_after earlier capacity)

abbrev pub NoTextTwice : Type 0
NoTextTwice =
    (asked : List (List ℕ)) (capacity : ℕ) → IsDistinct bytes_eq (kept_after asked capacity).texts × (length (kept_after asked capacity).texts ≤ capacity)

abbrev pub two : Kept
two = kept_after (codes "c" ∷ codes "a" ∷ codes "b" ∷ codes "a" ∷ []) 2

abbrev pub LastAskedFor : Type 0
LastAskedFor =
    (two.texts ≡ codes "c" ∷ codes "a" ∷ []) × (is_kept (codes "a") two ≡ true) × (is_kept (codes "c") two ≡ true) × (is_kept (codes "b") two ≡ false)
    × (is_kept (codes "{") two ≡ false)
