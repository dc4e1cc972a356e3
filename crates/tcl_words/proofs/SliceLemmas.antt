-- Stretches of a text, and of what stands behind a place of it.
use Rattle.std.proofs.Common.{◌≡◌, ℕ, ◌+◌, ◌-◌, List, drop, take, ap, sym, ◌∙◌, arith}
use Rattle.std.proofs.lemmas.List.{drop-drop}
use Rattle.std.specs.List.{slice_range}

-- a stretch that is counted from a place on
pub slice_behind : {A : Type 0} (xs : List A) (base from to : ℕ) → slice_range xs (base + from) (base + to) ≡ slice_range (drop base xs) from to
slice_behind xs base from to =
    let same : (base + to) - (base + from) ≡ to - from = omega arith in
    ap (λ n. take n (drop (base + from) xs)) same ∙ ap (take (to - from)) (sym (drop-drop from base xs))

-- the first ones behind a place
pub slice_first : {A : Type 0} (xs : List A) (base to : ℕ) → slice_range xs base (base + to) ≡ take to (drop base xs)
slice_first xs base to =
    let same : (base + to) - base ≡ to = omega arith in
    ap (λ n. take n (drop base xs)) same
