-- Lemmas on lines of a section in rows of their own.
use Rattle.std.proofs.Common.{◌≡◌, ℕ, ◌+◌, ◌<◌, Bool, true, false, cond, Bor, List, [], ◌∷◌, ◌++◌, length, get_or, drop, map, refl, ap, subst, sym, append_assoc, ◌∙◌}
use Rattle.std.proofs.lemmas.List.{append-nil, drop_more}
use Rattle.std.specs.Prelude.{filter, flat_map}
use Rattle.panels_bench.specs.Messages.{begins_so, row, rows_among}

-- one line more
pub rows-more : (first second line : List ℕ) (lines : List (List ℕ)) → rows_among first second (line ∷ []) ++ rows_among first second lines ≡ rows_among first second (line ∷ lines)
rows-more first second line lines =
    let rest = filter (begins_so first second) lines in
    let step : (b : Bool) → flat_map row (cond b (line ∷ []) []) ++ flat_map row rest ≡ flat_map row (cond b (line ∷ rest) rest) =
    λ b. elim b as (λ v. flat_map row (cond v (line ∷ []) []) ++ flat_map row rest ≡ flat_map row (cond v (line ∷ rest) rest))
    [ true ↦ ap (λ front. front ++ flat_map row rest) (append-nil (row line)) | false ↦ refl ] in
    step (begins_so first second line)

pub rows_step : (first second : List ℕ) (lines : List (Bor (List ℕ))) (i : ℕ) (d : Bor (List ℕ)) (before next all : List ℕ) → i < length lines
    → next ≡ before ++ rows_among first second ((get_or lines i d).now ∷ []) → before ++ rows_among first second (map (λ line. line.now) (drop i lines)) ≡ all
    → next ++ rows_among first second (map (λ line. line.now) (drop (i + 1) lines)) ≡ all
rows_step first second lines i d before next all lt is same =
    let line : List ℕ = (get_or lines i d).now in
    let left : List (List ℕ) = map (λ (own : Bor (List ℕ)). own.now) (drop (i + 1) lines) in
    let P : List (Bor (List ℕ)) → Type 0 = λ own. before ++ rows_among first second (map (λ (one : Bor (List ℕ)). one.now) own) ≡ all in
    let here : before ++ rows_among first second (line ∷ left) ≡ all = subst P (drop_more lines i d lt) same in
    ap (λ told. told ++ rows_among first second left) is
    ∙ append_assoc before (rows_among first second (line ∷ [])) (rows_among first second left)
    ∙ ap (λ told. before ++ told) (rows-more first second line left)
    ∙ here
