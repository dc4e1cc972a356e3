-- Lemmas on the lines in which two sections differ.
use Rattle.std.proofs.Common.{◌≡◌, ℕ, ◌+◌, ◌<◌, List, [], ◌∷◌, ◌++◌, length, get_or, drop, map, Bor, refl, subst, append_assoc, ◌∙◌, arith}
use Rattle.std.proofs.lemmas.List.{drop_more}
use Rattle.panels_text.specs.Differences.{counterpart, difference_words, or_same_lines, paired, same_lines, topic, without_counterpart}

-- one turn: a line that was wanted is told beside its counterpart
pub wanted_step : (lines : List (Bor (List ℕ))) (i : ℕ) (d : Bor (List ℕ)) (others left found told all : List (List ℕ)) (other : List ℕ) → i < length lines
    → other ≡ counterpart (get_or lines i d).now others → left ≡ without_counterpart (get_or lines i d).now others
    → told ≡ found ++ difference_words (record { of = topic (get_or lines i d).now; wanted = (get_or lines i d).now; got = other }) ∷ []
    → found ++ map difference_words (paired (map (λ line. line.now) (drop i lines)) others) ≡ all
    → told ++ map difference_words (paired (map (λ line. line.now) (drop (i + 1) lines)) left) ≡ all
wanted_step lines i d others left found told all other lt e f g same =
    let P : List (Bor (List ℕ)) → Type 0 = λ rest. found ++ map difference_words (paired (map (λ line. line.now) rest) others) ≡ all in
    let step = subst P (drop_more lines i d lt) same in
    rw (g, f, e) (append_assoc found _ _ ∙ step)

-- what is told where nothing differs, and where something does
pub or_same-none : {A : Type 0} (words : A → List ℕ) (found : List A) → length found ≡ 0 → same_lines ∷ [] ≡ or_same_lines (map words found)
or_same-none words [] none = refl
or_same-none words (one ∷ found) none = absurd (omega arith)

pub or_same-some : {A : Type 0} (words : A → List ℕ) (found : List A) → 0 < length found → map words found ≡ or_same_lines (map words found)
or_same-some words [] some = absurd (omega arith)
or_same-some words (one ∷ found) some = refl
