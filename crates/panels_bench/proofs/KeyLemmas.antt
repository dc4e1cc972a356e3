-- Lemmas on keys that are struck while others are held.
use Rattle.std.proofs.Common.{◌≡◌, ℕ, Bor, List, [], ◌∷◌, ◌++◌, map, reverse, Option, refl, ap, ◌∙◌}
use Rattle.std.proofs.lemmas.List.{map-append, reverse-append, reverse-reverse}
use Rattle.tk_session.specs.Reading.{◌>>=◌}
use Rattle.panels_bench.specs.Gestures.{chord_named, held_for, struck_words}
use Rattle.panels_bench.specs.Values.{all_said}

through : (words : List (Bor (List ℕ))) → map held_for (map (λ (word : Bor (List ℕ)). word.now) words) ≡ map (λ (word : Bor (List ℕ)). held_for word.now) words
through [] = refl
through (word ∷ words) = ap (λ rest. held_for word.now ∷ rest) (through words)

-- the last of words is the key that is struck
pub struck_last : (words others : List (Bor (List ℕ))) (name : Bor (List ℕ)) → words ≡ others ++ name ∷ []
    → struck_words (reverse (map (λ (word : Bor (List ℕ)). word.now) words)) ≡ (all_said (map (λ (word : Bor (List ℕ)). held_for word.now) others) >>= λ held. chord_named held name.now)
struck_last words others name is =
    let now : List (Bor (List ℕ)) → List (List ℕ) = λ own. map (λ (word : Bor (List ℕ)). word.now) own in
    let turned : reverse (now words) ≡ name.now ∷ reverse (now others) =
    ap (λ own. reverse (now own)) is ∙ (ap reverse (map-append (λ (word : Bor (List ℕ)). word.now) others (name ∷ [])) ∙ reverse-append (now others) (name.now ∷ [])) in
    ap struck_words turned
    ∙ (ap (λ (own : List (List ℕ)). all_said (map held_for own) >>= λ held. chord_named held name.now) (reverse-reverse (now others))
    ∙ ap (λ (own : List (Option (List ℕ))). all_said own >>= λ held. chord_named held name.now) (through others))
