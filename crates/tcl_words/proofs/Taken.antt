-- The last item of a list of one is the only one.
use Rattle.std.proofs.Common.{◌≡◌, List, [], ◌∷◌, ◌++◌, length, Option, Some, None, MatchOption, refl, sym, subst, ◌∙◌, arith, length-append, append-nil}
use Rattle.std.specs.Prelude.{option_to_list}

only_item : {A : Type 0} (items rest : List A) (item : A) → items ≡ rest ++ item ∷ [] → length items ≡ 1 → (items ≡ item ∷ []) × (rest ≡ [])
only_item items [] item e h = (e, refl)
only_item items (other ∷ rest) item e h = absurd (let more : length (other ∷ (rest ++ item ∷ [])) ≡ 1 = subst (λ l. length l ≡ 1) e h in omega (arith, length-append rest (item ∷ []), more))

pub only_popped : {A : Type 0} (items rest : List A) (last : Option A) → items ≡ rest ++ option_to_list last → length items ≡ 1 →
    MatchOption last (rest ≡ items) (λ item. (items ≡ item ∷ []) × (rest ≡ []))
only_popped items rest None e h = sym (e ∙ append-nil rest)
only_popped items rest (Some item) e h = only_item items rest item e h
