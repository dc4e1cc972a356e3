-- Lemmas on parts of texts.
use Rattle.std.proofs.Common.{◌≡◌, ℕ, Bool, true, ◌||◌, List, [], ◌∷◌, ◌++◌, length, take, drop, None, MatchBool, refl, ap, subst, sym, eqb, ⊎_elim, ◌∙◌}
use Rattle.std.proofs.Math.Bool.{or-true}
use Rattle.std.proofs.lemmas.Bool.{cases_Bool}
use Rattle.std.proofs.lemmas.Bool.Decides.{same_from_decides}
use Rattle.std.proofs.Math.Seq.{take-append_seam}
use Rattle.std.proofs.lemmas.List.{take-append-drop}
use Rattle.std.proofs.lemmas.Slice.Eq.{bytes_eq-Decides}
use Rattle.std.proofs.lemmas.Str.Pattern.{contains_text}
use Rattle.std.specs.List.{starts_with}
use Rattle.std.specs.Str.Iter.{HasSubslice}
use Rattle.std.specs.Str.Pattern.{FindsText, HasMatch}
use Rattle.panels_text.specs.Refusals.{has_part}

-- what a text begins with
begins : (text part : List ℕ) → starts_with eqb text part ≡ true → (rest : List ℕ) × (text ≡ part ++ rest)
begins text part is = (
  drop (length part) text,
  sym (take-append-drop (length part) text) ∙ ap (λ front. front ++ drop (length part) text) (sym ((bytes_eq-Decides part (take (length part) text)).0 is)),
)

begun : (part rest : List ℕ) → starts_with eqb (part ++ rest) part ≡ true
begun part rest = (bytes_eq-Decides part (take (length part) (part ++ rest))).1 (sym (take-append_seam part rest))

part-found : (part text : List ℕ) → has_part part text ≡ true → HasSubslice text part
part-found part [] is = let at = begins [] part is in ([], at.0, at.1)
part-found part (b ∷ bs) is =
    ⊎_elim
    (λ here. let at = begins (b ∷ bs) part here in ([], at.0, at.1))
    (λ later. let P : Bool → Type 0 = λ v. (v || has_part part bs) ≡ true in
    let deeper = part-found part bs (subst P later is) in (b ∷ deeper.0, deeper.1, ap (λ left. b ∷ left) deeper.2))
    (cases_Bool (starts_with eqb (b ∷ bs) part))

part-here : (part rest : List ℕ) (text : List ℕ) → text ≡ part ++ rest → has_part part text ≡ true
part-here part rest [] is = let P : List ℕ → Type 0 = λ all. starts_with eqb all part ≡ true in subst P (sym is) (begun part rest)
part-here part rest (b ∷ bs) is = let P : List ℕ → Type 0 = λ all. starts_with eqb all part ≡ true in rw (subst P (sym is) (begun part rest)) refl

found-part : (part front rest text : List ℕ) → text ≡ front ++ (part ++ rest) → has_part part text ≡ true
found-part part [] rest text is = part-here part rest text is
found-part part (f ∷ front) rest [] is = cc
found-part part (f ∷ front) rest (b ∷ bs) is = let tail : bs ≡ front ++ (part ++ rest) = cc in rw (found-part part front rest bs tail) (or-true (starts_with eqb (b ∷ bs) part))

-- what `contains` answers
pub has_part-contains : (r : Bool) (part text : List ℕ) → MatchBool r (HasMatch (FindsText part) text) (FindsText part text None) → r ≡ has_part part text
has_part-contains r part text found =
    let told = contains_text r part text found in
    same_from_decides r (has_part part text) (told.0, told.1) (part-found part text, λ there. found-part part there.0 there.1 text there.2)
