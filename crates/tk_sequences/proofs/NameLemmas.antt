-- The names of virtual events in their brackets.
use Rattle.std.proofs.Common.{◌≡◌, ◌≢◌, ℕ, ◌+◌, ◌-◌, Bool, true, false, cond, ◌&&◌, List, [], ◌∷◌, ◌++◌, length, length-append, take, drop, Option, Some, None, refl, sym, ap, ◌∙◌, subst, arith}
use Rattle.std.specs.Prelude.{codes}
use Rattle.std.specs.Str.{bytes_eq}
use Rattle.std.proofs.lemmas.List.{take_at, drop_at}
use Rattle.std.proofs.lemmas.Slice.Eq.{bytes_eq-Decides}
use Rattle.tk_sequences.specs.Words.{in_brackets, is_name, middle, name_in}

-- the middle of a name in brackets is the name
pub middle_is : (name : List ℕ) → middle (in_brackets name) ≡ name
middle_is name =
    let long : length (in_brackets name) - 2 ≡ length (codes "<<" ++ name) = omega (arith, length-append name (codes ">>")) in
    ap (λ n. drop 2 (take n (in_brackets name))) long
    ∙ ap (drop 2) (take_at (codes "<<" ++ name) (codes ">>") (length (codes "<<" ++ name)) refl)

tested : List ℕ → List ℕ → Bool
tested text name = is_name name && bytes_eq text (in_brackets name)

pub name_in_some : (text name : List ℕ) → text ≡ in_brackets name → is_name name ≡ true → Some name ≡ name_in text
unfolding name_in
name_in_some text name is named =
    let at : middle text ≡ name = ap middle is ∙ middle_is name in
    let same : bytes_eq text (in_brackets name) ≡ true = (bytes_eq-Decides text (in_brackets name)).1 is in
    sym (ap (λ (n : List ℕ). cond (is_name n && bytes_eq text (in_brackets n)) (Some n) None) at
    ∙ ap (λ (test : Bool). cond (test && bytes_eq text (in_brackets name)) (Some name) None) named
    ∙ ap (λ (test : Bool). cond test (Some name) None) same)

pub name_in_none : (text : List ℕ) → ((name : List ℕ) → is_name name ≡ true → text ≢ in_brackets name) → None ≡ name_in text
unfolding name_in
name_in_none text none = by (is_name (middle text)) (bytes_eq text (in_brackets (middle text))) refl refl
  where
    by : (named same : Bool) → is_name (middle text) ≡ named → bytes_eq text (in_brackets (middle text)) ≡ same → None ≡ cond (named && same) (Some (middle text)) None
    by false same is at = refl
    by true false is at = refl
    by true true is at = absurd (none (middle text) is ((bytes_eq-Decides text (in_brackets (middle text))).0 at))

pub name_in_false : (text name : List ℕ) → text ≡ in_brackets name → is_name name ≡ false → None ≡ name_in text
name_in_false text name is isnt = name_in_none text (λ other named same.
    let equal : other ≡ name = sym (middle_is other) ∙ ap middle (sym same ∙ is) ∙ middle_is name in
    let named_too : is_name name ≡ true = subst (λ (n : List ℕ). is_name n ≡ true) equal named in
    absurd (cc (isnt, named_too)))
