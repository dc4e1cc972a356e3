-- Where a text's last dot is.
use Rattle.std.proofs.Common.{◌≡◌, ◌≢◌, ℕ, suc, ◌<◌, List, [], ◌∷◌, ◌++◌, length, get_or, drop, take, Option, Some, None, option_map, MatchOption, Bor, ◌+◌, ◌≤◌, refl, sym, ap, ◌∙◌, arith, lit<}
use Rattle.std.specs.Str.Pattern.{RFindsChar}
use Rattle.std.proofs.lemmas.List.{take-append-drop}
use Rattle.std.proofs.lemmas.Str.Pattern.{NoCharPasses-char, drop_at_char}
use Rattle.std.proofs.lemmas.Bool.{ne_eqb}
use Rattle.tk_tree.specs.Path.{split_last}

-- none of these characters is a dot
abbrev pub HasNoDot : List ℕ → Type 0
HasNoDot text = (i : ℕ) → i < length text → get_or text i 0 ≢ 46

pub split_none : (text : List ℕ) → HasNoDot text → split_last text ≡ None
split_none [] lacks = refl
split_none (c ∷ rest) lacks =
    rw (split_none rest (λ i within. lacks (suc i) (omega (arith, within))), ne_eqb c 46 (lacks 0 (omega arith))) refl

pub split_there : (before name : List ℕ) → HasNoDot name → split_last (before ++ 46 ∷ name) ≡ Some (before, name)
split_there [] name lacks = rw (split_none name lacks) refl
split_there (c ∷ before) name lacks = rw (split_there before name lacks) refl

-- what `rsplit_once` says of a dot is what `split_last` gives
pub split_result : (path : List ℕ) (result : Option (Bor (List ℕ) × Bor (List ℕ)))
    → MatchOption result (RFindsChar 46 path None)
    (λ x. (i : ℕ) × (j : ℕ) × RFindsChar 46 path (Some (i, j)) × (x.0.now ≡ take i path) × (x.1.now ≡ drop j path) × (i ≤ j) × (length x.0.now ≡ i) × (length x.1.now + j ≡ length path))
    → option_map (λ parts. (parts.0.now, parts.1.now)) result ≡ split_last path
split_result path None lacks = sym (split_none path (λ i within. NoCharPasses-char 46 path i lacks (lit< tt) within))
split_result path (Some parts) cut =
    let i = cut.0 in
    let j = cut.1 in
    let whole : path ≡ take i path ++ 46 ∷ drop j path = sym (take-append-drop i path) ∙ ap (λ rest. take i path ++ rest) (drop_at_char 46 path i j cut.2.1 (lit< tt)) in
    let there : split_last path ≡ Some (take i path, drop j path) =
    ap split_last whole ∙ split_there (take i path) (drop j path) (λ k within. NoCharPasses-char 46 (drop j path) k cut.2.0 (lit< tt) within) in
    rw (cut.3, cut.4) (sym there)
