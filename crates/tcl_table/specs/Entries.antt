-- Steps. The cache as a map from texts to scripts.
use Rattle.std.specs.Prelude.{◌≡◌, ℕ, List, [], ◌∷◌, map, String, string_bytes}

abbrev pub texts_of : {Z V : Type 0} → List (String Z × V) → List (List ℕ)
texts_of entries = map (λ e. string_bytes e.0) entries

-- each script is that of its text
abbrev pub AreTheirs : {Z : Type 0} → List (String Z × List ℕ) → Type 0
AreTheirs [] = Unit {0}
AreTheirs (e ∷ es) = (e.1 ≡ string_bytes e.0) × AreTheirs es
