-- Lemmas on the shapes of values: texts that have to be there, and arrays that have too few or too many items.
use Rattle.std.proofs.Common.{◌≡◌, ℕ, ◌<◌, ◌≤◌, List, [], ◌∷◌, length, Option, Some, None, Result, Ok, Err, Bor, IfOk, refl, arith}
use Rattle.toml.specs.Data.{Data, string}
use Rattle.toml.specs.View.{items_view}
use Rattle.toml.specs.declared.value.Value.{Value}
use Rattle.panels_bench.specs.Sights.{place_of}
use Rattle.panels_bench.specs.Values.{Says, pair_of, text_in}
use Rattle.panels_text.specs.declared.failure.Failure.{Failure}

text_is : (value : Option Data) (text : List ℕ) → text_in value ≡ Some text → value ≡ Some (string text)
text_is None text is = cc
text_is (Some (string own)) text is = cc
text_is value text is = cc

pub text_needed : (result : Result (Bor (List ℕ)) Failure) (value : Option Data) → Says (λ text. text.now) result (text_in value) → IfOk result (λ text. value ≡ Some (string text.now))
text_needed (Ok text) value said = text_is value text.now said
text_needed (Err failure) value said = tt

pub pair_short : (most : ℕ) (values : List Value) → length values < 2 → None ≡ pair_of most (items_view values)
pair_short most [] lt = refl
pair_short most (one ∷ []) lt = refl
pair_short most (one ∷ other ∷ others) lt = absurd (omega (arith, lt))

pub pair_long : (most : ℕ) (values : List Value) → 3 ≤ length values → None ≡ pair_of most (items_view values)
pair_long most (one ∷ other ∷ []) le = absurd (omega (arith, le))
pair_long most values le = refl

pub place_short : (values : List Value) → length values < 4 → None ≡ place_of (items_view values)
place_short (x ∷ y ∷ width ∷ height ∷ others) lt = absurd (omega (arith, lt))
place_short values lt = refl

pub place_long : (values : List Value) → 5 ≤ length values → None ≡ place_of (items_view values)
place_long (x ∷ y ∷ width ∷ height ∷ []) le = absurd (omega (arith, le))
place_long values le = refl
