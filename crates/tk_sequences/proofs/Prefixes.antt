-- A word that begins otherwise, or is longer, names no modifier and no repetition.
use Rattle.std.proofs.Common.{◌≡◌, ℕ, ◌&&◌, Bool, true, false, true≢false, cond, List, [], ◌∷◌, Option, Some, None, option_map, refl, sym, ap, ◌∙◌}
use Rattle.std.proofs.lemmas.Slice.Eq.{bytes_eq-Decides}
use Rattle.std.specs.Option.{option_or}
use Rattle.std.specs.Str.{bytes_eq}
use Rattle.tk_sequences.specs.declared.modifier.Modifier.{Modifier}
use Rattle.tk_sequences.specs.declared.pattern.Repetition.{Repetition}
use Rattle.tk_sequences.specs.declared.reading.Prefix.TheVariants as prefixes
use Rattle.tk_sequences.specs.Lookup.{looked_up}
use Rattle.tk_sequences.specs.Modifiers.{modifier_named, modifier_words}
use Rattle.tk_sequences.specs.Patterns.{repetition_named, repetition_words}
use Rattle.tk_sequences.specs.Reading.{may_stand_before, prefix_named}

abbrev all_stand : {T : Type 0} → List (List ℕ × T) → Bool
all_stand [] = true
all_stand (entry ∷ entries) = may_stand_before entry.0 && all_stand entries

both : (a b : Bool) → (a && b) ≡ true → (a ≡ true) × (b ≡ true)
both true true h = (refl, refl)
both true false h = absurd (cc)
both false b h = absurd (cc)

module _ (word : List ℕ) (away : may_stand_before word ≡ false) where
  listed_by : {T : Type 0} (entry : List ℕ × T) (entries : List (List ℕ × T)) (t : Bool) → bytes_eq word entry.0 ≡ t → may_stand_before entry.0 ≡ true
      → looked_up word entries ≡ None → cond t (Some entry.1) (looked_up word entries) ≡ None
  listed_by entry entries true is stands none =
      let same : word ≡ entry.0 = (bytes_eq-Decides word entry.0).0 is in
      absurd (true≢false (sym stands ∙ sym (ap may_stand_before same) ∙ away))
  listed_by entry entries false is stands none = none

  not_listed : {T : Type 0} (entries : List (List ℕ × T)) → all_stand entries ≡ true → looked_up word entries ≡ None
  not_listed [] all = refl
  not_listed (entry ∷ entries) all =
      let parts = both (may_stand_before entry.0) (all_stand entries) all in
      listed_by entry entries (bytes_eq word entry.0) refl parts.0 (not_listed entries parts.1)

  no_modifier : modifier_named word ≡ None
  no_modifier = not_listed modifier_words refl

  no_repetition : repetition_named word ≡ None
  no_repetition = not_listed repetition_words refl

  pub none_before : prefix_named word ≡ None
  none_before =
      ap (λ (modifier : Option Modifier). option_or (option_map prefixes.Modifier modifier) (option_map prefixes.Repetition (repetition_named word))) no_modifier
      ∙ ap (λ (repetition : Option Repetition). option_map prefixes.Repetition repetition) no_repetition
