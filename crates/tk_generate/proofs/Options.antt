-- One option more, and one modifier more.
use Rattle.std.proofs.Common.{◌≡◌, ℕ, ◌+◌, ◌<◌, ◌≤◌, Bool, true, false, cond, List, ◌∷◌, Ok, Result, take, get_or, sym, ap, ◌∙◌, arith}
use Rattle.std.specs.List.{sum_by}
use Rattle.std.proofs.lemmas.List.Sums.{sum_by_more, sum_by_more_le_part}
use Rattle.tcl_text.specs.Answers.{◌>>=◌}
use Rattle.tk_generate.specs.declared.given.GenerateOption.{GenerateOption}
use Rattle.tk_generate.specs.declared.given.Given.{Given}
use Rattle.tk_generate.specs.Fields.{held_bit}
use Rattle.tk_generate.specs.Given.{given_from, option_in, with_value}
use Rattle.tk_sequences.specs.Modifiers.{all_modifiers, has_modifier, modifier_bit}
use Rattle.tk_sequences.specs.declared.modifier.Modifier.{Modifier}
use Rattle.tk_sequences.specs.declared.modifier.Modifier.TheVariants.{Control}

pub option_more : (rest behind later : List (List ℕ)) (name value : List ℕ) (option : GenerateOption) (given more : Given) (all : Result Given (List ℕ))
    → rest ≡ name ∷ behind → behind ≡ value ∷ later → option_in name ≡ Ok option → with_value option name value given ≡ Ok more
    → given_from rest given ≡ all → given_from later more ≡ all
option_more rest behind later name value option given more all rest_is behind_is named valued so_far =
    let then : Given → Result Given (List ℕ) = λ more. given_from later more in
    let step : GenerateOption → Result Given (List ℕ) = λ option. with_value option name value given >>= then in
    ap (λ (r : Result Given (List ℕ)). r >>= then) (sym valued)
    ∙ ap (λ (r : Result GenerateOption (List ℕ)). r >>= step) (sym named)
    ∙ ap (λ (words : List (List ℕ)). given_from (name ∷ words) given) (sym behind_is)
    ∙ ap (λ (words : List (List ℕ)). given_from words given) (sym rest_is)
    ∙ so_far

held_le : (modifiers : ℕ) (modifier : Modifier) → held_bit modifiers modifier ≤ modifier_bit modifier
held_le modifiers modifier = by (has_modifier modifiers modifier)
  where
    by : (b : Bool) → cond b (modifier_bit modifier) 0 ≤ modifier_bit modifier
    by true = omega arith
    by false = omega arith

-- the bits so far and the next one are within those of all modifiers
pub held_within : (modifiers now bit i : ℕ) → i < 13 → now ≡ sum_by (held_bit modifiers) (take i all_modifiers)
    → bit ≡ held_bit modifiers (get_or all_modifiers i Control) → now + bit ≤ 8191
held_within modifiers now bit i within so_far more =
    let all : sum_by (held_bit modifiers) (take i all_modifiers) + modifier_bit (get_or all_modifiers i Control) ≤ 8191 =
    sum_by_more_le_part (held_bit modifiers) modifier_bit all_modifiers i Control within (held_le modifiers) in
    omega (arith, all, held_le modifiers (get_or all_modifiers i Control), so_far, more)

pub held_more : (modifiers now bit i : ℕ) → i < 13 → now ≡ sum_by (held_bit modifiers) (take i all_modifiers)
    → bit ≡ held_bit modifiers (get_or all_modifiers i Control) → now + bit ≡ sum_by (held_bit modifiers) (take (i + 1) all_modifiers)
held_more modifiers now bit i within so_far more =
    ap (λ n. n + bit) so_far ∙ ap (λ n. sum_by (held_bit modifiers) (take i all_modifiers) + n) more
    ∙ sym (sum_by_more (held_bit modifiers) all_modifiers i Control within)
