-- Modifiers, written one behind another.
use Rattle.std.proofs.Common.{◌≡◌, ℕ, ◌+◌, ◌<◌, List, [], ◌∷◌, ◌++◌, take, get_or, sym, ap, ◌∙◌}
use Rattle.std.specs.List.{flat_map}
use Rattle.std.proofs.lemmas.List.{flat_map_more, take_more}
use Rattle.tk_sequences.specs.Modifiers.{all_modifiers}
use Rattle.tk_sequences.specs.Writing.{modifier_written}
use Rattle.tk_sequences.specs.declared.modifier.Modifier.{Modifier}
use Rattle.tk_sequences.specs.declared.modifier.Modifier.TheVariants.{Control}

pub held_more : (held : ℕ) (before now new : List ℕ) (i : ℕ) → i < 13 → now ≡ before ++ flat_map (modifier_written held) (take i all_modifiers)
    → new ≡ now ++ modifier_written held (get_or all_modifiers i Control) → new ≡ before ++ flat_map (modifier_written held) (take (i + 1) all_modifiers)
held_more held before now new i within so_far more =
    more ∙ ap (λ (text : List ℕ). text ++ modifier_written held (get_or all_modifiers i Control)) so_far
    ∙ flat_map_more (modifier_written held) before (take i all_modifiers) (get_or all_modifiers i Control)
    ∙ ap (λ (modifiers : List Modifier). before ++ flat_map (modifier_written held) modifiers) (sym (take_more all_modifiers i Control within))
