-- Links and arrays that are made.
use Rattle.std.proofs.Common.{◌≡◌, ℕ, ◌<◌, ◌≤◌, Bool, true, false, not, if◌then◌else◌, List, [], Option, None, Some, Ok, Err, Result, sym, ap, ◌∙◌}
use Rattle.tcl_vars.specs.declared.content.Content.TheVariants.{Array, Link}
use Rattle.tcl_text.specs.declared.fault.LinkFault.{LinkFault}
use Rattle.tcl_text.specs.declared.fault.LinkFault.TheVariants as links
use Rattle.tcl_text.specs.declared.fault.SetFault.TheVariants as sets
use Rattle.tcl_vars.specs.Name.{Place}
use Rattle.tcl_vars.specs.Store.{Store, content_at, with_content, variable_count, within_variables, is_plain_name, holds_value, variable_place, with_link, place_in, array_state, with_array_of, with_array_at, with_array}
use Rattle.tcl_vars.proofs.StoreLemmas.{within_variables-ok, within_variables-full}

module _ (store : Store) (level : ℕ) (name : List ℕ) (to_level : ℕ) (to_name : List ℕ) where
  -- what a link gives by its two tests
  abbrev outcome : Bool → Bool → Result Store LinkFault
  outcome plain holds =
      if not plain then Err links.BadName
      else if holds then Err links.Exists
      else within_variables links.Full (with_content store (variable_place level name) (Link to_level to_name))

  with_link-tests : (plain holds : Bool) → is_plain_name name ≡ plain → holds_value (content_at store (variable_place level name)) ≡ holds
      → with_link store level name to_level to_name ≡ outcome plain holds
  unfolding with_link
  with_link-tests plain holds p h =
      ap (λ b. outcome b (holds_value (content_at store (variable_place level name)))) p ∙ ap (outcome plain) h

  pub with_link-bad : is_plain_name name ≡ false → with_link store level name to_level to_name ≡ Err links.BadName
  with_link-bad p = with_link-tests false (holds_value (content_at store (variable_place level name))) p (λ _. holds_value (content_at store (variable_place level name)))

  module _ (place : Place) (at : place ≡ variable_place level name) (plain : is_plain_name name ≡ true) where
    pub with_link-exists : holds_value (content_at store place) ≡ true → with_link store level name to_level to_name ≡ Err links.Exists
    with_link-exists h = with_link-tests true true plain (ap (λ p. holds_value (content_at store p)) (sym at) ∙ h)

    module _ (free : holds_value (content_at store place) ≡ false) where
      made : with_link store level name to_level to_name ≡ within_variables links.Full (with_content store place (Link to_level to_name))
      made =
          with_link-tests true false plain (ap (λ p. holds_value (content_at store p)) (sym at) ∙ free)
          ∙ ap (λ p. within_variables links.Full (with_content store p (Link to_level to_name))) (sym at)

      pub with_link-ok : (new : Store) → new ≡ with_content store place (Link to_level to_name) → variable_count new ≤ 4096 → with_link store level name to_level to_name ≡ Ok new
      with_link-ok new is low = made ∙ ap (within_variables links.Full) (sym is) ∙ within_variables-ok links.Full new low

      pub with_link-full : 4096 < variable_count (with_content store place (Link to_level to_name)) → with_link store level name to_level to_name ≡ Err links.Full
      with_link-full high = made ∙ within_variables-full links.Full (with_content store place (Link to_level to_name)) high

module _ (store : Store) (level : ℕ) (name : List ℕ) where
  -- an array where the name leads nowhere
  pub with_array-nowhere : place_in store level name ≡ None → with_array store level name ≡ Err sets.NotArray
  unfolding with_array
  with_array-nowhere nowhere = ap (with_array_at store) nowhere

  module _ (place : Place) (leads : place_in store level name ≡ Some place) where
    -- an array where it leads, by what is there
    pub with_array-state : (state : Option Bool) → array_state (content_at store place) place.element ≡ state → with_array store level name ≡ with_array_of store place state
    unfolding with_array
    with_array-state state is = ap (with_array_at store) leads ∙ ap (with_array_of store place) is

    module _ (absent : array_state (content_at store place) place.element ≡ Some false) where
      pub with_array-ok : (new : Store) → new ≡ with_content store place (Array []) → variable_count new ≤ 4096 → with_array store level name ≡ Ok new
      with_array-ok new is low = with_array-state (Some false) absent ∙ ap (within_variables sets.Full) (sym is) ∙ within_variables-ok sets.Full new low

      pub with_array-full : 4096 < variable_count (with_content store place (Array [])) → with_array store level name ≡ Err sets.Full
      with_array-full high = with_array-state (Some false) absent ∙ within_variables-full sets.Full (with_content store place (Array [])) high
