-- A link reads what its target reads.
use Rattle.std.proofs.Common.{◌≡◌, ◌≢◌, ℕ, zero, suc, ◌<◌, ◌≤◌, Bool, true, false, not, ◌&&◌, nat_eq, if◌then◌else◌, codes, List, [], drop, length, Option, None, Some, is_none, Ok, Err, option_and_then, refl, ap, ◌∙◌, arith}
use Rattle.std.specs.List.{starts_with}
use Rattle.std.proofs.lemmas.List.{get_or-set_other}
use Rattle.tcl_vars.specs.declared.content.Content.TheVariants.{Link}
use Rattle.tcl_text.specs.declared.fault.LinkFault.TheVariants as links
use Rattle.tcl_vars.specs.Name.{Place, element_of, place_of_parts, place_in_frame, place_of}
use Rattle.tcl_vars.specs.Links.{LinksDescend}
use Rattle.tcl_vars.specs.Store.{Store, frame_at, content_at, with_content, link_of, indexed, led_by, led, end_of, place_in, text_of, text_at, variable_in, is_plain_name, holds_value, variable_place, within_variables, with_link}
use Rattle.tcl_vars.specs.Table.{value_at, with_value}
use Rattle.tcl_vars.proofs.LinkLemmas.{led_enough, next_below, place_of-level}
use Rattle.tcl_vars.proofs.LawLemmas.{content_at-there, led-level, within_variables-is}

-- a plain name points to its own variable
place_of-plain : (level : ℕ) (name : List ℕ) → is_plain_name name ≡ true → place_of level name ≡ variable_place level name
place_of-plain level name plain = by (starts_with nat_eq name (codes "::")) (element_of name) plain
  where
    by : (b : Bool) (parts : Option (List ℕ × List ℕ)) → (not b && is_none parts) ≡ true
        → (if b then place_in_frame 0 (drop 2 name) else place_of_parts level name parts) ≡ variable_place level name
    by true parts h = absurd (cc)
    by false None h = refl
    by false (Some parts) h = absurd (cc)

module _ (store : Store) (down : LinksDescend store) (level : ℕ) (within : level < length store) (name : List ℕ) (to_level : ℕ) (to_name : List ℕ) (earlier : to_level < level) where
  linked : Store
  linked = with_content store (variable_place level name) (Link to_level to_name)

  -- earlier frames are as before
  content_at-below : (place : Place) → place.frame < level → content_at linked place ≡ content_at store place
  unfolding linked
  content_at-below place low =
      let apart : place.frame ≢ level = omega arith in
      ap (λ f. value_at f place.variable) (get_or-set_other store level place.frame (with_value (frame_at store level) name (Link to_level to_name)) [] apart)

  led-below : (n : ℕ) (place : Place) → place.frame < level → led linked n place ≡ led store n place
  unfolding led
  led-below zero place low = refl
  led-below (suc n) place low =
      ap (λ c. led_by place (link_of c) (λ next. led linked n next)) (content_at-below place low)
      ∙ by (link_of (content_at store place)) refl (λ next h. led-below n next h)
    where
      next_of : (link : ℕ × List ℕ) → link_of (content_at store place) ≡ Some link → (o : Option Place) → indexed (place_of link.0 link.1) place.element ≡ o
          → ((next : Place) → next.frame < level → led linked n next ≡ led store n next)
          → option_and_then (λ next. led linked n next) o ≡ option_and_then (λ next. led store n next) o
      next_of link held None is ih = refl
      next_of link held (Some next) is ih = ih next (let lower : next.frame < place.frame = next_below store down place next link held is in omega arith)

      by : (l : Option (ℕ × List ℕ)) → link_of (content_at store place) ≡ l → ((next : Place) → next.frame < level → led linked n next ≡ led store n next)
          → led_by place l (λ next. led linked n next) ≡ led_by place l (λ next. led store n next)
      by None held ih = refl
      by (Some link) held ih = next_of link held (indexed (place_of link.0 link.1) place.element) refl ih

  -- the link leads where its target does
  end_of-linked : end_of linked (variable_place level name) ≡ place_in store to_level to_name
  unfolding led linked
  end_of-linked = by level refl
    where
      target : (place_of to_level to_name).frame ≤ to_level
      target = place_of-level to_level to_name

      by : (n : ℕ) → level ≡ n → led linked n (variable_place level name) ≡ place_in store to_level to_name
      by zero e = absurd (omega arith)
      by (suc n) e =
          ap (λ c. led_by (variable_place level name) (link_of c) (λ next. led linked n next)) (content_at-there store (variable_place level name) within (Link to_level to_name))
          ∙ led-below n (place_of to_level to_name) (omega (arith, target))
          ∙ led_enough store down n (place_of to_level to_name).frame (place_of to_level to_name) (omega (arith, target)) (omega arith)

  text_at-linked : text_at linked (place_in store to_level to_name) ≡ text_at store (place_in store to_level to_name)
  text_at-linked = by (place_in store to_level to_name) refl
    where
      by : (o : Option Place) → place_in store to_level to_name ≡ o → text_at linked o ≡ text_at store o
      by None e = refl
      by (Some end) e =
          ap (λ c. text_of c end.element)
          (content_at-below end (omega (arith, led-level store down (place_of to_level to_name).frame (place_of to_level to_name) end e, place_of-level to_level to_name)))

  pub variable_in-with_link : (new : Store) → with_link store level name to_level to_name ≡ Ok new → variable_in new level name ≡ variable_in store to_level to_name
  unfolding with_link variable_in linked
  variable_in-with_link new e = by (is_plain_name name) refl (holds_value (content_at store (variable_place level name))) e
    where
      by : (plain : Bool) → is_plain_name name ≡ plain → (holds : Bool)
          → (if not plain then Err links.BadName
          else if holds then Err links.Exists
          else within_variables links.Full (with_content store (variable_place level name) (Link to_level to_name))) ≡ Ok new
          → text_at new (place_in new level name) ≡ text_at store (place_in store to_level to_name)
      by false plain holds h = absurd (cc)
      by true plain true h = absurd (cc)
      by true plain false h =
          ap (λ s. text_at s (place_in s level name)) (within_variables-is links.Full linked new h)
          ∙ ap (λ p. text_at linked (end_of linked p)) (place_of-plain level name plain)
          ∙ ap (text_at linked) end_of-linked ∙ text_at-linked
