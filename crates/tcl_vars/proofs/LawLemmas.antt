-- Laws of the store: the frames stay, and what is set is read.
use Rattle.std.proofs.Common.{◌≡◌, ◌≢◌, ℕ, zero, suc, ◌<◌, ◌≤◌, Bool, true, false, cond, nat_eq, nat_le, not, MatchBool, if◌then◌else◌, List, [], ◌∷◌, length, set, Option, None, Some, Ok, Err, Result, option_and_then, bytes_eq, ◌⊎◌, inl, inr, refl, sym, ap, ◌∙◌, arith, length-set, ok_or, le_refl}
use Rattle.std.specs.Bool.{OnTrue}
use Rattle.std.specs.Cmp.Lexicographic.{bytes_decides}
use Rattle.std.proofs.lemmas.List.{get_or-set_other}
use Rattle.std.proofs.lemmas.Grind.{get_or-set_at}
use Rattle.std.proofs.lemmas.Bool.Decides.{eqb_tells}
use Rattle.tcl_vars.specs.declared.content.Content.{Content}
use Rattle.tcl_vars.specs.declared.content.Content.TheVariants.{Scalar, Array, Link}
use Rattle.tcl_text.specs.declared.fault.ReadFault.TheVariants as reads
use Rattle.tcl_text.specs.declared.fault.SetFault.{SetFault}
use Rattle.tcl_text.specs.declared.fault.SetFault.TheVariants as sets
use Rattle.tcl_text.specs.declared.fault.UnsetFault.{UnsetFault}
use Rattle.tcl_text.specs.declared.fault.LinkFault.TheVariants as links
use Rattle.tcl_vars.specs.Name.{Place, place_of}
use Rattle.tcl_vars.specs.Links.{LinksDescend}
use Rattle.tcl_vars.specs.Store.{Store, Frame, frame_with_rest, frame_at, content_at, with_content, variable_count, link_of, indexed, led_by, led, end_of, place_in, element_place_in, text_of, text_at, content_with, within_variables, with_new_content, with_text_at, with_variable, with_element, content_without, with_rest, without_text_at, without_variable, array_state, with_array_of, with_array_at, with_array, is_plain_name, holds_value, variable_place, with_link, is_there, is_there_at}
use Rattle.tcl_vars.specs.Table.{value_at, with_value}
use Rattle.tcl_vars.specs.Unset.{UnsetsText, Unsets, IsGone}
use Rattle.tcl_vars.proofs.LinkLemmas.{led-end, next_below}
use Rattle.tcl_vars.proofs.TableLemmas.{value_at-with_value, value_at-without-other, bytes_eq-refl}

-- the frames stay

pub within_variables-is : {F : Type 0} (full : F) (store new : Store) → within_variables full store ≡ Ok new → new ≡ store
within_variables-is full store new e = by (nat_le (variable_count store) 4096) e
  where
    by : (b : Bool) → (if b then Ok store else Err full) ≡ Ok new → new ≡ store
    by true h = cc
    by false h = absurd (cc)

new_content-is : (store : Store) (place : Place) (r : Result Content SetFault) (new : Store) → with_new_content store place r ≡ Ok new
    → (content : Content) × (r ≡ Ok content) × (new ≡ with_content store place content)
new_content-is store place (Ok content) new e = (content, refl, within_variables-is sets.Full (with_content store place content) new e)
new_content-is store place (Err fault) new e = absurd (cc)

module _ (store new : Store) where
  length-with_text_at : (end : Option Place) (value : List ℕ) → with_text_at store end value ≡ Ok new → length new ≡ length store
  length-with_text_at None value e = absurd (cc)
  length-with_text_at (Some end) value e =
      let is = new_content-is store end (content_with (content_at store end) end.element value) new e in
      ap length is.2 ∙ length-set store end.frame _

  pub length-with_variable : (level : ℕ) (name value : List ℕ) → with_variable store level name value ≡ Ok new → length new ≡ length store
  unfolding with_variable
  length-with_variable level name value e = length-with_text_at (place_in store level name) value e

  pub length-with_element : (level : ℕ) (name index value : List ℕ) → with_element store level name index value ≡ Ok new → length new ≡ length store
  unfolding with_element
  length-with_element level name index value e = length-with_text_at (element_place_in store level name index) value e

  length-with_rest : (place : Place) (r : Result (Option Content) UnsetFault) → with_rest store place r ≡ Ok new → length new ≡ length store
  length-with_rest place (Ok rest) e = let is : new ≡ set store place.frame (frame_with_rest (frame_at store place.frame) place.variable rest) = cc in ap length is ∙ length-set store place.frame _
  length-with_rest place (Err fault) e = absurd (cc)

  length-without_text_at : (end : Option Place) → without_text_at store end ≡ Ok new → length new ≡ length store
  length-without_text_at None e = absurd (cc)
  length-without_text_at (Some end) e = length-with_rest end (content_without (content_at store end) end.element) e

  pub length-without_variable : (level : ℕ) (name : List ℕ) → without_variable store level name ≡ Ok new → length new ≡ length store
  unfolding without_variable
  length-without_variable level name e = length-without_text_at (place_in store level name) e

  length-with_array_of : (place : Place) (state : Option Bool) → with_array_of store place state ≡ Ok new → length new ≡ length store
  length-with_array_of place None e = absurd (cc)
  length-with_array_of place (Some true) e = let is : new ≡ store = cc in ap length is
  length-with_array_of place (Some false) e =
      ap length (within_variables-is sets.Full (with_content store place (Array [])) new e) ∙ length-set store place.frame _

  length-with_array_at : (end : Option Place) → with_array_at store end ≡ Ok new → length new ≡ length store
  length-with_array_at None e = absurd (cc)
  length-with_array_at (Some end) e = length-with_array_of end (array_state (content_at store end) end.element) e

  pub length-with_array : (level : ℕ) (name : List ℕ) → with_array store level name ≡ Ok new → length new ≡ length store
  unfolding with_array
  length-with_array level name e = length-with_array_at (place_in store level name) e

  pub length-with_link : (level : ℕ) (name : List ℕ) (to_level : ℕ) (to_name : List ℕ) → with_link store level name to_level to_name ≡ Ok new → length new ≡ length store
  unfolding with_link
  length-with_link level name to_level to_name e = by (is_plain_name name) (holds_value (content_at store (variable_place level name))) e
    where
      by : (plain holds : Bool)
          → (if not plain then Err links.BadName
          else if holds then Err links.Exists
          else within_variables links.Full (with_content store (variable_place level name) (Link to_level to_name))) ≡ Ok new
          → length new ≡ length store
      by false holds h = absurd (cc)
      by true true h = absurd (cc)
      by true false h =
          ap length (within_variables-is links.Full (with_content store (variable_place level name) (Link to_level to_name)) new h) ∙ length-set store level _

-- what is set is read

-- the text of a content that was given one
text_of-content_with : (held : Option Content) (element : Option (List ℕ)) (value : List ℕ) (content : Content) → content_with held element value ≡ Ok content
    → text_of (Some content) element ≡ Ok value
text_of-content_with None None value content e = let is : content ≡ Scalar value = cc in ap (λ c. text_of (Some c) None) is
text_of-content_with None (Some index) value content e =
    let is : content ≡ Array ((index, value) ∷ []) = cc in
    ap (λ c. text_of (Some c) (Some index)) is ∙ ap (λ b. ok_or (cond b (Some value) None) reads.NoElement) (bytes_eq-refl index)
text_of-content_with (Some (Scalar text)) None value content e = let is : content ≡ Scalar value = cc in ap (λ c. text_of (Some c) None) is
text_of-content_with (Some (Scalar text)) (Some index) value content e = absurd (cc)
text_of-content_with (Some (Array elements)) None value content e = absurd (cc)
text_of-content_with (Some (Array elements)) (Some index) value content e =
    let is : content ≡ Array (with_value elements index value) = cc in
    ap (λ c. text_of (Some c) (Some index)) is
    ∙ ap (λ o. ok_or o reads.NoElement) (value_at-with_value index value elements index)
    ∙ ap (λ b. ok_or (cond b (Some value) (value_at elements index)) reads.NoElement) (bytes_eq-refl index)
text_of-content_with (Some (Link level name)) element value content e = absurd (cc)

content_with-linkless : (held : Option Content) (element : Option (List ℕ)) (value : List ℕ) (content : Content) → content_with held element value ≡ Ok content → link_of (Some content) ≡ None
content_with-linkless None None value content e = let is : content ≡ Scalar value = cc in ap (λ c. link_of (Some c)) is
content_with-linkless None (Some index) value content e = let is : content ≡ Array ((index, value) ∷ []) = cc in ap (λ c. link_of (Some c)) is
content_with-linkless (Some (Scalar text)) None value content e = let is : content ≡ Scalar value = cc in ap (λ c. link_of (Some c)) is
content_with-linkless (Some (Scalar text)) (Some index) value content e = absurd (cc)
content_with-linkless (Some (Array elements)) None value content e = absurd (cc)
content_with-linkless (Some (Array elements)) (Some index) value content e = let is : content ≡ Array (with_value elements index value) = cc in ap (λ c. link_of (Some c)) is
content_with-linkless (Some (Link level name)) element value content e = absurd (cc)

led_by-same : (place : Place) (link : Option (ℕ × List ℕ)) (f g : Place → Option Place) → ((next : Place) → f next ≡ g next) → led_by place link f ≡ led_by place link g
led_by-same place None f g h = refl
led_by-same place (Some link) f g h = by (indexed (place_of link.0 link.1) place.element)
  where
    by : (o : Option Place) → option_and_then f o ≡ option_and_then g o
    by None = refl
    by (Some next) = h next

module _ (store : Store) (end : Place) (within : end.frame < length store) (content : Content) where
  -- the content of a variable after another, or this one, is given one
  content_at-with_content : (place : Place) → content_at (with_content store end content) place
      ≡ (if nat_eq place.frame end.frame then cond (bytes_eq place.variable end.variable) (Some content) (content_at store place) else content_at store place)
  content_at-with_content place = by (eqb_tells place.frame end.frame)
    where
      by : ((nat_eq place.frame end.frame ≡ true) × (place.frame ≡ end.frame)) ⊎ ((nat_eq place.frame end.frame ≡ false) × (place.frame ≢ end.frame)) → content_at (with_content store end content) place
          ≡ (if nat_eq place.frame end.frame then cond (bytes_eq place.variable end.variable) (Some content) (content_at store place) else content_at store place)
      by (inl here) =
          ap (λ f. value_at f place.variable) (get_or-set_at store end.frame place.frame (with_value (frame_at store end.frame) end.variable content) [] here.1 within)
          ∙ value_at-with_value end.variable content (frame_at store end.frame) place.variable
          ∙ ap (λ l. cond (bytes_eq place.variable end.variable) (Some content) (value_at (frame_at store l) place.variable)) (sym here.1)
          ∙ ap (λ b. if b then cond (bytes_eq place.variable end.variable) (Some content) (content_at store place) else content_at store place) (sym here.0)
      by (inr there) =
          ap (λ f. value_at f place.variable) (get_or-set_other store end.frame place.frame (with_value (frame_at store end.frame) end.variable content) [] there.1)
          ∙ ap (λ b. if b then cond (bytes_eq place.variable end.variable) (Some content) (content_at store place) else content_at store place) (sym there.0)

  pub content_at-there : content_at (with_content store end content) end ≡ Some content
  content_at-there =
      content_at-with_content end
      ∙ ap (λ b. if b then cond (bytes_eq end.variable end.variable) (Some content) (content_at store end) else content_at store end) (by (eqb_tells end.frame end.frame))
      ∙ ap (λ b. cond b (Some content) (content_at store end)) (bytes_eq-refl end.variable)
    where
      by : ((nat_eq end.frame end.frame ≡ true) × (end.frame ≡ end.frame)) ⊎ ((nat_eq end.frame end.frame ≡ false) × (end.frame ≢ end.frame)) → nat_eq end.frame end.frame ≡ true
      by (inl here) = here.0
      by (inr there) = absurd (there.1 refl)

  module _ (was : link_of (content_at store end) ≡ None) (now : link_of (Some content) ≡ None) where
    -- the links are as before
    link_of-with_content : (place : Place) → link_of (content_at (with_content store end content) place) ≡ link_of (content_at store place)
    link_of-with_content place = ap link_of (content_at-with_content place) ∙ by (eqb_tells place.frame end.frame)
      where
        same : place.frame ≡ end.frame → bytes_eq place.variable end.variable ≡ true → link_of (content_at store place) ≡ None
        same l v =
            ap (λ m. link_of (value_at (frame_at store m) place.variable)) l
            ∙ ap (λ n. link_of (value_at (frame_at store end.frame) n)) ((bytes_decides place.variable end.variable).0 v) ∙ was

        pick : (b : Bool) → (b ≡ true → link_of (content_at store place) ≡ None) → link_of (cond b (Some content) (content_at store place)) ≡ link_of (content_at store place)
        pick true h = now ∙ sym (h refl)
        pick false h = refl

        by : ((nat_eq place.frame end.frame ≡ true) × (place.frame ≡ end.frame)) ⊎ ((nat_eq place.frame end.frame ≡ false) × (place.frame ≢ end.frame))
            → link_of (if nat_eq place.frame end.frame then cond (bytes_eq place.variable end.variable) (Some content) (content_at store place) else content_at store place)
            ≡ link_of (content_at store place)
        by (inl here) =
            ap (λ b. link_of (if b then cond (bytes_eq place.variable end.variable) (Some content) (content_at store place) else content_at store place)) here.0
            ∙ pick (bytes_eq place.variable end.variable) (same here.1)
        by (inr there) =
            ap (λ b. link_of (if b then cond (bytes_eq place.variable end.variable) (Some content) (content_at store place) else content_at store place)) there.0

    -- and lead where they led
    pub led-with_content : (n : ℕ) (place : Place) → led (with_content store end content) n place ≡ led store n place
    unfolding led
    led-with_content zero place = refl
    led-with_content (suc n) place =
        ap (λ l. led_by place l (λ next. led (with_content store end content) n next)) (link_of-with_content place)
        ∙ led_by-same place (link_of (content_at store place)) (λ next. led (with_content store end content) n next) (λ next. led store n next) (led-with_content n)

-- a place leads no further from the global frame than it is
pub led-level : (store : Store) → LinksDescend store → (n : ℕ) (place end : Place) → led store n place ≡ Some end → end.frame ≤ place.frame
unfolding led
led-level store down zero place end e = let same : place ≡ end = cc in omega (arith, ap (λ p. p.frame) same)
led-level store down (suc n) place end e = by (link_of (content_at store place)) refl e (λ next h. led-level store down n next end h)
  where
    next_of : (link : ℕ × List ℕ) → link_of (content_at store place) ≡ Some link → (o : Option Place) → indexed (place_of link.0 link.1) place.element ≡ o
        → option_and_then (λ next. led store n next) o ≡ Some end → ((next : Place) → led store n next ≡ Some end → end.frame ≤ next.frame) → end.frame ≤ place.frame
    next_of link held None is h ih = absurd (cc)
    next_of link held (Some next) is h ih = omega (arith, ih next h, next_below store down place next link held is)

    by : (l : Option (ℕ × List ℕ)) → link_of (content_at store place) ≡ l → led_by place l (λ next. led store n next) ≡ Some end
        → ((next : Place) → led store n next ≡ Some end → end.frame ≤ next.frame) → end.frame ≤ place.frame
    by None held h ih = let same : place ≡ end = cc in omega (arith, ap (λ p. p.frame) same)
    by (Some link) held h ih = next_of link held (indexed (place_of link.0 link.1) place.element) refl h ih

-- a text that is set is read
pub text_at-with_text_at : (store : Store) → LinksDescend store → (place : Place) → place.frame < length store → (value : List ℕ) (new : Store)
    → with_text_at store (end_of store place) value ≡ Ok new → text_at new (end_of new place) ≡ Ok value
text_at-with_text_at store down place within value new e = by (end_of store place) refl e
  where
    by : (o : Option Place) → end_of store place ≡ o → with_text_at store o value ≡ Ok new → text_at new (end_of new place) ≡ Ok value
    by None leads h = absurd (cc)
    by (Some end) leads h =
        let is = new_content-is store end (content_with (content_at store end) end.element value) new h in
        let low : end.frame < length store = omega (arith, led-level store down place.frame place end leads) in
        let linkless = content_with-linkless (content_at store end) end.element value is.0 is.1 in
        ap (λ s. text_at s (end_of s place)) is.2
        ∙ ap (text_at (with_content store end is.0)) (led-with_content store end low is.0 (led-end store down place.frame place end (le_refl _) leads) linkless place.frame place ∙ leads)
        ∙ ap (λ c. text_of c end.element) (content_at-there store end low is.0)
        ∙ text_of-content_with (content_at store end) end.element value is.0 is.1

-- what is unset is gone

-- stores with the same links lead alike
led-same : (old new : Store) → ((place : Place) → link_of (content_at new place) ≡ link_of (content_at old place)) → (n : ℕ) (place : Place) → led new n place ≡ led old n place
unfolding led
led-same old new same zero place = refl
led-same old new same (suc n) place =
    ap (λ l. led_by place l (λ next. led new n next)) (same place)
    ∙ led_by-same place (link_of (content_at old place)) (λ next. led new n next) (λ next. led old n next) (led-same old new same n)

pub is_there_at-IsGone : (old new : Store) (place end : Place) → end_of old place ≡ Some end → IsGone old new end → is_there_at new (end_of new place) ≡ false
is_there_at-IsGone old new place end leads gone =
    ap (is_there_at new) (led-same old new gone.links place.frame place ∙ leads) ∙ gone.gone

-- the links of a frame in which one name, which is no link before and after, has changed
SameElsewhere : Frame → List ℕ → Frame → Type 0
SameElsewhere old name new = (other : List ℕ) → bytes_eq other name ≡ false → value_at new other ≡ value_at old other

-- a store in which the text of a place is unset
pub IsGone-set : (store : Store) (place : Place) → place.frame < length store → (removed : ℕ) (new : Frame) → UnsetsText (frame_at store place.frame) place removed new
    → IsGone store (set store place.frame new) place
unfolding SameElsewhere
IsGone-set store place within removed new unsets = record {
  gone = ap (λ f. is_there (value_at f place.variable) place.element) (get_or-set_at store place.frame place.frame new [] refl within) ∙ unsets.gone;
  links = links;
}
  where
    elsewhere : SameElsewhere (frame_at store place.frame) place.variable new
    elsewhere other differs =
        ap (λ f. value_at f other) unsets.frame ∙ by unsets.rest
      where
        by : (rest : Option Content) → value_at (frame_with_rest (frame_at store place.frame) place.variable rest) other ≡ value_at (frame_at store place.frame) other
        by None = value_at-without-other (frame_at store place.frame) place.variable other differs
        by (Some content) = value_at-with_value place.variable content (frame_at store place.frame) other ∙ ap (λ b. cond b (Some content) (value_at (frame_at store place.frame) other)) differs

    links : (other : Place) → link_of (content_at (set store place.frame new) other) ≡ link_of (content_at store other)
    links other = level_by (eqb_tells other.frame place.frame)
      where
        name_by : (b : Bool) → bytes_eq other.variable place.variable ≡ b → link_of (value_at new other.variable) ≡ link_of (value_at (frame_at store place.frame) other.variable)
        name_by true is =
            let same : other.variable ≡ place.variable = (bytes_decides other.variable place.variable).0 is in
            ap (λ n. link_of (value_at new n)) same ∙ unsets.linkless_then ∙ sym (ap (λ n. link_of (value_at (frame_at store place.frame) n)) same ∙ unsets.linkless)
        name_by false is = ap link_of (elsewhere other.variable is)

        level_by : ((nat_eq other.frame place.frame ≡ true) × (other.frame ≡ place.frame)) ⊎ ((nat_eq other.frame place.frame ≡ false) × (other.frame ≢ place.frame))
            → link_of (content_at (set store place.frame new) other) ≡ link_of (content_at store other)
        level_by (inl here) =
            ap (λ f. link_of (value_at f other.variable)) (get_or-set_at store place.frame other.frame new [] here.1 within)
            ∙ name_by (bytes_eq other.variable place.variable) refl
            ∙ ap (λ l. link_of (value_at (frame_at store l) other.variable)) (sym here.1)
        level_by (inr there) = ap (λ f. link_of (value_at f other.variable)) (get_or-set_other store place.frame other.frame new [] there.1)

-- where links end the text is gone
pub gone_at_end : (store new : Store) (place : Place) (done : Bool) → link_of (content_at store place) ≡ None
    → MatchBool done (Unsets store place (Ok new)) ((link_of (content_at store place) ≢ None) × (new ≡ store)) → OnTrue done (IsGone store new place) → IsGone store new place
gone_at_end store new place true linkless h gone = gone
gone_at_end store new place false linkless h gone = absurd (h.0 linkless)
