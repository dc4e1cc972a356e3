-- Unsetting in a frame, by what it does in the content, and in a store, by what it does in the frame.
use Rattle.std.proofs.Common.{◌≡◌, ◌≢◌, ℕ, ◌+◌, ◌-◌, ◌<◌, ◌≤◌, Bool, true, false, cond, not, List, [], ◌∷◌, filter, Option, None, Some, is_some, if◌then◌else◌, MatchBool, Ok, Err, Result, length, set, refl, sym, ap, ◌∙◌, subst, arith, length-set}
use Rattle.tcl_vars.specs.declared.content.Content.{Content}
use Rattle.tcl_vars.specs.declared.content.Content.TheVariants.{Scalar, Array, Link}
use Rattle.tcl_text.specs.declared.fault.UnsetFault.{UnsetFault}
use Rattle.tcl_text.specs.declared.fault.UnsetFault.TheVariants.{NoElement}
use Rattle.std.specs.Str.{chars}
use Rattle.tcl_text.specs.Glob.{glob_matches}
use Rattle.tcl_vars.specs.Name.{Place}
use Rattle.tcl_vars.specs.Sound.{IsSound}
use Rattle.tcl_vars.specs.Links.{IsBelow, AllBelow}
use Rattle.tcl_vars.specs.Store.{Store, Frame, frame_at, content_at, content_count, frame_count, variable_count, content_without, elements_of, frame_with_rest, place_in, without_elements, without_elements_at, without_elements_of, without_text_at, end_of, is_there, link_of}
use Rattle.tcl_vars.specs.Table.{Table, value_at, values_but, with_value, without, weight_of}
use Rattle.tcl_vars.specs.Unset.{UnsetsWhole, UnsetsElement, UnsetsText, Unsets, content_but, frame_but}
use Rattle.tcl_vars.proofs.BelowLemmas.{AllBelow-with_value, AllBelow-without}
use Rattle.tcl_vars.proofs.LinkLemmas.{led-here}
use Rattle.tcl_vars.proofs.StoreLemmas.{variable_count-set, FramesDescend-set}
use Rattle.tcl_vars.proofs.TableLemmas.{value_at-with_value, bytes_eq-refl, weights-with_value, weights-without, with_value-same}

-- what is left of a content is no link
linkless_rest : (held : Content) (element : Option (List ℕ)) (rest : Content) → content_without (Some held) element ≡ Ok (Some rest) → link_of (Some rest) ≡ None
linkless_rest (Scalar text) None rest e = absurd (cc)
linkless_rest (Scalar text) (Some index) rest e = absurd (cc)
linkless_rest (Array elements) None rest e = absurd (cc)
linkless_rest (Array elements) (Some index) rest e = by (is_some (value_at elements index)) e
  where
    by : (b : Bool) → (if b then Ok (Some (Array (without elements index))) else Err NoElement) ≡ Ok (Some rest) → link_of (Some rest) ≡ None
    by true h = let is : rest ≡ Array (without elements index) = cc in ap (λ c. link_of (Some c)) is
    by false h = absurd (cc)
linkless_rest (Link to name) element rest e = absurd (cc)

module _ (frame : Frame) (place : Place) (held : Content) (known : value_at frame place.variable ≡ Some held) where
  -- a whole variable
  pub UnsetsText-whole : (count : ℕ) (new : Content) → UnsetsWhole held place.element count new → (after : Frame) → after ≡ without (with_value frame place.variable new) place.variable
      → value_at after place.variable ≡ None → UnsetsText frame place count after
  UnsetsText-whole count new h after is absent = record {
    linkless = ap link_of known ∙ h.linkless;
    rest = None;
    given = ap (λ o. content_without o place.element) known ∙ h.given;
    frame = gone;
    counted =
        let all : frame_count (without frame place.variable) + weight_of content_count (value_at frame place.variable) ≡ frame_count frame = weights-without content_count frame place.variable in
        omega (arith, rw known at all, h.counted, ap frame_count gone);
    gone = ap (λ o. is_there o place.element) absent;
    linkless_then = ap link_of absent;
  }
    where
      gone : after ≡ without frame place.variable
      gone = is ∙ ap (λ c. without (with_value frame place.variable c) place.variable) h.kept ∙ ap (λ f. without f place.variable) (with_value-same place.variable held frame known)

  -- an element
  pub UnsetsText-element : (new : Content) → UnsetsElement held place.element new → UnsetsText frame place 1 (with_value frame place.variable new)
  UnsetsText-element new h = record {
    linkless = ap link_of known ∙ h.linkless;
    rest = Some new;
    given = ap (λ o. content_without o place.element) known ∙ h.given;
    frame = refl;
    counted =
        let all : frame_count (with_value frame place.variable new) + weight_of content_count (value_at frame place.variable) ≡ frame_count frame + content_count new
        = weights-with_value place.variable new content_count frame in
        omega (arith, rw known at all, h.counted);
    gone = ap (λ o. is_there o place.element) there ∙ h.gone;
    linkless_then = ap link_of there ∙ linkless_rest held place.element new h.given;
  }
    where
      there : value_at (with_value frame place.variable new) place.variable ≡ Some new
      there = value_at-with_value place.variable new frame place.variable ∙ ap (λ b. cond b (Some new) (value_at frame place.variable)) (bytes_eq-refl place.variable)

-- what is left of a content is no link
content_without-below : (level : ℕ) (held : Option Content) (element : Option (List ℕ)) (rest : Content) → content_without held element ≡ Ok (Some rest) → IsBelow level rest
content_without-below level held element (Scalar text) e = tt
content_without-below level held element (Array elements) e = tt
content_without-below level None element (Link to name) e = absurd (cc)
content_without-below level (Some (Scalar text)) None (Link to name) e = absurd (cc)
content_without-below level (Some (Scalar text)) (Some index) (Link to name) e = absurd (cc)
content_without-below level (Some (Array elements)) None (Link to name) e = absurd (cc)
content_without-below level (Some (Array elements)) (Some index) (Link to name) e = by (is_some (value_at elements index)) e
  where
    by : (b : Bool) → (if b then Ok (Some (Array (without elements index))) else Err NoElement) ≡ Ok (Some (Link to name)) → to < level
    by true h = absurd (cc)
    by false h = absurd (cc)
content_without-below level (Some (Link from there)) element (Link to name) e = absurd (cc)

module _ (store : Store) (count : ℕ) (sound : IsSound store count) (place : Place) (within : place.frame < length store) where
  module _ (removed : ℕ) (new : Frame) (unsets : UnsetsText (frame_at store place.frame) place removed new) where
    below : AllBelow place.frame new
    below = subst (AllBelow place.frame) (sym unsets.frame) (by unsets.rest unsets.given)
      where
        by : (rest : Option Content) → content_without (value_at (frame_at store place.frame) place.variable) place.element ≡ Ok rest
            → AllBelow place.frame (frame_with_rest (frame_at store place.frame) place.variable rest)
        by None e = AllBelow-without place.frame (frame_at store place.frame) place.variable (sound.descending place.frame)
        by (Some content) e =
            AllBelow-with_value place.frame (frame_at store place.frame) place.variable content (sound.descending place.frame)
            (content_without-below place.frame _ place.element content e)

    counted-set : variable_count (set store place.frame new) + removed ≡ count
    counted-set = omega (arith, variable_count-set store place.frame within new, unsets.counted, sound.counted)

    -- the store stays sound
    pub IsSound-unset : IsSound (set store place.frame new) (count - removed)
    IsSound-unset = record {
      rooted = omega (arith, sound.rooted, length-set store place.frame new);
      counted = omega (arith, counted-set);
      limited = omega (arith, sound.limited);
      descending = FramesDescend-set store place.frame within new sound.descending below;
    }

module _ (store : Store) (place : Place) (gives : Result Store UnsetFault) where
  -- a place whose variable is no link
  pub without_text_at-direct : Unsets store place gives → without_text_at store (end_of store place) ≡ gives
  without_text_at-direct unsets = ap (without_text_at store) (led-here store place unsets.linkless) ∙ unsets.given

  -- a place that leads to another
  pub without_text_at-led : (end : Place) → end_of store place ≡ Some end → Unsets store end gives → without_text_at store (end_of store place) ≡ gives
  without_text_at-led end leads unsets = ap (without_text_at store) leads ∙ unsets.given

-- where links end the text is unset
pub unset_at_end : (store new : Store) (place : Place) (done : Bool) → link_of (content_at store place) ≡ None
    → MatchBool done (Unsets store place (Ok new)) ((link_of (content_at store place) ≢ None) × (new ≡ store)) → Unsets store place (Ok new)
unset_at_end store new place true linkless h = h
unset_at_end store new place false linkless h = absurd (h.0 linkless)

-- ── the elements that match a pattern ──

filter_fewer : {X : Type 0} (test : X → Bool) (xs : List X) → length (filter test xs) ≤ length xs
filter_fewer test [] = omega arith
filter_fewer test (x ∷ xs) = by (test x) (filter_fewer test xs)
  where
    by : (t : Bool) → length (filter test xs) ≤ length xs → length (cond t (x ∷ filter test xs) (filter test xs)) ≤ length (x ∷ xs)
    by true rest = omega (arith, rest)
    by false rest = omega (arith, rest)

pub values_fewer : (pattern : List ℕ) (elements : Table (List ℕ)) → length (values_but pattern elements) ≤ length elements
values_fewer pattern elements = filter_fewer (λ e. not (glob_matches (chars pattern) (chars e.0))) elements

module _ (pattern : List ℕ) (frame : Frame) (variable : List ℕ) where
  but_by : (held : Content) → value_at frame variable ≡ Some held → with_value frame variable (content_but pattern held) ≡ frame_but pattern variable (Some held) frame
  but_by (Scalar text) known = with_value-same variable (Scalar text) frame known
  but_by (Array elements) known = refl
  but_by (Link to name) known = with_value-same variable (Link to name) frame known

  pub frame_but-held : (held : Content) → value_at frame variable ≡ Some held → with_value frame variable (content_but pattern held) ≡ frame_but pattern variable (value_at frame variable) frame
  frame_but-held held known = but_by held known ∙ sym (ap (λ o. frame_but pattern variable o frame) known)

  -- no link comes
  pub AllBelow-but : (level : ℕ) (held : Option Content) → AllBelow level frame → AllBelow level (frame_but pattern variable held frame)
  AllBelow-but level None below = below
  AllBelow-but level (Some (Scalar text)) below = below
  AllBelow-but level (Some (Array elements)) below = AllBelow-with_value level frame variable (Array (values_but pattern elements)) below tt
  AllBelow-but level (Some (Link to name)) below = below

pub frame_but-counted : (frame : Frame) (variable : List ℕ) (held : Content) → value_at frame variable ≡ Some held → (new : Content) (removed : ℕ) → content_count new + removed ≡ content_count held
    → frame_count (with_value frame variable new) + removed ≡ frame_count frame
frame_but-counted frame variable held known new removed counted =
    let all : frame_count (with_value frame variable new) + weight_of content_count (value_at frame variable) ≡ frame_count frame + content_count new
    = weights-with_value variable new content_count frame in
    omega (arith, rw known at all, counted)

module _ (store : Store) (count : ℕ) (sound : IsSound store count) (level : ℕ) (within : level < length store) (pattern variable : List ℕ) (held : Option Content) where
  module _ (removed : ℕ) (new : Frame) (is : new ≡ frame_but pattern variable held (frame_at store level)) (counted : frame_count new + removed ≡ frame_count (frame_at store level)) where
    counted-but : variable_count (set store level new) + removed ≡ count
    counted-but = omega (arith, variable_count-set store level within new, counted, sound.counted)

    -- the store stays sound
    pub IsSound-but : IsSound (set store level new) (count - removed)
    IsSound-but = record {
      rooted = omega (arith, sound.rooted, length-set store level new);
      counted = omega (arith, counted-but);
      limited = omega (arith, sound.limited);
      descending = FramesDescend-set store level within new sound.descending
          (subst (AllBelow level) (sym is) (AllBelow-but pattern (frame_at store level) variable level held (sound.descending level)));
    }

    pub removed-but : removed ≤ count
    removed-but = omega (arith, counted-but)

-- an array is what its elements are the elements of
array_held : (held : Option Content) (element : Option (List ℕ)) (elements : Table (List ℕ)) → elements_of held element ≡ Some elements → held ≡ Some (Array elements)
array_held None element elements e = absurd (cc)
array_held (Some (Scalar text)) element elements e = absurd (cc)
array_held (Some (Array held)) None elements e = let same : held ≡ elements = cc in ap (λ t. Some (Array t)) same
array_held (Some (Array held)) (Some index) elements e = absurd (cc)
array_held (Some (Link to name)) element elements e = absurd (cc)

module _ (store : Store) (frame : ℕ) (name pattern : List ℕ) where
  pub without_elements-nowhere : place_in store frame name ≡ None → store ≡ without_elements store frame name pattern
  unfolding without_elements
  without_elements-nowhere none = sym (ap (without_elements_at store pattern) none)

  pub without_elements-none : (place : Place) → place_in store frame name ≡ Some place → elements_of (content_at store place) place.element ≡ None → store ≡ without_elements store frame name pattern
  unfolding without_elements
  without_elements-none place leads none = sym (ap (without_elements_at store pattern) leads ∙ ap (without_elements_of store pattern place) none)

  pub without_elements-some : (place : Place) → place_in store frame name ≡ Some place → (elements : Table (List ℕ)) → elements_of (content_at store place) place.element ≡ Some elements
      → set store place.frame (frame_but pattern place.variable (content_at store place) (frame_at store place.frame)) ≡ without_elements store frame name pattern
  unfolding without_elements
  without_elements-some place leads elements some =
      ap (λ held. set store place.frame (frame_but pattern place.variable held (frame_at store place.frame))) (array_held (content_at store place) place.element elements some)
      ∙ sym (ap (without_elements_at store pattern) leads ∙ ap (without_elements_of store pattern place) some)
