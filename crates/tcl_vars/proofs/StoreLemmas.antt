-- Setting a text in a store, by what it does in the frame.
use Rattle.std.proofs.Common.{◌≡◌, ◌≢◌, ℕ, ◌+◌, ◌-◌, ◌<◌, ◌≤◌, true, false, nat_le, nat_eq, if◌then◌else◌, List, [], length, set, Option, None, Some, Ok, Err, Result, sym, ap, ◌∙◌, arith}
use Rattle.std.proofs.Common.{◌⊎◌, inl, inr, MatchOption, length-set, subst}
use Rattle.std.proofs.lemmas.List.{get_or-set_other}
use Rattle.std.proofs.lemmas.Grind.{get_or-set_at}
use Rattle.std.proofs.lemmas.Bool.{true_from_ne_false, false_from_ne_true}
use Rattle.std.proofs.lemmas.Bool.Decides.{eqb_tells, nat_tests}
use Rattle.std.proofs.lemmas.List.Sums.{sum_by-set}
use Rattle.tcl_text.specs.declared.fault.SetFault.{SetFault}
use Rattle.tcl_vars.specs.Name.{Place}
use Rattle.tcl_vars.specs.Put.{PutsText, Sets}
use Rattle.tcl_vars.specs.Sound.{IsSound}
use Rattle.tcl_vars.specs.Links.{AllBelow, FramesDescend}
use Rattle.tcl_vars.specs.Store.{Store, Frame, frame_at, content_at, link_of, frame_count, variable_count, within_variables, with_text_at, end_of}
use Rattle.tcl_vars.proofs.BelowLemmas.{AllBelow-with_value, content_with-below}
use Rattle.tcl_vars.proofs.LinkLemmas.{led-here}

module _ (store : Store) (level : ℕ) (within : level < length store) (new : Frame) where
  -- the count of a store in which a frame is replaced
  pub variable_count-set : variable_count (set store level new) + frame_count (frame_at store level) ≡ variable_count store + frame_count new
  variable_count-set = sum_by-set frame_count store level new [] within

  -- the links of a store in which a frame is replaced
  pub FramesDescend-set : FramesDescend store → AllBelow level new → FramesDescend (set store level new)
  FramesDescend-set down below other = by (eqb_tells other level)
    where
      by : ((nat_eq other level ≡ true) × (other ≡ level)) ⊎ ((nat_eq other level ≡ false) × (other ≢ level)) → AllBelow other (frame_at (set store level new) other)
      by (inl here) = subst (AllBelow other) (sym (get_or-set_at store level other new [] here.1 within)) (subst (λ l. AllBelow l new) (sym here.1) below)
      by (inr there) = subst (AllBelow other) (sym (get_or-set_other store level other new [] there.1)) (down other)

-- within the limit, or over it
pub within_variables-ok : {F : Type 0} (full : F) (store : Store) → variable_count store ≤ 4096 → within_variables full store ≡ Ok store
within_variables-ok full store low = ap (λ b. if b then Ok store else Err full) (true_from_ne_false (nat_le (variable_count store) 4096) (λ no. absurd (grind (arith, nat_tests))))

pub within_variables-full : {F : Type 0} (full : F) (store : Store) → 4096 < variable_count store → within_variables full store ≡ Err full
within_variables-full full store high = ap (λ b. if b then Ok store else Err full) (false_from_ne_true (nat_le (variable_count store) 4096) (λ yes. absurd (grind (arith, nat_tests))))

module _ (store : Store) (count : ℕ) (sound : IsSound store count) (place : Place) (within : place.frame < length store) (value : List ℕ) where
  module _ (added : ℕ) (new : Frame) (puts : PutsText (frame_at store place.frame) place value (4096 - count) added new) where
    pub counted-set : count + added ≡ variable_count (set store place.frame new)
    counted-set = omega (arith, variable_count-set store place.frame within new, puts.counted, sound.counted)

    below : AllBelow place.frame new
    below = subst (AllBelow place.frame) (sym puts.frame)
        (AllBelow-with_value place.frame (frame_at store place.frame) place.variable puts.content (sound.descending place.frame)
        (content_with-below place.frame _ place.element value puts.content puts.given))

    -- the store stays sound
    pub IsSound-set : IsSound (set store place.frame new) (count + added)
    IsSound-set = record {
      rooted = omega (arith, sound.rooted, length-set store place.frame new);
      counted = counted-set;
      limited = omega (arith, puts.fits, sound.limited);
      descending = FramesDescend-set store place.frame within new sound.descending below;
    }

module _ (store : Store) (place : Place) (value : List ℕ) where
  -- a place whose variable is no link
  pub with_text_at-direct : (gives : Result Store SetFault) → Sets store place value gives → with_text_at store (end_of store place) value ≡ gives
  with_text_at-direct gives sets = ap (λ p. with_text_at store p value) (led-here store place sets.linkless) ∙ sets.given

  -- a place that leads to another
  pub with_text_at-led : (end : Place) (gives : Result Store SetFault) → end_of store place ≡ Some end → Sets store end value gives → with_text_at store (end_of store place) value ≡ gives
  with_text_at-led end gives leads sets = ap (λ p. with_text_at store p value) leads ∙ sets.given

-- where links end the text is set
pub at_end : (store new : Store) (place : Place) (value : List ℕ) (back : Option (List ℕ)) → link_of (content_at store place) ≡ None
    → MatchOption back (Sets store place value (Ok new)) (λ text. (link_of (content_at store place) ≢ None) × (text ≡ value) × (new ≡ store))
    → Sets store place value (Ok new)
at_end store new place value None linkless h = h
at_end store new place value (Some text) linkless h = absurd (h.0 linkless)
