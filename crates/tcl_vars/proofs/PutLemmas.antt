-- Setting a text in a frame, by what it does in the content.
use Rattle.std.proofs.Common.{◌≡◌, ℕ, ◌+◌, ◌<◌, ◌≤◌, List, [], ◌∷◌, Option, None, Some, Ok, Err, Result, MatchResult, refl, sym, ap, ◌∙◌, subst, arith}
use Rattle.tcl_vars.specs.declared.content.Content.{Content}
use Rattle.tcl_vars.specs.declared.content.Outcome.{Outcome}
use Rattle.tcl_vars.specs.declared.content.Outcome.TheVariants.{Added, Linked}
use Rattle.tcl_vars.specs.declared.content.Content.TheVariants.{Scalar, Array}
use Rattle.tcl_text.specs.declared.fault.SetFault.{SetFault}
use Rattle.tcl_text.specs.declared.fault.SetFault.TheVariants.{Full}
use Rattle.tcl_vars.specs.Name.{Place}
use Rattle.tcl_vars.specs.Put.{PutsText, RefusesText, AfterPut, AfterContent, RefusesContent, IsReason, new_count}
use Rattle.tcl_vars.specs.Store.{Frame, content_count, frame_count, content_with, link_of}
use Rattle.tcl_vars.specs.Table.{value_at, with_value, weight_of}
use Rattle.tcl_vars.proofs.TableLemmas.{weights-with_value, with_value-same}

module _ (frame : Frame) (place : Place) (value : List ℕ) (room : ℕ) (held : Content) (known : value_at frame place.variable ≡ Some held) where
  counts : (new : Content) → frame_count (with_value frame place.variable new) + content_count held ≡ frame_count frame + content_count new
  counts new = ap (λ o. frame_count (with_value frame place.variable new) + weight_of content_count o) (sym known) ∙ weights-with_value place.variable new content_count frame

  -- a text is set in a variable that is there
  pub AfterPut-content : (done : Outcome) (new : Content) → AfterContent held place.element value room done new
      → AfterPut frame place value room done (with_value frame place.variable new)
  AfterPut-content (Added added) new h = record {
    linkless = ap link_of known ∙ h.linkless;
    content = new;
    given = ap (λ o. content_with o place.element value) known ∙ h.given;
    frame = refl;
    counted = let all : frame_count (with_value frame place.variable new) + content_count held ≡ frame_count frame + content_count new = counts new in
        omega (arith, h.counted);
    fits = h.fits;
  }
  AfterPut-content (Linked back) new h = (
    (λ none. h.0 (ap link_of (sym known) ∙ none)),
    h.1,
    ap (λ c. with_value frame place.variable c) h.2 ∙ with_value-same place.variable held frame known,
  )

  -- a text isn't set in a variable that is there
  pub RefusesText-content : (fault : SetFault) → RefusesContent held place.element value room fault → RefusesText frame place value room fault
  RefusesText-content fault h = record {
    linkless = ap link_of known ∙ h.linkless;
    reason = subst (IsReason frame place room fault) (ap (λ o. content_with o place.element value) (sym known))
        (reason (content_with (Some held) place.element value) h.why);
  }
    where
      reason : (r : Result Content SetFault)
          → MatchResult r (λ new. (fault ≡ Full) × (content_count held + room < content_count new)) (λ refusal. fault ≡ refusal)
          → IsReason frame place room fault r
      reason (Ok new) w = (w.0, let all : frame_count (with_value frame place.variable new) + content_count held ≡ frame_count frame + content_count new = counts new in omega (arith, w.1))
      reason (Err refusal) w = w

  -- and then the frame stays
  pub with_value-held : (new : Content) → new ≡ held → with_value frame place.variable new ≡ frame
  with_value-held new same = ap (λ c. with_value frame place.variable c) same ∙ with_value-same place.variable held frame known

-- a new variable
module _ (frame : Frame) (place : Place) (value : List ℕ) (room : ℕ) (absent : value_at frame place.variable ≡ None) where
  new_content-count : (element : Option (List ℕ)) (content : Content) → content_with None element value ≡ Ok content → content_count content ≡ new_count element
  new_content-count None content e = let same : content ≡ Scalar value = cc in ap content_count same
  new_content-count (Some index) content e = let same : content ≡ Array ((index, value) ∷ []) = cc in ap content_count same

  new_counts : (content : Content) → content_with None place.element value ≡ Ok content
      → frame_count (with_value frame place.variable content) ≡ frame_count frame + new_count place.element
  new_counts content given =
      let all : frame_count (with_value frame place.variable content) + weight_of content_count (value_at frame place.variable) ≡ frame_count frame + content_count content
      = weights-with_value place.variable content content_count frame in
      omega (arith, new_content-count place.element content given, rw absent at all)

  pub PutsText-new : (content : Content) (new : Frame) → content_with None place.element value ≡ Ok content → new ≡ with_value frame place.variable content
      → new_count place.element ≤ room → PutsText frame place value room (new_count place.element) new
  PutsText-new content new given is fits = record {
    linkless = ap link_of absent;
    content = content;
    given = ap (λ o. content_with o place.element value) absent ∙ given;
    frame = is;
    counted = ap frame_count is ∙ new_counts content given;
    fits = fits;
  }

  pub RefusesText-new : room < new_count place.element → RefusesText frame place value room Full
  RefusesText-new over = record {
    linkless = ap link_of absent;
    reason = subst (IsReason frame place room Full) (ap (λ o. content_with o place.element value) (sym absent)) (by place.element refl);
  }
    where
      by : (element : Option (List ℕ)) → place.element ≡ element → IsReason frame place room Full (content_with None element value)
      by None e = (refl, omega (arith, over, new_counts (Scalar value) (ap (λ i. content_with None i value) e)))
      by (Some index) e = (refl, omega (arith, over, new_counts (Array ((index, value) ∷ [])) (ap (λ i. content_with None i value) e)))
