-- Changing a text that is there.
use Rattle.std.proofs.Common.{◌≡◌, ◌≢◌, ℕ, ◌+◌, ◌<◌, ◌≤◌, ◌-◌, Bool, true, false, MatchBool, List, [], length, set, add-zero, Option, None, Some, Ok, Err, Result, ok_or, refl, sym, ap, ◌∙◌, subst, arith}
use Rattle.std.proofs.lemmas.List.{set-get_or}
use Rattle.tcl_text.specs.declared.edit.Edit.{Edit}
use Rattle.tcl_text.specs.declared.fault.EditFault.{EditFault}
use Rattle.tcl_vars.specs.declared.content.Content.{Content}
use Rattle.tcl_vars.specs.declared.content.Content.TheVariants.{Scalar, Array}
use Rattle.tcl_text.specs.declared.fault.ReadFault.TheVariants.{NoElement}
use Rattle.tcl_vars.specs.declared.content.Outcome.TheVariants.{Added}
use Rattle.tcl_text.specs.declared.fault.ChangeFault.{ChangeFault}
use Rattle.tcl_vars.specs.Change.{change_fault, told_by, edited_by}
use Rattle.tcl_vars.specs.Changing.{ChangesContent, KeepsContent, ChangesText, KeepsText, ChangesHere, KeepsHere, ChangesAt}
use Rattle.tcl_vars.specs.Name.{Place}
use Rattle.tcl_vars.specs.Put.{PutsText, Sets}
use Rattle.tcl_vars.specs.Sound.{IsSound}
use Rattle.tcl_vars.specs.Store.{Store, Frame, content_at, end_of, frame_at, link_of, text_at, text_of, variable_count, with_new_content, within_variables}
use Rattle.tcl_text.specs.declared.fault.SetFault.TheVariants.{Full}
use Rattle.tcl_vars.specs.Table.{Table, value_at, with_value}
use Rattle.tcl_vars.proofs.LinkLemmas.{led-here}
use Rattle.tcl_vars.proofs.PutLemmas.{AfterPut-content}
use Rattle.tcl_vars.proofs.StoreLemmas.{IsSound-set, counted-set, within_variables-ok}
use Rattle.tcl_vars.proofs.TableLemmas.{with_value-same}

pub told_ok : (read : Result (List ℕ) EditFault) (text : List ℕ) → read ≡ Ok text → told_by read ≡ Ok text
told_ok read text e = ap told_by e

pub told_err : (read : Result (List ℕ) EditFault) (fault : EditFault) → read ≡ Err fault → told_by read ≡ Err (change_fault fault)
told_err read fault e = ap told_by e

pub ruleset told = (told_ok, told_err)

-- in a content
pub ChangesContent-scalar : (old new : List ℕ) (edit : Edit) → edited_by edit (Ok old) ≡ Ok new → ChangesContent (Scalar old) None edit (Scalar new)
ChangesContent-scalar old new edit e = record {
  value = new;
  changed = e;
  puts = λ room. record { linkless = refl; given = refl; counted = refl; fits = omega arith };
}

pub ChangesContent-element : (elements new : Table (List ℕ)) (index : List ℕ) (edit : Edit)
    → ((value : List ℕ) × (edited_by edit (ok_or (value_at elements index) NoElement) ≡ Ok value) × (new ≡ with_value elements index value) × (length new ≡ length elements))
    → ChangesContent (Array elements) (Some index) edit (Array new)
ChangesContent-element elements new index edit h = record {
  value = h.0;
  changed = h.1;
  puts = λ room. record {
    linkless = refl;
    given = ap (λ t. Ok (Array t)) (sym h.2);
    counted = let same : length new ≡ length elements = h.3 in omega arith;
    fits = omega arith;
  };
}

pub ruleset contents = (ChangesContent-scalar, ChangesContent-element)

-- in a frame
module _ (frame : Frame) (place : Place) (edit : Edit) (held : Content) (known : value_at frame place.variable ≡ Some held) where
  pub ChangesText-content : (new : Content) → ChangesContent held place.element edit new → ChangesText frame place edit (with_value frame place.variable new)
  ChangesText-content new h = record {
    value = h.value;
    changed = ap (λ o. edited_by edit (text_of o place.element)) known ∙ h.changed;
    puts = λ room. AfterPut-content frame place h.value room held known (Added 0) new (h.puts room);
  }

  pub KeepsText-content : (fault : ChangeFault) → KeepsContent held place.element edit fault → KeepsText frame place edit fault
  KeepsText-content fault h = record {
    linkless = ap link_of known ∙ h.linkless;
    why = ap (λ o. edited_by edit (text_of o place.element)) known ∙ h.why;
  }

  pub AfterChange-content : (done : Bool) (new : Content)
      → MatchBool done (ChangesContent held place.element edit new) ((link_of (Some held) ≢ None) × (new ≡ held))
      → MatchBool done (ChangesText frame place edit (with_value frame place.variable new))
      ((link_of (value_at frame place.variable) ≢ None) × (with_value frame place.variable new ≡ frame))
  AfterChange-content true new h = ChangesText-content new h
  AfterChange-content false new h = (
    (λ none. h.0 (ap link_of (sym known) ∙ none)),
    ap (λ c. with_value frame place.variable c) h.1 ∙ with_value-same place.variable held frame known,
  )

-- in a store
module _ (store : Store) (place : Place) (edit : Edit) where
  pub ChangesAt-direct : (new : Store) → ChangesHere store place edit new → ChangesAt store (end_of store place) edit new
  ChangesAt-direct new h = subst (λ p. ChangesAt store p edit new) (sym (led-here store place h.sets.linkless)) (record {
    value = h.value;
    changed = h.changed;
    set = h.sets.given;
  })

  pub KeepsAt-direct : (fault : ChangeFault) → KeepsHere store place edit fault → edited_by edit (text_at store (end_of store place)) ≡ Err fault
  KeepsAt-direct fault h = ap (λ p. edited_by edit (text_at store p)) (led-here store place h.linkless) ∙ h.why

  pub ChangesAt-led : (end : Place) (new : Store) → end_of store place ≡ Some end → ChangesHere store end edit new → ChangesAt store (end_of store place) edit new
  ChangesAt-led end new leads h = subst (λ p. ChangesAt store p edit new) (sym leads) (record {
    value = h.value;
    changed = h.changed;
    set = h.sets.given;
  })

  pub KeepsAt-led : (end : Place) (fault : ChangeFault) → end_of store place ≡ Some end → KeepsHere store end edit fault → edited_by edit (text_at store (end_of store place)) ≡ Err fault
  KeepsAt-led end fault leads h = ap (λ p. edited_by edit (text_at store p)) leads ∙ h.why

-- a frame that stays
pub IsSound-same : (store : Store) (count : ℕ) → IsSound store count → (level : ℕ) (new : Frame) → new ≡ frame_at store level → IsSound (set store level new) count
IsSound-same store count sound level new same = subst (λ s. IsSound s count) (sym (ap (λ f. set store level f) same ∙ set-get_or store level [])) sound

-- where links end the text is changed
pub ChangesHere-linkless : (store new : Store) (place : Place) (edit : Edit) (done : Bool) → link_of (content_at store place) ≡ None
    → MatchBool done (ChangesHere store place edit new) ((link_of (content_at store place) ≢ None) × (new ≡ store))
    → ChangesHere store place edit new
ChangesHere-linkless store new place edit true linkless h = h
ChangesHere-linkless store new place edit false linkless h = absurd (h.0 linkless)

module _ (store : Store) (count : ℕ) (sound : IsSound store count) (place : Place) (within : place.frame < length store) (edit : Edit) (new : Frame) where
  sets : (value : List ℕ) → PutsText (frame_at store place.frame) place value (4096 - count) 0 new → Sets store place value (Ok (set store place.frame new))
  sets value puts = record {
    linkless = puts.linkless;
    given = ap (with_new_content store place) puts.given ∙ ap (λ f. within_variables Full (set store place.frame f)) (sym puts.frame)
        ∙ within_variables-ok Full (set store place.frame new)
        (let same : count + 0 ≡ variable_count (set store place.frame new) = counted-set store count sound place within value 0 new puts in omega (arith, sound.limited));
  }

  -- the store stays sound
  pub IsSound-change : (done : Bool) → MatchBool done (ChangesText (frame_at store place.frame) place edit new) ((link_of (value_at (frame_at store place.frame) place.variable) ≢ None) × (new ≡ frame_at store place.frame))
      → IsSound (set store place.frame new) count
  IsSound-change true h = subst (IsSound (set store place.frame new)) (add-zero count) (IsSound-set store count sound place within h.value 0 new (h.puts (4096 - count)))
  IsSound-change false h = IsSound-same store count sound place.frame new h.1

  pub AfterChange-store : (done : Bool) → MatchBool done (ChangesText (frame_at store place.frame) place edit new) ((link_of (value_at (frame_at store place.frame) place.variable) ≢ None) × (new ≡ frame_at store place.frame))
      → MatchBool done (ChangesHere store place edit (set store place.frame new)) ((link_of (content_at store place) ≢ None) × (set store place.frame new ≡ store))
  AfterChange-store true h = record { value = h.value; changed = h.changed; sets = sets h.value (h.puts (4096 - count)) }
  AfterChange-store false h = (h.0, ap (λ f. set store place.frame f) h.1 ∙ set-get_or store place.frame [])
