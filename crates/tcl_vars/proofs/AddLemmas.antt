-- Adding to the integer that a variable is.
use Rattle.std.proofs.Common.{◌≡◌, ℕ, ◌+◌, ◌<◌, ◌-◌, List, [], length, set, add-zero, Option, None, Some, Ok, MatchOption, ap, sym, ◌∙◌, subst, arith}
use Rattle.std.proofs.lemmas.List.{set-get_or}
use Rattle.std.specs.Prelude.{ℤ}
use Rattle.tcl_vars.specs.declared.content.Content.{Content}
use Rattle.tcl_vars.specs.declared.content.Outcome.TheVariants.{Added}
use Rattle.tcl_text.specs.declared.fault.SetFault.TheVariants.{Full}
use Rattle.tcl_vars.specs.Add.{Adds, AddsContent, AddsText}
use Rattle.tcl_vars.specs.Name.{Place, place_of}
use Rattle.tcl_vars.specs.Put.{PutsText, Sets}
use Rattle.tcl_vars.specs.Sound.{IsSound}
use Rattle.tcl_vars.specs.Store.{Store, Frame, content_at, content_count, content_with, end_of, frame_at, link_of, text_at, text_of, variable_count, variable_in, variable_place, with_new_content, with_text_at, with_variable, within_variables}
use Rattle.tcl_vars.specs.Table.{value_at, with_value}
use Rattle.tcl_vars.proofs.ChangeLemmas.{IsSound-same}
use Rattle.tcl_vars.proofs.LinkLemmas.{led-here}
use Rattle.tcl_vars.proofs.PutLemmas.{AfterPut-content, with_value-held}
use Rattle.tcl_vars.proofs.StoreLemmas.{IsSound-set, counted-set, with_text_at-direct, within_variables-ok}

-- what becomes of a frame is what becomes of its content
pub adds_text : (frame : Frame) (variable : List ℕ) (amount : ℤ) (old new : Content) → value_at frame variable ≡ Some old → (sum : Option (List ℕ))
    → MatchOption sum (new ≡ old) (λ text. AddsContent old amount text new)
    → MatchOption sum (with_value frame variable new ≡ frame) (λ text. AddsText frame variable amount text (with_value frame variable new))
adds_text frame variable amount old new known None same = with_value-held frame (variable_place 0 variable) [] 0 old known new same
adds_text frame variable amount old new known (Some text) (held, was, is, now) =
    let one : content_count old ≡ 1 = ap content_count was in
    let other : content_count new ≡ 1 = ap content_count now in
    record {
      held = held;
      content = known ∙ ap Some was;
      is = is;
      set = λ level room. AfterPut-content frame (variable_place level variable) text room old known (Added 0) new (record {
        linkless = ap (λ c. link_of (Some c)) was;
        given = ap (λ c. content_with (Some c) None text) was ∙ ap Ok (sym now);
        counted = omega (arith, one, other);
        fits = omega arith;
      });
    }

module _ (store : Store) (count : ℕ) (sound : IsSound store count) (level : ℕ) (within : level < length store) (name : List ℕ) (amount : ℤ) (new : Frame) where
  -- the store stays sound
  pub sound_added : (sum : Option (List ℕ)) → MatchOption sum (new ≡ frame_at store level) (λ text. AddsText (frame_at store level) name amount text new) → IsSound (set store level new) count
  sound_added None same = IsSound-same store count sound level new same
  sound_added (Some text) adds =
      subst (IsSound (set store level new)) (add-zero count) (IsSound-set store count sound (variable_place level name) within text 0 new (adds.set level (4096 - count)))

  sets : (text : List ℕ) → PutsText (frame_at store level) (variable_place level name) text (4096 - count) 0 new → Sets store (variable_place level name) text (Ok (set store level new))
  sets text puts = record {
    linkless = puts.linkless;
    given = ap (with_new_content store (variable_place level name)) puts.given ∙ ap (λ f. within_variables Full (set store level f)) (sym puts.frame)
        ∙ within_variables-ok Full (set store level new)
        (let same : count + 0 ≡ variable_count (set store level new) = counted-set store count sound (variable_place level name) within text 0 new puts in omega (arith, sound.limited));
  }

  -- and changes as its frame does, where the name means a variable of that
  pub store_added : place_of level name ≡ variable_place level name → (sum : Option (List ℕ)) → MatchOption sum (new ≡ frame_at store level) (λ text. AddsText (frame_at store level) name amount text new)
      → MatchOption sum (set store level new ≡ store) (λ text. Adds store level name amount text (set store level new))
  unfolding variable_in with_variable
  store_added bare None same = ap (λ f. set store level f) same ∙ set-get_or store level []
  store_added bare (Some text) adds =
      let place : Place = variable_place level name in
      let direct = led-here store place (ap link_of adds.content) in
      record {
        held = adds.held;
        read = ap (λ p. text_at store (end_of store p)) bare ∙ ap (text_at store) direct ∙ ap (λ c. text_of c None) adds.content;
        is = adds.is;
        set = ap (λ p. with_text_at store (end_of store p) text) bare ∙ with_text_at-direct store place text (Ok (set store level new)) (sets text (adds.set level (4096 - count)));
      }
