-- What is kept under tags: scripts that were made, and what was chosen.
use Rattle.std.proofs.Common.{◌≡◌, ℕ, List, Bool, true, false, cond, Option, Some, Ok, IfSome, Bor, bytes_eq, refl, sym, ap, subst, ◌∙◌, option_map}
use Rattle.std.specs.HashMap.{HashMap, Updates, get}
use Rattle.std.proofs.lemmas.Slice.Eq.{bytes_eq-Decides}
use Rattle.tcl_text.specs.Answers.{Answer}
use Rattle.tk_dispatch.specs.Made.{AreChosen, AreMade}

module _ {S : Type 0} (script_of : List ℕ → Option Answer) where
  -- one more is kept, under its tag
  pub kept_made : (old new : HashMap (Bor (List ℕ)) (List ℕ) S) (key : Bor (List ℕ)) (script : List ℕ) → Updates (λ x y. bytes_eq x.now y.now) old new key (Some script)
      → script_of key.now ≡ Some (Ok script) → AreMade script_of old → AreMade script_of new
  kept_made old new key script updates its were tag = subst IsMade (sym (updates.0 tag)) (by (bytes_eq key.now tag.now) refl)
    where
      IsMade : Option (List ℕ) → Type 0
      IsMade found = IfSome found (λ script. script_of tag.now ≡ Some (Ok script))

      by : (t : Bool) → bytes_eq key.now tag.now ≡ t → IsMade (cond t (Some script) (get (λ x y. bytes_eq x.now y.now) old tag))
      by true same = ap script_of (sym ((bytes_eq-Decides key.now tag.now).0 same)) ∙ its
      by false apart = were tag

  -- one more choice is kept, under its tag
  pub kept_chosen : (old new : HashMap (Bor (List ℕ)) (Option (List ℕ)) S) (key : Bor (List ℕ)) (script : Option (List ℕ)) → Updates (λ x y. bytes_eq x.now y.now) old new key (Some script)
      → script_of key.now ≡ option_map Ok script → AreChosen script_of old → AreChosen script_of new
  kept_chosen old new key script updates its were tag = subst IsChosen (sym (updates.0 tag)) (by (bytes_eq key.now tag.now) refl)
    where
      IsChosen : Option (Option (List ℕ)) → Type 0
      IsChosen found = IfSome found (λ script. script_of tag.now ≡ option_map Ok script)

      by : (t : Bool) → bytes_eq key.now tag.now ≡ t → IsChosen (cond t (Some script) (get (λ x y. bytes_eq x.now y.now) old tag))
      by true same = ap script_of (sym ((bytes_eq-Decides key.now tag.now).0 same)) ∙ its
      by false apart = were tag
