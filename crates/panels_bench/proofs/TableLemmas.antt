-- Lemmas on tables whose keys are known, and on what has to be said.
use Rattle.std.proofs.Common.{◌≡◌, ℕ, Bool, true, false, ◌&&◌, cond, List, [], ◌∷◌, length, map, Option, Some, None, eqb, refl, ap, subst, sym, ◌∙◌}
use Rattle.std.specs.Prelude.{is_none}
use Rattle.panels.specs.declared.bench.Look.{Look}
use Rattle.panels_bench.specs.Sights.{Sight, sight, unless_empty}
use Rattle.panels_text.specs.Tables.{IsUnknown}
use Rattle.panels_text.specs.declared.failure.Failure.{Failure}
use Rattle.panels_text.specs.declared.table.Part.{Part}

-- a key that is refused isn't known
pub keys_unknown : (part : Part) (known : List (List ℕ)) (key : Option (List ℕ)) (failure : Failure) → IsUnknown part known key failure → is_none key ≡ false
keys_unknown part known None failure is = absurd is
keys_unknown part known (Some key) failure is = refl

pub if_known : {A : Type 0} (known : Bool) (said : Option A) → known ≡ true → cond known said None ≡ said
if_known {A} known said is = ap (λ own. cond own said None) is

pub if_unknown : {A : Type 0} (known : Bool) (said : Option A) → known ≡ false → cond known said None ≡ None
if_unknown {A} known said is = ap (λ own. cond own said None) is

pub if_two : {A : Type 0} (known two : Bool) (said : Option A) → known ≡ true → two ≡ true → cond (known && two) said None ≡ said
if_two known two said is are = ap (λ own. cond (own && two) said None) is ∙ ap (λ own. cond own said None) are

pub if_other : {A : Type 0} (known two : Bool) (said : Option A) → known ≡ true → two ≡ false → cond (known && two) said None ≡ None
if_other known two said is are = ap (λ own. cond (own && two) said None) is ∙ ap (λ own. cond own said None) are

pub if_none : {A : Type 0} (known two : Bool) (said : Option A) → known ≡ false → cond (known && two) said None ≡ None
if_none known two said is = ap (λ own. cond (own && two) said None) is

pub if_lacking : {A : Type 0} (known : Bool) (said : Option A) → said ≡ None → cond known said None ≡ None
if_lacking true said is = is
if_lacking false said is = refl

-- looks that are there
pub unless_full : (may_be : Bool) (looks : List Look) → eqb (length looks) 0 ≡ false → unless_empty may_be (map sight looks) ≡ Some (map sight looks)
unless_full may_be [] is = cc
unless_full may_be (look ∷ looks) is = refl
