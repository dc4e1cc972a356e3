-- Steps. What the steps of writing a list say, in the words of its form.
use Rattle.std.specs.Prelude.{◌≡◌, ℕ, ◌<◌, ◌≤◌, true, List, [], ◌∷◌, ◌++◌, take, drop, length, slice_index, codes, Result, Ok, Err, ⊤}
use Rattle.tcl_text.specs.Bytes.{space, backslash_sign, open_brace, close_brace}
use Rattle.tcl_text.specs.Readings.{element_form, is_special, with_backslashes}
use Rattle.tcl_text.specs.declared.list_form.ElementForm.{ElementForm}
use Rattle.tcl_text.specs.declared.list_form.ElementForm.TheVariants.{Empty, Bare, Braced, Comment, Backslashed}
use Rattle.tcl_text.specs.declared.fault.TextFault.{TextFault}
use Rattle.tcl_text.specs.declared.fault.TextFault.TheVariants.{TooLong, NoMemory}
use Rattle.tcl_text.specs.Limits.{most_bytes}

-- the answer is the form, which is refused exactly where it is too long, unless memory was refused
abbrev pub Joins : Result (List ℕ) TextFault → List ℕ → Type 0
Joins (Ok text) form = (text ≡ form) × (length form ≤ most_bytes)
Joins (Err TooLong) form = most_bytes < length form
Joins (Err NoMemory) form = ⊤

-- no special byte stands before the place, and one stands there where it isn't the end
pub record StopsAtSpecial (item : List ℕ) (at : ℕ) : Type 0 where
  pub fits : at ≤ length item
  pub plain : with_backslashes item ≡ take at item ++ with_backslashes (drop at item)
  pub special : at < length item → is_special (slice_index item at) ≡ true

-- an item in each form
abbrev pub form_text : ElementForm → List ℕ → List ℕ
form_text Empty item = codes "{}"
form_text Bare item = item
form_text Braced item = open_brace ∷ (item ++ close_brace ∷ [])
form_text Comment item = backslash_sign ∷ with_backslashes item
form_text Backslashed item = with_backslashes item

-- the items behind others, each with a blank in front
abbrev pub others_form : List (List ℕ) → List ℕ
others_form [] = []
others_form (x ∷ xs) = space ∷ (element_form x ++ others_form xs)
