-- Meaning. The commands of set(n), incr(n), append(n) and lappend(n), and `info exists` of info(n): from the words after the name.
use Rattle.std.specs.Prelude.{ℕ, ◌^◌, nat_lt, ℤ, pos, negsuc, ◌+ℤ◌, Bool, if◌then◌else◌, List, [], ◌∷◌, ◌++◌, Option, None, Some, Result, Ok, Err, codes}
use Rattle.std.specs.Fmt.{signed_decimal}
use Rattle.std.specs.List.{concat}
use Rattle.tcl_text.specs.Answers.{Answer, ◌>>=◌, answers, wrong_args, too_large, integer_in, items_in, truth}
use Rattle.tcl_text.specs.Readings.{list_form}
use Rattle.tcl_vars.specs.Store.{Store, variable_in, with_variable, has_variable}
use Rattle.tcl_text.specs.declared.fault.ReadFault.{ReadFault}
use Rattle.tcl_text.specs.declared.fault.ReadFault.TheVariants.{NoVariable, NoElement, IsArray, NotArray}
use Rattle.tcl_text.specs.declared.fault.SetFault.{SetFault}
use Rattle.tcl_commands.specs.Done.{Done, keeps}
use Rattle.tcl_commands.specs.Texts.{cannot_read, cannot_set}

-- a variable's value, or why it can't be read
abbrev pub value_read : List ℕ → Result (List ℕ) ReadFault → Answer
value_read name (Ok value) = Ok value
value_read name (Err fault) = cannot_read name fault

-- a variable was set to a value, or why it can't be
abbrev pub value_set : List ℕ → List ℕ → Store → Result Store SetFault → Done
value_set name value store (Ok new) = record { store = new; answer = Ok value }
value_set name value store (Err fault) = keeps store (cannot_set name fault)

-- set name ?value?
abbrev pub set_words : ℕ → List (List ℕ) → Store → Done
set_words frame (name ∷ []) store = keeps store (value_read name (variable_in store frame name))
set_words frame (name ∷ value ∷ []) store = value_set name value store (with_variable store frame name value)
set_words frame _ store = keeps store (wrong_args (codes "set name ?value?"))

-- a variable's value, where one that isn't there counts as this text
abbrev pub value_or : List ℕ → List ℕ → Result (List ℕ) ReadFault → Answer
value_or absent name (Ok value) = Ok value
value_or absent name (Err NoVariable) = Ok absent
value_or absent name (Err NoElement) = Ok absent
value_or absent name (Err IsArray) = cannot_read name IsArray
value_or absent name (Err NotArray) = cannot_read name NotArray

-- what becomes of a variable's value, where one that isn't there counts as this text
abbrev pub value_changed : List ℕ → List ℕ → (List ℕ → Answer) → Result (List ℕ) ReadFault → Answer
value_changed absent name change read = value_or absent name read >>= change

-- a variable is set to what came of its value
abbrev pub changed_to : ℕ → List ℕ → Store → Answer → Done
changed_to frame name store (Ok value) = value_set name value store (with_variable store frame name value)
changed_to frame name store (Err text) = keeps store (Err text)

-- a variable is changed, where one that isn't there counts as this text
abbrev pub variable_changed : ℕ → List ℕ → List ℕ → (List ℕ → Answer) → Store → Done
variable_changed frame name absent change store = changed_to frame name store (value_changed absent name change (variable_in store frame name))

-- a sum in 64 bits
abbrev pub is_in_range : ℤ → Bool
is_in_range (pos n) = nat_lt n (2 ^ 63)
is_in_range (negsuc n) = nat_lt n (2 ^ 63)

abbrev pub sum_of : ℤ → ℤ → Answer
sum_of a b = if is_in_range (a +ℤ b) then Ok (signed_decimal (a +ℤ b)) else too_large

-- a value is read before what is added to it
abbrev pub increased : Result ℤ (List ℕ) → List ℕ → Answer
increased amount value = do
  a ← integer_in value
  b ← amount
  sum_of a b

-- 1 without a word
abbrev pub amount_in : Option (List ℕ) → Result ℤ (List ℕ)
amount_in None = Ok (pos 1)
amount_in (Some word) = integer_in word

-- incr name ?n?
abbrev pub incr_words : ℕ → List (List ℕ) → Store → Done
incr_words frame (name ∷ []) store = variable_changed frame name (codes "0") (increased (amount_in None)) store
incr_words frame (name ∷ n ∷ []) store = variable_changed frame name (codes "0") (increased (amount_in (Some n))) store
incr_words frame _ store = keeps store (wrong_args (codes "incr name ?n?"))

-- append name ?value ..?
abbrev pub append_words : ℕ → List (List ℕ) → Store → Done
append_words frame (name ∷ values) store = variable_changed frame name [] (λ value. answers (value ++ concat values)) store
append_words frame [] store = keeps store (wrong_args (codes "append name ?value ..?"))

-- a list written anew with more items; without any it stays as it is written
abbrev pub lengthened : List ℕ → List (List ℕ) → List (List ℕ) → Answer
lengthened value [] items = Ok value
lengthened value (more ∷ others) items = answers (list_form (items ++ more ∷ others))

abbrev pub with_items : List (List ℕ) → List ℕ → Answer
with_items values value = do
  items ← items_in value
  lengthened value values items

-- lappend name ?value ..?
abbrev pub lappend_words : ℕ → List (List ℕ) → Store → Done
lappend_words frame (name ∷ values) store = variable_changed frame name [] (with_items values) store
lappend_words frame [] store = keeps store (wrong_args (codes "lappend name ?value ..?"))

-- info exists name
abbrev pub exists_words : ℕ → List (List ℕ) → Store → Answer
exists_words frame (name ∷ []) store = truth (has_variable store frame name)
exists_words frame _ store = wrong_args (codes "info exists name")
