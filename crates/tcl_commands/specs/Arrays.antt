-- Meaning. The commands of array(n): from the words after the sub-command. What is no array counts as an empty one, but for `array set`.
use Rattle.std.specs.Prelude.{ℕ, true, Bool, nat_le, if◌then◌else◌, List, [], ◌∷◌, length, map, filter, is_some, unwrap_or, Option, Some, None, Result, Ok, Err, codes}
use Rattle.std.specs.Fmt.{decimal}
use Rattle.std.specs.Str.{bytes_eq, chars}
use Rattle.tcl_text.specs.Answers.{Answer, answers, limit_text, bad_option, missing_value, wrong_args, items_in, truth}
use Rattle.tcl_text.specs.Glob.{glob_matches}
use Rattle.tcl_text.specs.Readings.{list_form}
use Rattle.tcl_vars.specs.Table.{Table}
use Rattle.tcl_vars.specs.Texts.{element_name}
use Rattle.tcl_vars.specs.Store.{Store, elements_in, pairs_of, is_element_in, with_array, with_element, without_elements}
use Rattle.tcl_text.specs.declared.fault.SetFault.{SetFault}
use Rattle.tcl_text.specs.declared.fault.SetFault.TheVariants.{NotArray}
use Rattle.tcl_commands.specs.declared.arrays.ArrayCommand.{ArrayCommand}
use Rattle.tcl_commands.specs.declared.arrays.ArrayCommand.TheVariants as command
use Rattle.tcl_commands.specs.Done.{Done, keeps, one_done, each_done, pairs}
use Rattle.tcl_commands.specs.Texts.{cannot_set}
use Rattle.tcl_commands.specs.Unset.{unset_step}
use Rattle.tcl_text.specs.Limits.{most_bytes}

-- the elements of what a name means
abbrev pub elements_named : ℕ → List ℕ → Store → Table (List ℕ)
elements_named frame name store = unwrap_or (elements_in store frame name) []

-- whether an index matches a pattern
abbrev pub is_wanted : List ℕ → List ℕ → Bool
is_wanted pattern index = glob_matches (chars pattern) (chars index)

-- the elements whose indices match a pattern; without one all
abbrev pub elements_wanted : Option (List ℕ) → Table (List ℕ) → Table (List ℕ)
elements_wanted None elements = elements
elements_wanted (Some pattern) elements = filter (λ e. is_wanted pattern e.0) elements

-- array exists name
abbrev pub array_exists : ℕ → List (List ℕ) → Store → Answer
array_exists frame (name ∷ []) store = truth (is_some (elements_in store frame name))
array_exists frame _ store = wrong_args (codes "array exists name")

-- array size name
abbrev pub array_size : ℕ → List (List ℕ) → Store → Answer
array_size frame (name ∷ []) store = answers (decimal (length (elements_named frame name store)))
array_size frame _ store = wrong_args (codes "array size name")

-- array names name ?pattern?
abbrev pub names_wanted : Option (List ℕ) → ℕ → List ℕ → Store → Answer
names_wanted pattern frame name store = answers (list_form (map (λ e. e.0) (elements_wanted pattern (elements_named frame name store))))

abbrev pub array_names : ℕ → List (List ℕ) → Store → Answer
array_names frame (name ∷ []) store = names_wanted None frame name store
array_names frame (name ∷ pattern ∷ []) store = names_wanted (Some pattern) frame name store
array_names frame _ store = wrong_args (codes "array names name ?pattern?")

-- array get name ?pattern?
abbrev pub pairs_wanted : Option (List ℕ) → ℕ → List ℕ → Store → Answer
pairs_wanted pattern frame name store = answers (list_form (pairs_of (elements_wanted pattern (elements_named frame name store))))

abbrev pub array_get : ℕ → List (List ℕ) → Store → Answer
array_get frame (name ∷ []) store = pairs_wanted None frame name store
array_get frame (name ∷ pattern ∷ []) store = pairs_wanted (Some pattern) frame name store
array_get frame _ store = wrong_args (codes "array get name ?pattern?")

-- array unset name ?pattern?: without a pattern the array goes, else the elements that match
abbrev pub unset_array : ℕ → List ℕ → Store → Option (Table (List ℕ)) → Done
unset_array frame name store None = keeps store (Ok [])
unset_array frame name store (Some elements) = one_done store (unset_step true frame name store)

abbrev pub unset_elements : ℕ → List ℕ → List ℕ → Store → Done
unset_elements frame name pattern store = keeps (without_elements store frame name pattern) (Ok [])

abbrev pub array_unset : ℕ → List (List ℕ) → Store → Done
array_unset frame (name ∷ []) store = unset_array frame name store (elements_in store frame name)
array_unset frame (name ∷ pattern ∷ []) store = unset_elements frame name pattern store
array_unset frame _ store = keeps store (wrong_args (codes "array unset name ?pattern?"))

-- the key that has no value behind it, if the items are odd
abbrev pub odd_key : List (List ℕ) → Option (List ℕ)
odd_key [] = None
odd_key (key ∷ []) = Some key
odd_key (key ∷ value ∷ items) = odd_key items

-- a variable of this name is set, or why it can't be
abbrev pub set_told : List ℕ → Result Store SetFault → Result Store (List ℕ)
set_told name (Ok new) = Ok new
set_told name (Err fault) = cannot_set name fault

-- the element of a key is set to the value beside it. A name that would be too long can't be set
abbrev pub set_element : ℕ → List ℕ → List ℕ × List ℕ → Store → Result Store (List ℕ)
set_element frame name pair store =
    if nat_le (length (element_name name pair.0)) most_bytes
    then set_told (element_name name pair.0) (with_element store frame name pair.0 pair.1)
    else Err limit_text

-- there is an array of this name
abbrev pub make_array : ℕ → List ℕ → Store → Result Store (List ℕ)
make_array frame name store = set_told name (with_array store frame name)

-- keys and values in turn are set; without any the array is made
abbrev pub set_items : ℕ → List ℕ → List (List ℕ) → Store → Done
set_items frame name [] store = one_done store (make_array frame name store)
set_items frame name (key ∷ items) store =
    if is_element_in store frame name then keeps store (cannot_set name NotArray)
    else each_done (set_element frame name) (pairs (key ∷ items)) store

abbrev pub set_even : ℕ → List ℕ → List (List ℕ) → Store → Option (List ℕ) → Done
set_even frame name items store (Some key) = keeps store (missing_value key)
set_even frame name items store None = set_items frame name items store

abbrev pub set_list : ℕ → List ℕ → Store → Result (List (List ℕ)) (List ℕ) → Done
set_list frame name store (Ok items) = set_even frame name items store (odd_key items)
set_list frame name store (Err text) = keeps store (Err text)

-- array set name list
abbrev pub array_set : ℕ → List (List ℕ) → Store → Done
array_set frame (name ∷ list ∷ []) store = set_list frame name store (items_in list)
array_set frame _ store = keeps store (wrong_args (codes "array set name list"))

-- the sub-command of this name
unfoldable pub array_command_named : List ℕ → Option ArrayCommand
array_command_named name =
    if bytes_eq name (codes "exists") then Some command.Exists
    else (if bytes_eq name (codes "names") then Some command.Names
    else (if bytes_eq name (codes "get") then Some command.Get
    else (if bytes_eq name (codes "set") then Some command.Set
    else (if bytes_eq name (codes "unset") then Some command.Unset
    else (if bytes_eq name (codes "size") then Some command.Size
    else None)))))

abbrev pub array_done : ArrayCommand → ℕ → List (List ℕ) → Store → Done
array_done command.Exists frame words store = keeps store (array_exists frame words store)
array_done command.Names frame words store = keeps store (array_names frame words store)
array_done command.Get frame words store = keeps store (array_get frame words store)
array_done command.Set frame words store = array_set frame words store
array_done command.Unset frame words store = array_unset frame words store
array_done command.Size frame words store = keeps store (array_size frame words store)

abbrev pub array_by : List ℕ → Option ArrayCommand → ℕ → List (List ℕ) → Store → Done
array_by name None frame words store = keeps store (bad_option name)
array_by name (Some sub) frame words store = array_done sub frame words store

-- array option ?arg ..?
abbrev pub array_words : ℕ → List (List ℕ) → Store → Done
array_words frame [] store = keeps store (wrong_args (codes "array option ?arg ..?"))
array_words frame (name ∷ words) store = array_by name (array_command_named name) frame words store
