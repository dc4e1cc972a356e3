-- Commands on variables leave the frames where they are, and links lead to earlier ones.
use Rattle.std.proofs.Common.{◌≡◌, ℕ, ◌-◌, ◌<◌, Bool, true, false, cond, nat_le, nat_lt, ltb-true, List, [], ◌∷◌, length, drop, Option, Some, None, Result, Ok, Err, bytes_eq, codes, refl, arith}
use Rattle.std.specs.Prelude.{◌==◌, ◌%◌}
use Rattle.std.specs.List.{list_any}
use Rattle.std.proofs.lemmas.Bool.{eqb-false}
use Rattle.tcl_text.specs.Answers.{Answer, items_in}
use Rattle.tcl_text.specs.declared.fault.LinkFault.{LinkFault}
use Rattle.tcl_text.specs.declared.fault.SetFault.{SetFault}
use Rattle.tcl_text.specs.declared.fault.UnsetFault.{UnsetFault}
use Rattle.tcl_vars.specs.Store.{Store, elements_in, is_element_in, variable_in, with_array, with_element, with_link, with_variable, without_variable}
use Rattle.tcl_vars.specs.Table.{Table}
use Rattle.tcl_vars.specs.Texts.{element_name}
use Rattle.tcl_table.specs.Levels.{here}
use Rattle.tcl_commands.specs.Arrays.{array_by, array_command_named, array_done, array_set, array_unset, array_words, make_array, odd_key, set_element, set_even, set_items, set_list, set_told, unset_array}
use Rattle.tcl_commands.specs.Commands.{command_done}
use Rattle.tcl_commands.specs.declared.arrays.ArrayCommand.{ArrayCommand}
use Rattle.tcl_commands.specs.declared.arrays.ArrayCommand.TheVariants as sub
use Rattle.tcl_commands.specs.declared.commands.VariableCommand.{VariableCommand}
use Rattle.tcl_commands.specs.declared.commands.VariableCommand.TheVariants as variable
use Rattle.tcl_commands.specs.declared.groups.Group.{Group}
use Rattle.tcl_commands.specs.Done.{each_done, one_done, pairs, unless_refused}
use Rattle.tcl_commands.specs.Groups.{has_more}
use Rattle.tcl_commands.specs.Links.{global_name, global_step, global_told, global_words, link_pairs, link_told, upvar_step, upvar_words}
use Rattle.tcl_commands.specs.Unset.{unset_each, unset_step, unset_told, unset_words}
use Rattle.tcl_commands.specs.Values.{append_words, changed_to, incr_words, lappend_words, set_words, value_changed, value_set, variable_changed}
use Rattle.tcl_control.specs.Assign.{Assigned, assigned, behind_assigned, first_item, groups_assigned, on_assigned, on_set}
use Rattle.tcl_control.specs.Commands.{code_number, caught_ending, levels_left, stored_ending}
use Rattle.tcl_control.specs.declared.code.Code.{Code}
use Rattle.tcl_control.specs.Loops.{Tested, More, NoMore, Fails, after_assigned, items_tested}
use Rattle.tcl_control.specs.Variables.{linked_ending, place_among, upvar_at, upvar_ending}
use Rattle.tk_app.proofs.KeptFrames.{Keeps, KeepsIf, after, array_made, element_set, elements_unset, linked, same, variable_set, variable_unset}

-- ── steps one after another ──

pub each_kept : {X : Type 0} (step : X → Store → Result Store (List ℕ)) → ((x : X) (store : Store) → KeepsIf store (step x store)) → (xs : List X) (store : Store)
    → Keeps store (each_done step xs store).store
each_kept step kept [] store = same store
each_kept {X} step kept (x ∷ xs) store = by (step x store) (kept x store) (λ new. each_kept step kept xs new)
  where
    by : (r : Result Store (List ℕ)) → KeepsIf store r → ((new : Store) → Keeps new (each_done step xs new).store) → Keeps store (unless_refused (each_done step xs) store r).store
    by (Ok new) one others = after store new (each_done step xs new).store one (others new)
    by (Err text) one others = same store

one_kept : (store : Store) (r : Result Store (List ℕ)) → KeepsIf store r → Keeps store (one_done store r).store
one_kept store (Ok new) one = one
one_kept store (Err text) one = same store

-- ── `set`, `incr`, `append`, `lappend` ──

value_kept : (name value : List ℕ) (store : Store) (r : Result Store SetFault) → KeepsIf store r → Keeps store (value_set name value store r).store
value_kept name value store (Ok new) one = one
value_kept name value store (Err fault) one = same store

set_kept : (frame : ℕ) (words : List (List ℕ)) (store : Store) → Keeps store (set_words frame words store).store
set_kept frame [] store = same store
set_kept frame (name ∷ []) store = same store
set_kept frame (name ∷ value ∷ []) store = value_kept name value store (with_variable store frame name value) (variable_set store frame name value)
set_kept frame (name ∷ value ∷ word ∷ words) store = same store

changed_kept : (frame : ℕ) (name : List ℕ) (store : Store) (answer : Answer) → Keeps store (changed_to frame name store answer).store
changed_kept frame name store (Ok value) = value_kept name value store (with_variable store frame name value) (variable_set store frame name value)
changed_kept frame name store (Err text) = same store

variable_kept : (frame : ℕ) (name absent : List ℕ) (change : List ℕ → Answer) (store : Store) → Keeps store (variable_changed frame name absent change store).store
variable_kept frame name absent change store = changed_kept frame name store (value_changed absent name change (variable_in store frame name))

incr_kept : (frame : ℕ) (words : List (List ℕ)) (store : Store) → Keeps store (incr_words frame words store).store
incr_kept frame [] store = same store
incr_kept frame (name ∷ []) store = variable_kept frame name _ _ store
incr_kept frame (name ∷ n ∷ []) store = variable_kept frame name _ _ store
incr_kept frame (name ∷ n ∷ word ∷ words) store = same store

append_kept : (frame : ℕ) (words : List (List ℕ)) (store : Store) → Keeps store (append_words frame words store).store
append_kept frame [] store = same store
append_kept frame (name ∷ values) store = variable_kept frame name _ _ store

lappend_kept : (frame : ℕ) (words : List (List ℕ)) (store : Store) → Keeps store (lappend_words frame words store).store
lappend_kept frame [] store = same store
lappend_kept frame (name ∷ values) store = variable_kept frame name _ _ store

-- ── `unset` ──

unset_told_kept : (quiet : Bool) (name : List ℕ) (store : Store) (r : Result Store UnsetFault) → KeepsIf store r → KeepsIf store (unset_told quiet name store r)
unset_told_kept quiet name store (Ok new) one = one
unset_told_kept true name store (Err fault) one = same store
unset_told_kept false name store (Err fault) one = tt

unset_step_kept : (quiet : Bool) (frame : ℕ) (name : List ℕ) (store : Store) → KeepsIf store (unset_step quiet frame name store)
unset_step_kept quiet frame name store = unset_told_kept quiet name store (without_variable store frame name) (variable_unset store frame name)

unset_each_kept : (quiet : Bool) (frame : ℕ) (names : List (List ℕ)) (store : Store) → Keeps store (unset_each quiet frame names store).store
unset_each_kept quiet frame names store = each_kept (unset_step quiet frame) (unset_step_kept quiet frame) names store

unset_kept : (frame : ℕ) (words : List (List ℕ)) (store : Store) → Keeps store (unset_words frame words store).store
unset_kept frame [] store = same store
unset_kept frame (first ∷ others) store = by (bytes_eq first (codes "-nocomplain"))
  where
    by : (b : Bool) → Keeps store (cond b (unset_each true frame others store) (unset_each false frame (first ∷ others) store)).store
    by true = unset_each_kept true frame others store
    by false = unset_each_kept false frame (first ∷ others) store

-- ── `array` ──

set_told_kept : (name : List ℕ) (store : Store) (r : Result Store SetFault) → KeepsIf store r → KeepsIf store (set_told name r)
set_told_kept name store (Ok new) one = one
set_told_kept name store (Err fault) one = tt

set_element_kept : (frame : ℕ) (name : List ℕ) (pair : List ℕ × List ℕ) (store : Store) → KeepsIf store (set_element frame name pair store)
set_element_kept frame name pair store = by (nat_le (length (element_name name pair.0)) 65536) refl
  where
    by : (b : Bool) → nat_le (length (element_name name pair.0)) 65536 ≡ b → KeepsIf store (set_element frame name pair store)
    by true is =
        rw is (set_told_kept (element_name name pair.0) store (with_element store frame name pair.0 pair.1) (element_set store frame name pair.0 pair.1))
    by false is = rw is tt

set_items_kept : (frame : ℕ) (name : List ℕ) (items : List (List ℕ)) (store : Store) → Keeps store (set_items frame name items store).store
set_items_kept frame name [] store = one_kept store (make_array frame name store) (set_told_kept name store (with_array store frame name) (array_made store frame name))
set_items_kept frame name (key ∷ items) store = by (is_element_in store frame name) refl
  where
    by : (b : Bool) → is_element_in store frame name ≡ b → Keeps store (set_items frame name (key ∷ items) store).store
    by true is = rw is (same store)
    by false is = rw is (each_kept (set_element frame name) (set_element_kept frame name) (pairs (key ∷ items)) store)

set_even_kept : (frame : ℕ) (name : List ℕ) (items : List (List ℕ)) (store : Store) (odd : Option (List ℕ)) → Keeps store (set_even frame name items store odd).store
set_even_kept frame name items store (Some key) = same store
set_even_kept frame name items store None = set_items_kept frame name items store

set_list_kept : (frame : ℕ) (name : List ℕ) (store : Store) (given : Result (List (List ℕ)) (List ℕ)) → Keeps store (set_list frame name store given).store
set_list_kept frame name store (Ok items) = set_even_kept frame name items store (odd_key items)
set_list_kept frame name store (Err text) = same store

array_set_kept : (frame : ℕ) (words : List (List ℕ)) (store : Store) → Keeps store (array_set frame words store).store
array_set_kept frame [] store = same store
array_set_kept frame (name ∷ []) store = same store
array_set_kept frame (name ∷ list ∷ []) store = set_list_kept frame name store (items_in list)
array_set_kept frame (name ∷ list ∷ word ∷ words) store = same store

unset_array_kept : (frame : ℕ) (name : List ℕ) (store : Store) (elements : Option (Table (List ℕ))) → Keeps store (unset_array frame name store elements).store
unset_array_kept frame name store None = same store
unset_array_kept frame name store (Some elements) = one_kept store (unset_step true frame name store) (unset_step_kept true frame name store)

array_unset_kept : (frame : ℕ) (words : List (List ℕ)) (store : Store) → Keeps store (array_unset frame words store).store
array_unset_kept frame [] store = same store
array_unset_kept frame (name ∷ []) store = unset_array_kept frame name store (elements_in store frame name)
array_unset_kept frame (name ∷ pattern ∷ []) store = elements_unset store frame name pattern
array_unset_kept frame (name ∷ pattern ∷ word ∷ words) store = same store

array_done_kept : (named : ArrayCommand) (frame : ℕ) (words : List (List ℕ)) (store : Store) → Keeps store (array_done named frame words store).store
array_done_kept sub.Exists frame words store = same store
array_done_kept sub.Names frame words store = same store
array_done_kept sub.Get frame words store = same store
array_done_kept sub.Set frame words store = array_set_kept frame words store
array_done_kept sub.Unset frame words store = array_unset_kept frame words store
array_done_kept sub.Size frame words store = same store

array_kept : (frame : ℕ) (words : List (List ℕ)) (store : Store) → Keeps store (array_words frame words store).store
array_kept frame [] store = same store
array_kept frame (name ∷ words) store = by (array_command_named name)
  where
    by : (named : Option ArrayCommand) → Keeps store (array_by name named frame words store).store
    by None = same store
    by (Some named) = array_done_kept named frame words store

-- ── `global`, `upvar` ──

global_told_kept : (name : List ℕ) (store : Store) (r : Result Store LinkFault) → KeepsIf store r → KeepsIf store (global_told name r)
global_told_kept name store (Ok new) one = one
global_told_kept name store (Err fault) one = tt

global_kept : (frame : ℕ) (words : List (List ℕ)) (store : Store) → Keeps store (global_words frame words store).store
global_kept frame [] store = same store
global_kept frame (name ∷ names) store = by (frame == 0) refl
  where
    by : (b : Bool) → (frame == 0) ≡ b → Keeps store (cond b (record { store = store; answer = Ok [] }) (each_done (global_step frame) (name ∷ names) store)).store
    by true is = same store
    by false is =
        each_kept (global_step frame)
        (λ name store. global_told_kept name store (with_link store frame (global_name name) 0 (global_name name))
        (linked store frame (global_name name) 0 (global_name name) (let other = eqb-false frame 0 is in omega (arith, other)))) (name ∷ names) store

link_told_kept : (name : List ℕ) (store : Store) (r : Result Store LinkFault) → KeepsIf store r → KeepsIf store (link_told name r)
link_told_kept name store (Ok new) one = one
link_told_kept name store (Err fault) one = tt

upvar_kept : (frame to : ℕ) → to < frame → (names : List (List ℕ)) (store : Store) → Keeps store (upvar_words frame to names store).store
upvar_kept frame to lt [] store = same store
upvar_kept frame to lt (other ∷ names) store = by (length (other ∷ names) % 2 == 0) refl
  where
    linked_each : Keeps store (link_pairs frame to (other ∷ names) store).store
    linked_each =
        each_kept (upvar_step frame to) (λ pair store. link_told_kept pair.1 store (with_link store frame pair.1 to pair.0) (linked store frame pair.1 to pair.0 lt))
        (pairs (other ∷ names)) store

    by : (b : Bool) → (length (other ∷ names) % 2 == 0) ≡ b → Keeps store (upvar_words frame to (other ∷ names) store).store
    by true is = rw is linked_each
    by false is = rw is (same store)

-- ── all commands on variables ──

pub command_kept : (named : VariableCommand) (frame : ℕ) (words : List (List ℕ)) (store : Store) → Keeps store (command_done named frame words store).store
command_kept variable.Set frame words store = set_kept frame words store
command_kept variable.Unset frame words store = unset_kept frame words store
command_kept variable.Incr frame words store = incr_kept frame words store
command_kept variable.Append frame words store = append_kept frame words store
command_kept variable.Lappend frame words store = lappend_kept frame words store
command_kept variable.Array frame words store = array_kept frame words store
command_kept variable.Global frame words store = global_kept frame words store

linked_kept : (word : List ℕ) (names : List (List ℕ)) (frame : ℕ) (store : Store) (place : Option ℕ) → Keeps store (linked_ending word names frame store place).store
linked_kept word names frame store None = same store
linked_kept word names frame store (Some to) = by (nat_lt to frame) refl
  where
    by : (b : Bool) → nat_lt to frame ≡ b → Keeps store (linked_ending word names frame store (Some to)).store
    by true is = rw is (upvar_kept frame to (ltb-true to frame is) names store)
    by false is = rw is (same store)

pub upvar_ending_kept : (levels : List ℕ) (words : List (List ℕ)) (store : Store) → Keeps store (upvar_ending levels words store).store
upvar_ending_kept levels [] store = same store
upvar_ending_kept levels (word ∷ []) store = same store
upvar_ending_kept levels (word ∷ other ∷ names) store = by (length (word ∷ other ∷ names) % 2 == 0)
  where
    at : (word : List ℕ) (names : List (List ℕ)) → Keeps store (upvar_at levels word names store).store
    at word names = linked_kept word names (here levels store) store (place_among levels store (levels_left (length levels) word))

    by : (b : Bool) → Keeps store (cond b (upvar_at levels (codes "1") (word ∷ other ∷ names) store) (upvar_at levels word (other ∷ names) store)).store
    by true = at (codes "1") (word ∷ other ∷ names)
    by false = at word (other ∷ names)

-- ── `catch`, `foreach` ──

pub caught_kept : (frame : ℕ) (name : Option (List ℕ)) (code : Code) (text : List ℕ) (store : Store) → Keeps store (caught_ending frame name code text store).store
caught_kept frame None code text store = same store
caught_kept frame (Some name) code text store = by (with_variable store frame name text) (variable_set store frame name text)
  where
    by : (r : Result Store SetFault) → KeepsIf store r → Keeps store (stored_ending (code_number code) name store r).store
    by (Ok new) one = one
    by (Err fault) one = same store

pub on_set_kept : (name : List ℕ) (store : Store) (rest : Store → Assigned) (r : Result Store SetFault) → KeepsIf store r → ((new : Store) → Keeps new (rest new).store)
    → Keeps store (on_set name store rest r).store
on_set_kept name store rest (Ok new) one others = after store new (rest new).store one (others new)
on_set_kept name store rest (Err fault) one others = same store

assigned_kept : (frame : ℕ) (names items : List (List ℕ)) (store : Store) → Keeps store (assigned frame names items store).store
assigned_kept frame [] items store = same store
assigned_kept frame (name ∷ names) items store =
    on_set_kept name store (assigned frame names (drop 1 items)) (with_variable store frame name (first_item items)) (variable_set store frame name (first_item items))
    (λ new. assigned_kept frame names (drop 1 items) new)

on_assigned_kept : (store : Store) (rest : Store → Assigned) (one : Assigned) → Keeps store one.store → ((new : Store) → Keeps new (rest new).store) → Keeps store (on_assigned rest one).store
on_assigned_kept store rest one kept others = by one.refused
  where
    by : (refused : Option (List ℕ)) → Keeps store (behind_assigned rest one refused).store
    by None = after store one.store (rest one.store).store kept (others one.store)
    by (Some text) = kept

groups_kept : (frame : ℕ) (groups : List Group) (store : Store) → Keeps store (groups_assigned frame groups store).store
groups_kept frame [] store = same store
groups_kept frame (group ∷ groups) store =
    on_assigned_kept store (groups_assigned frame groups) (assigned frame group.names group.items store) (assigned_kept frame group.names group.items store)
    (λ new. groups_kept frame groups new)

-- what a test leaves
abbrev pub tested_store : Tested → Store
tested_store (More store groups) = store
tested_store (NoMore store) = store
tested_store (Fails store text) = store

pub tested_kept : (frame : ℕ) (groups : List Group) (store : Store) → Keeps store (tested_store (items_tested frame groups store))
tested_kept frame groups store = by (list_any has_more groups)
  where
    done : Assigned
    done = groups_assigned frame groups store

    told : (refused : Option (List ℕ)) → done.refused ≡ refused → Keeps store (tested_store (after_assigned groups done))
    told None is = rw is (groups_kept frame groups store)
    told (Some text) is = rw is (groups_kept frame groups store)

    by : (b : Bool) → Keeps store (tested_store (cond b (after_assigned groups done) (NoMore store)))
    by true = told done.refused refl
    by false = same store
