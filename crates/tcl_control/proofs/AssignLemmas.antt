-- Names are given the items that are taken, one after another, and the empty text where there is none.
use Rattle.std.proofs.Common.{◌≡◌, ℕ, zero, suc, ◌+◌, ◌<◌, List, [], ◌∷◌, ◌++◌, map, take, drop, length, get_or, Option, Some, None, Result, Ok, Err, refl, arith, ap, sym, ◌∙◌}
use Rattle.std.proofs.lemmas.List.{drop-drop}
use Rattle.tcl_vars.specs.Store.{Store, with_variable}
use Rattle.tcl_table.specs.Texts.{cannot_set_text}
use Rattle.tcl_control.specs.Assign.{Assigned, done, on_set, first_item, assigned, on_assigned}
use Rattle.tcl_text.specs.declared.fault.SetFault.{SetFault}

pub item_taken : (old new : List (List ℕ)) (item : List ℕ) → old ≡ item ∷ new → item ≡ first_item old
item_taken old new item is = sym (ap first_item is)

pub item_left : (old new : List (List ℕ)) (item : List ℕ) → old ≡ item ∷ new → new ≡ drop 1 old
item_left old new item is = sym (ap (λ (items : List (List ℕ)). drop 1 items) is)

pub none_taken : (old : List (List ℕ)) → old ≡ [] → [] ≡ first_item old
none_taken old none = sym (ap first_item none)

pub none_left : (old new : List (List ℕ)) → old ≡ [] → new ≡ [] → new ≡ drop 1 old
none_left old new none left = left ∙ sym (ap (λ (items : List (List ℕ)). drop 1 items) none)

pub ruleset first_taken = (item_taken, item_left, none_taken, none_left)

-- a name that could be set
set_goes : (name : List ℕ) (before after : Store) (rest : Store → Assigned) (set : Result Store SetFault) → record { store = after; refused = None } ≡ on_set name before done set → rest after ≡ on_set name before rest set
set_goes name before after rest (Ok changed) is = ap (λ (all : Assigned). rest all.store) is
set_goes name before after rest (Err fault) is = let e : None ≡ Some (cannot_set_text name fault) = ap (λ (all : Assigned). all.refused) is in absurd cc

pub name_goes : (frame : ℕ) (name : List ℕ) (names items left : List (List ℕ)) (value : List ℕ) (before after : Store) (refused : Option (List ℕ)) → refused ≡ None
    → record { store = after; refused = refused } ≡ on_set name before done (with_variable before frame name value) → value ≡ first_item items → left ≡ drop 1 items
    → assigned frame names left after ≡ assigned frame (name ∷ names) items before
name_goes frame name names items left value before after refused none set is behind =
    set_goes name before after (assigned frame names left) (with_variable before frame name value) (ap (λ (text : Option (List ℕ)). let all : Assigned = record { store = after; refused = text } in all) (sym none) ∙ set)
    ∙ ap (λ (others : List (List ℕ)). on_set name before (assigned frame names others) (with_variable before frame name value)) behind
    ∙ ap (λ (first : List ℕ). on_set name before (assigned frame names (drop 1 items)) (with_variable before frame name first)) is

-- the first of the names that are left could be set
pub name_read : (frame : ℕ) (rest others : List (List ℕ)) (name : List ℕ) (items left : List (List ℕ)) (value : List ℕ) (before after : Store) (refused : Option (List ℕ)) → rest ≡ name ∷ others → refused ≡ None
    → record { store = after; refused = refused } ≡ on_set name before done (with_variable before frame name value) → value ≡ first_item items → left ≡ drop 1 items
    → assigned frame others left after ≡ assigned frame rest items before
name_read frame rest others name items left value before after refused cut none set is behind =
    name_goes frame name others items left value before after refused none set is behind ∙ ap (λ (those : List (List ℕ)). assigned frame those items before) (sym cut)

-- it has taken its item
pub items_left : (rest others : List (List ℕ)) (name : List ℕ) (items left : List (List ℕ)) → rest ≡ name ∷ others → left ≡ drop 1 items → drop (length others) left ≡ drop (length rest) items
items_left rest others name items left cut behind =
    let count : 1 + length others ≡ length rest = omega (arith, ap length cut) in
    ap (λ (those : List (List ℕ)). drop (length others) those) behind ∙ drop-drop (length others) 1 items ∙ ap (λ (number : ℕ). drop number items) count

-- a group, each of whose names could be set
pub group_goes : (rest : Store → Assigned) (after : Store) (refused : Option (List ℕ)) (all : Assigned) → refused ≡ None → record { store = after; refused = refused } ≡ all → rest after ≡ on_assigned rest all
group_goes rest after refused all none is =
    ap (λ (text : Option (List ℕ)). on_assigned rest (record { store = after; refused = text })) (sym none) ∙ ap (λ (those : Assigned). on_assigned rest those) is

-- the next of the groups is as it was
pub next_as_it_was : {X : Type 0} (f : X → X) (xs : List X) (k : ℕ) (d : X) → k < length xs → get_or (map f (take k xs) ++ drop k xs) k d ≡ get_or xs k d
next_as_it_was f [] k d inside = absurd (omega arith)
next_as_it_was f (x ∷ xs) zero d inside = refl
next_as_it_was f (x ∷ xs) (suc k) d inside = next_as_it_was f xs k d (omega arith)
