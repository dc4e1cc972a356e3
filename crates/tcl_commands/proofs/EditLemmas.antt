-- Commands that change a text in place.
use Rattle.std.proofs.Common.{◌≡◌, ℕ, ◌<◌, Bool, true, false, Bor, List, [], ◌∷◌, ◌++◌, length, if◌then◌else◌, nat_le, Ok, Err, Result, refl, ap, ◌∙◌, arith}
use Rattle.std.specs.List.{concat}
use Rattle.tcl_text.specs.Answers.{Answer, answers, limit_text, items_in, items_or_error, ◌>>=◌}
use Rattle.tcl_text.specs.Edit.{edited, within_limit, with_more, written_anew}
use Rattle.tcl_text.specs.Readings.{list_of, list_form}
use Rattle.tcl_text.specs.declared.fault.ListFault.{ListFault}
use Rattle.tcl_text.specs.declared.edit.Edit.TheVariants.{Characters, Items}
use Rattle.tcl_text.specs.declared.fault.EditFault.TheVariants as edits
use Rattle.tcl_vars.specs.Store.{Store, variable_in}
use Rattle.tcl_commands.specs.Edits.{edit_told, edit_answer}
use Rattle.tcl_commands.specs.Values.{value_or, variable_changed, changed_to, lengthened, with_items}

same_change : (level : ℕ) (name : List ℕ) (store : Store) (f g : List ℕ → Answer) → ((value : List ℕ) → f value ≡ g value) → (read : Answer)
    → changed_to level name store (read >>= f) ≡ changed_to level name store (read >>= g)
same_change level name store f g same (Ok value) = ap (changed_to level name store) (same value)
same_change level name store f g same (Err text) = refl

limited : (b : Bool) (text : List ℕ) → edit_told (if b then Ok text else Err edits.TooLong) ≡ (if b then Ok text else Err limit_text)
limited true text = refl
limited false text = refl

within : (text : List ℕ) → edit_told (within_limit text) ≡ answers text
unfolding within_limit answers
within text = limited (nat_le (length text) 65536) text

characters_same : (characters : Bor (List ℕ)) (more : List ℕ) → characters.now ≡ more → (value : List ℕ) → edit_answer (Characters characters) value ≡ answers (value ++ more)
unfolding edited
characters_same characters more same value = within (value ++ characters.now) ∙ ap (λ t. answers (value ++ t)) same

pub appends : (characters : Bor (List ℕ)) (values : List (List ℕ)) (level : ℕ) (name : List ℕ) (store : Store) → characters.now ≡ concat values
    → variable_changed level name [] (edit_answer (Characters characters)) store ≡ variable_changed level name [] (λ value. answers (value ++ concat values)) store
appends characters values level name store same =
    same_change level name store (edit_answer (Characters characters)) (λ value. answers (value ++ concat values)) (characters_same characters (concat values) same) (value_or [] name (variable_in store level name))

listed : (read : Result (List (List ℕ)) ListFault) (value v : List ℕ) (vs : List (List ℕ))
    → edit_told (written_anew (with_more (v ∷ vs) read)) ≡ (items_or_error read >>= lengthened value (v ∷ vs))
listed (Ok items) value v vs = within (list_form (items ++ v ∷ vs))
listed (Err fault) value v vs = refl

items_same : (items : Bor (List (List ℕ))) (v : List ℕ) (vs : List (List ℕ)) → items.now ≡ v ∷ vs → (value : List ℕ) → edit_answer (Items items) value ≡ with_items (v ∷ vs) value
unfolding edited items_in
items_same items v vs same value = ap (λ more. edit_told (written_anew (with_more more (list_of value)))) same ∙ listed (list_of value) value v vs

pub lappends : (items : Bor (List (List ℕ))) (values : List (List ℕ)) (level : ℕ) (name : List ℕ) (store : Store) → items.now ≡ values → 0 < length values
    → variable_changed level name [] (edit_answer (Items items)) store ≡ variable_changed level name [] (with_items values) store
lappends items [] level name store same some = absurd (omega (arith, some))
lappends items (v ∷ vs) level name store same some =
    same_change level name store (edit_answer (Items items)) (with_items (v ∷ vs)) (items_same items v vs same) (value_or [] name (variable_in store level name))
