-- Meaning. What the values of a table say, and that nothing is said where a value is another than is wanted.
use Rattle.std.specs.Prelude.{◌≡◌, ℕ, Bool, ◌&&◌, ◌==◌, not, nat_le, if◌then◌else◌, List, [], ◌∷◌, ◌++◌, length, find, position, codes, is_none, Option, Some, None, option_map, unwrap_or, Result, MatchResult}
use Rattle.std.specs.List.{list_any}
use Rattle.std.specs.Str.{bytes_eq}
use Rattle.tcl_text.specs.Limits.{most_bytes}
use Rattle.tk_base.specs.declared.rect.Rect.{Rect}
use Rattle.tk_session.specs.Reading.{◌>>=◌}
use Rattle.tk_session.specs.declared.session.AppBlock.{AppBlock}
use Rattle.toml.specs.Data.{Data, Items, no_items, item, Members, array, boolean, get_member, string, table}
use Rattle.panels_bench.specs.Panels.{most_pixels}
use Rattle.panels_text.specs.Tables.{IsSaid, keys_of, number_in, values_of}
use Rattle.panels_text.specs.declared.failure.Failure.{Failure}

-- what is answered is what is said, and a refusal in words comes just where nothing is said
abbrev pub Says : {T A : Type 0} → (T → A) → Result T Failure → Option A → Type 0
Says view result said = MatchResult result (λ value. said ≡ Some (view value)) (λ failure. IsSaid failure → said ≡ None)

-- ---- values that may be missing

abbrev pub text_if : Option Data → Option (Option (List ℕ))
text_if None = Some None
text_if (Some (string text)) = Some (Some text)
text_if (Some _) = None

abbrev pub flag_if : Option Data → Option (Option Bool)
flag_if None = Some None
flag_if (Some (boolean value)) = Some (Some value)
flag_if (Some _) = None

-- a whole number from 0 to the most
abbrev pub number_if : ℕ → Option Data → Option (Option ℕ)
number_if most None = Some None
number_if most (Some value) = option_map (λ number. Some number) (number_in most (Some value))

abbrev pub are_known : List (List ℕ) → Members → Bool
are_known known members = is_none (find (λ key. not (list_any (λ other. bytes_eq other key) known)) (keys_of members))

-- a table that has no other keys than these
abbrev pub table_if : List (List ℕ) → Option Data → Option (Option Members)
table_if known None = Some None
table_if known (Some (table members)) = if are_known known members then Some (Some members) else None
table_if known (Some _) = None

-- ---- values that have to be there

abbrev pub text_in : Option Data → Option (List ℕ)
text_in (Some (string text)) = Some text
text_in _ = None

-- the slot of a panel, by its name
abbrev pub slot_named : List AppBlock → List ℕ → Option ℕ
slot_named panels name = position (λ (panel : AppBlock). bytes_eq panel.name name) panels

-- the slot of the panel that a key names
abbrev pub slot_in : List AppBlock → Option Data → Option ℕ
slot_in panels value = text_in value >>= slot_named panels

-- two numbers of an array
abbrev pub both : Option ℕ → Option ℕ → Option (ℕ × ℕ)
both None other = None
both (Some one) None = None
both (Some one) (Some other) = Some (one, other)

abbrev pub pair_of : ℕ → Items → Option (ℕ × ℕ)
pair_of most (item one (item other no_items)) = both (number_in most (Some one)) (number_in most (Some other))
pair_of most _ = None

abbrev pub pair_in : ℕ → Option Data → Option (ℕ × ℕ)
pair_in most value = values_of value >>= pair_of most

-- the rectangle of `at` and `size`
abbrev pub rect_in : Members → Option Rect
rect_in members = do
  corner ← pair_in most_pixels (get_member (codes "at") members)
  size ← pair_in most_pixels (get_member (codes "size") members)
  Some (record { x = corner.0; y = corner.1; width = size.0; height = size.1 })

-- a number from 1 to the most, this one where it is missing
abbrev pub unless_zero : ℕ → Option ℕ
unless_zero number = if number == 0 then None else Some number

abbrev pub counted : ℕ → ℕ → Option Data → Option ℕ
counted first most value = number_if most value >>= λ said. unless_zero (unwrap_or said first)

-- a text that isn't too long
abbrev pub short : List ℕ → Option (List ℕ)
short text = if nat_le (length text) most_bytes then Some text else None

-- one, where it is said
abbrev pub one : {A : Type 0} → Option A → Option (List A)
one found = option_map (λ said. said ∷ []) found

-- what is said of a value, where it is there
abbrev pub if_there : {A B : Type 0} → (A → Option (List B)) → Option A → Option (List B)
if_there says None = Some []
if_there says (Some value) = says value

-- what all of many say, one after another: nothing where one says nothing
abbrev pub onto : {A : Type 0} → Option (List A) → Option (List A) → Option (List A)
onto None others = None
onto (Some said) others = option_map (λ more. said ++ more) others

abbrev pub all_said : {A : Type 0} → List (Option (List A)) → Option (List A)
all_said [] = Some []
all_said (said ∷ others) = onto said (all_said others)
