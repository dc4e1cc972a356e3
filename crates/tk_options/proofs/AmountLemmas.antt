-- What setting an option does to the amounts.
use Rattle.std.proofs.Common.{◌≡◌, ◌≤◌, ℕ, ℤ, pos, negsuc, List, [], ◌∷◌, Option, Some, None, Bool, true, false, cond, nat_le, bytes_eq, refl, sym, ap, ◌∙◌, arith}
use Rattle.std.specs.Prelude.{find, option_map, is_some, unwrap_or}
use Rattle.std.specs.Option.{option_map_or}
use Rattle.std.proofs.lemmas.Bool.{leb-true}
use Rattle.std.proofs.lemmas.Slice.Eq.{bytes_eq-Decides}
use Rattle.tk_options.specs.Amounts.{amount_kept, amount_read, amounts_of, with_amount}
use Rattle.tk_options.specs.Entries.{with_option}
use Rattle.tcl_text.specs.Readings.{integer_of}
use Rattle.tk_options.specs.Forms.{amount, amount_in, most_amount}
use Rattle.tk_options.specs.Names.{name_of}
use Rattle.tk_options.specs.Options.{amount_of, first_set, is_named, value_of, with_value}
use Rattle.tk_options.specs.declared.amounts.Amounts.{Amounts}
use Rattle.tk_options.specs.declared.option.OptionEntry.{OptionEntry}
use Rattle.tk_options.specs.declared.option.OptionName.{OptionName}
use Rattle.tk_options.specs.declared.option.OptionName.TheVariants.{Anchor, Background, BorderWidth, Command, Foreground, Height, PadX, PadY, Relief, SelectMode, State, Text, TextVariable, Width}

-- the value found under a name
abbrev found_value : List ℕ → List OptionEntry → Option (List ℕ)
found_value name table = option_map (λ entry. entry.value) (find (is_named name) table)

-- an option of one name hasn't another
not_both : (one other own : List ℕ) → bytes_eq own one ≡ true → bytes_eq one other ≡ false → bytes_eq own other ≡ false
not_both one other own is differ = ap (λ (name : List ℕ). bytes_eq name other) ((bytes_eq-Decides own one).0 is) ∙ differ

same_name : (name : List ℕ) → bytes_eq name name ≡ true
same_name name = (bytes_eq-Decides name name).1 refl

-- ---- one value set

set_same : (name value : List ℕ) (table : List OptionEntry) → is_some (find (is_named name) table) ≡ true
    → found_value name (first_set (is_named name) value table) ≡ Some value
set_same name value [] some = absurd (cc)
set_same name value (e ∷ table) some = by (is_named name e) refl some (set_same name value table)
  where
    by : (b : Bool) → is_named name e ≡ b → is_some (cond b (Some e) (find (is_named name) table)) ≡ true
        → (is_some (find (is_named name) table) ≡ true → found_value name (first_set (is_named name) value table) ≡ Some value)
        → found_value name (cond b ((record e { value = value }) ∷ table) (e ∷ first_set (is_named name) value table)) ≡ Some value
    by true is some rest = rw is refl
    by false is some rest = rw is (rest some)

set_other : (one other value : List ℕ) (table : List OptionEntry) → bytes_eq one other ≡ false
    → found_value other (first_set (is_named one) value table) ≡ found_value other table
set_other one other value [] differ = refl
set_other one other value (e ∷ table) differ = by (is_named one e) refl (is_named other e) refl (set_other one other value table differ)
  where
    by : (b : Bool) → is_named one e ≡ b → (c : Bool) → is_named other e ≡ c
        → found_value other (first_set (is_named one) value table) ≡ found_value other table
        → found_value other (cond b ((record e { value = value }) ∷ table) (e ∷ first_set (is_named one) value table))
        ≡ option_map (λ (entry : OptionEntry). entry.value) (cond c (Some e) (find (is_named other) table))
    by true is true at rest = absurd (cc (not_both one other (name_of e.option) is differ))
    by true is false at rest = rw at refl
    by false is true at rest = rw at refl
    by false is false at rest = rw at rest

-- ---- one option more

added_same : (e : OptionEntry) (table : List OptionEntry) → found_value (name_of e.option) (with_option e table) ≡ Some e.value
added_same e [] = rw (same_name (name_of e.option)) refl
added_same e (x ∷ table) = by (is_named (name_of e.option) x) refl (added_same e table)
  where
    by : (b : Bool) → is_named (name_of e.option) x ≡ b → found_value (name_of e.option) (with_option e table) ≡ Some e.value
        → found_value (name_of e.option) (cond b (e ∷ table) (x ∷ with_option e table)) ≡ Some e.value
    by true is rest = rw (same_name (name_of e.option)) refl
    by false is rest = rw is rest

added_other : (e : OptionEntry) (other : List ℕ) (table : List OptionEntry) → bytes_eq (name_of e.option) other ≡ false
    → found_value other (with_option e table) ≡ found_value other table
added_other e other [] differ = rw differ refl
added_other e other (x ∷ table) differ = by (is_named (name_of e.option) x) refl (is_named other x) refl (added_other e other table differ)
  where
    by : (b : Bool) → is_named (name_of e.option) x ≡ b → (c : Bool) → is_named other x ≡ c
        → found_value other (with_option e table) ≡ found_value other table
        → found_value other (cond b (e ∷ table) (x ∷ with_option e table)) ≡ option_map (λ (entry : OptionEntry). entry.value) (cond c (Some x) (find (is_named other) table))
    by true is true at rest = absurd (cc (not_both (name_of e.option) other (name_of x.option) is differ))
    by true is false at rest = rw differ refl
    by false is true at rest = rw at refl
    by false is false at rest = rw at rest

-- ---- the amounts

amount_by : (p : OptionName) (table : List OptionEntry) (found : Option (List ℕ)) → value_of p table ≡ found → amount_of p table ≡ option_map_or amount_read found 0
unfolding amount_of
amount_by p table found is = ap (λ (v : Option (List ℕ)). option_map_or amount_read v 0) is

amount_as : (p : OptionName) (table other : List OptionEntry) → value_of p table ≡ value_of p other → amount_of p table ≡ amount_of p other
unfolding amount_of
amount_as p table other is = ap (λ (v : Option (List ℕ)). option_map_or amount_read v 0) is

-- a table in which one option has a value, and every other that it had
record IsSet (o : OptionName) (value : List ℕ) (old new : List OptionEntry) : Type 0 where
  own : value_of o new ≡ Some value
  others : (p : OptionName) → bytes_eq (name_of o) (name_of p) ≡ false → value_of p new ≡ value_of p old

abbrev the_amounts : ℕ → ℕ → ℕ → ℕ → ℕ → Amounts
the_amounts b h x y w = record { border_width = b; height = h; pad_x = x; pad_y = y; width = w }

rebuilt : (b h x y w b' h' x' y' w' : ℕ) → b ≡ b' → h ≡ h' → x ≡ x' → y ≡ y' → w ≡ w'
    → the_amounts b h x y w ≡ the_amounts b' h' x' y' w'
rebuilt b h x y w b' h' x' y' w' eb eh ex ey ew = rw (eb, eh, ex, ey, ew) refl

module _ (value : List ℕ) (old new : List OptionEntry) where
  same : (o p : OptionName) → IsSet o value old new → bytes_eq (name_of o) (name_of p) ≡ false → amount_of p new ≡ amount_of p old
  same o p set differ = amount_as p new old (set.others p differ)

  own : (o : OptionName) → IsSet o value old new → amount_of o new ≡ amount_read value
  own o set = amount_by o new (Some value) set.own

  others_same : (o : OptionName) → IsSet o value old new → bytes_eq (name_of o) (name_of BorderWidth) ≡ false → bytes_eq (name_of o) (name_of Height) ≡ false
      → bytes_eq (name_of o) (name_of PadX) ≡ false → bytes_eq (name_of o) (name_of PadY) ≡ false → bytes_eq (name_of o) (name_of Width) ≡ false
      → amounts_of new ≡ amounts_of old
  others_same o set b h x y w =
      rebuilt _ _ _ _ _ _ _ _ _ _ (same o BorderWidth set b) (same o Height set h) (same o PadX set x) (same o PadY set y) (same o Width set w)

  is_set : (o : OptionName) → IsSet o value old new → amounts_of new ≡ with_amount o (amount_read value) (amounts_of old)
  is_set BorderWidth set = rebuilt _ _ _ _ _ _ _ _ _ _ (own BorderWidth set) (same BorderWidth Height set refl) (same BorderWidth PadX set refl) (same BorderWidth PadY set refl) (same BorderWidth Width set refl)
  is_set Height set = rebuilt _ _ _ _ _ _ _ _ _ _ (same Height BorderWidth set refl) (own Height set) (same Height PadX set refl) (same Height PadY set refl) (same Height Width set refl)
  is_set PadX set = rebuilt _ _ _ _ _ _ _ _ _ _ (same PadX BorderWidth set refl) (same PadX Height set refl) (own PadX set) (same PadX PadY set refl) (same PadX Width set refl)
  is_set PadY set = rebuilt _ _ _ _ _ _ _ _ _ _ (same PadY BorderWidth set refl) (same PadY Height set refl) (same PadY PadX set refl) (own PadY set) (same PadY Width set refl)
  is_set Width set = rebuilt _ _ _ _ _ _ _ _ _ _ (same Width BorderWidth set refl) (same Width Height set refl) (same Width PadX set refl) (same Width PadY set refl) (own Width set)
  is_set Anchor set = others_same Anchor set refl refl refl refl refl
  is_set Background set = others_same Background set refl refl refl refl refl
  is_set Command set = others_same Command set refl refl refl refl refl
  is_set Foreground set = others_same Foreground set refl refl refl refl refl
  is_set Relief set = others_same Relief set refl refl refl refl refl
  is_set SelectMode set = others_same SelectMode set refl refl refl refl refl
  is_set State set = others_same State set refl refl refl refl refl
  is_set Text set = others_same Text set refl refl refl refl refl
  is_set TextVariable set = others_same TextVariable set refl refl refl refl refl

-- an option that is there is set
pub amounts_put : (o : OptionName) (value : List ℕ) (table : List OptionEntry) → is_some (find (is_named (name_of o)) table) ≡ true
    → amounts_of (with_value o value table) ≡ with_amount o (amount_read value) (amounts_of table)
amounts_put o value table some =
    is_set value table (with_value o value table) o
    (record { own = set_same (name_of o) value table some; others = λ p differ. set_other (name_of o) (name_of p) value table differ })

-- an option is added
pub amounts_added : (e : OptionEntry) (table : List OptionEntry) → amounts_of (with_option e table) ≡ with_amount e.option (amount_read e.value) (amounts_of table)
amounts_added e table =
    is_set e.value table (with_option e table) e.option (record { own = added_same e table; others = λ p differ. added_other e (name_of p) table differ })

-- what is kept of an option is its amount
pub kept_is : (o : OptionName) (table : List OptionEntry) (n : ℕ) → amount_kept o (amounts_of table) ≡ Some n → n ≡ amount_of o table
kept_is BorderWidth table n is = cc
kept_is Height table n is = cc
kept_is PadX table n is = cc
kept_is PadY table n is = cc
kept_is Width table n is = cc
kept_is Anchor table n is = absurd (cc)
kept_is Background table n is = absurd (cc)
kept_is Command table n is = absurd (cc)
kept_is Foreground table n is = absurd (cc)
kept_is Relief table n is = absurd (cc)
kept_is SelectMode table n is = absurd (cc)
kept_is State table n is = absurd (cc)
kept_is Text table n is = absurd (cc)
kept_is TextVariable table n is = absurd (cc)

-- ---- no amount passes the most

amount_bound : (number : Option ℤ) → unwrap_or (amount number) 0 ≤ most_amount
amount_bound None = omega arith
amount_bound (Some (negsuc n)) = omega arith
amount_bound (Some (pos n)) = by (nat_le n most_amount) refl
  where
    by : (b : Bool) → nat_le n most_amount ≡ b → unwrap_or (cond b (Some n) None) 0 ≤ most_amount
    by true is = leb-true n most_amount is
    by false is = omega arith

read_bound : (value : List ℕ) → amount_read value ≤ most_amount
unfolding amount_in
read_bound value = amount_bound (integer_of value)

pub amount_of_bound : (o : OptionName) (table : List OptionEntry) → amount_of o table ≤ most_amount
unfolding amount_of
amount_of_bound o table = by (value_of o table)
  where
    by : (found : Option (List ℕ)) → option_map_or amount_read found 0 ≤ most_amount
    by None = omega arith
    by (Some value) = read_bound value

pub kept_bound : (o : OptionName) (amounts : Amounts) (table : List OptionEntry) (n : ℕ) → amounts ≡ amounts_of table → amount_kept o amounts ≡ Some n → n ≤ most_amount
kept_bound o amounts table n read is = rw (kept_is o table n (ap (amount_kept o) (sym read) ∙ is)) (amount_of_bound o table)
