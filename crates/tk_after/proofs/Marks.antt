-- What one application has among the numbers of all.
use Rattle.std.proofs.Common.{◌≡◌, ◌≢◌, ℕ, ◌^◌, ◌<◌, Bool, true, false, List, [], ◌∷◌, ◌++◌, map, Option, Some, None, refl, sym, ap, ◌∙◌, subst, arith}
use Rattle.std.specs.Prelude.{◌==◌, option_map}
use Rattle.std.specs.BTreeMap.{insert_entry, is_at}
use Rattle.std.specs.BTreeMap.Range.{entries_between}
use Rattle.std.specs.List.{AllByRecursion}
use Rattle.std.specs.List.Sorted.{IsStrictlySortedBy}
use Rattle.std.specs.Map.{keys_of, lookup, remove_entry}
use Rattle.std.specs.declared.cmp.Ordering.TheVariants.{Less}
use Rattle.std.specs.declared.ops.Bound.TheVariants.{Included}
use Rattle.std.proofs.lemmas.Bool.{eqb-true, eq-eqb, ne_eqb}
use Rattle.std.proofs.lemmas.List.{map-append}
use Rattle.std.proofs.lemmas.Option.{none-some}
use Rattle.tk_base.specs.Bag.{values_of, listed}
use Rattle.tk_base.specs.Numbered.{numbered, without, AllBelow, AllAbove, IsRising}
use Rattle.tk_base.proofs.Orders.{gone_there}
use Rattle.tk_base.proofs.Owners.{item, values_of-append, listed_new}
use Rattle.tk_after.specs.declared.keys.Name.{Name}
use Rattle.tk_after.specs.Keys.{name_cmp, name, Mark, mark_number, mark_in, marks_in, mark_item, marks_of, IsNumber}
use Rattle.tk_after.proofs.KeyOrders.{at_name, other_owner, other_id, same_name, less_id, in_range}
use Rattle.tk_after.proofs.Lists.{in_order-rising, without_absent}
use Rattle.tk_after.proofs.Splits.{there, nowhere, comes, all_with, all_without}

abbrev Rows : Type 0
Rows = List (Name × Option ℕ)

-- ── a number that is looked for ──
look_by : (owner id : ℕ) (r : Name × Option ℕ) (rows : Rows) (b t : Bool) → (r.0.owner == owner) ≡ b → (r.0.id == id) ≡ t
    → lookup (is_at (name_cmp (name owner id))) rows ≡ option_map (λ (mark : Mark). mark.due) (numbered mark_number id (marks_of owner rows))
    → lookup (is_at (name_cmp (name owner id))) (r ∷ rows) ≡ option_map (λ (mark : Mark). mark.due) (numbered mark_number id (marks_of owner (r ∷ rows)))
look_by owner id r rows true true its_owner its_id rest = rw (at_name owner id r.0 its_owner its_id, its_owner, its_id) refl
look_by owner id r rows true false its_owner its_id rest = rw (other_id owner id r.0 its_id, its_owner, its_id) rest
look_by owner id r rows false t its_owner its_id rest = rw (other_owner owner id r.0 its_owner, its_owner) rest

pub look : (owner id : ℕ) (rows : Rows) → lookup (is_at (name_cmp (name owner id))) rows ≡ option_map (λ (mark : Mark). mark.due) (numbered mark_number id (marks_of owner rows))
look owner id [] = refl
look owner id (r ∷ rows) = look_by owner id r rows (r.0.owner == owner) (r.0.id == id) refl refl (look owner id rows)

no_mark : (o : Option Mark) → option_map (λ (mark : Mark). mark.due) o ≡ None → o ≡ None
no_mark None is = refl
no_mark (Some mark) is = absurd (none-some _ (sym is))

-- ── they rise ──
above_by : (k : Name) (owner : ℕ) (r : Name × Option ℕ) (rows : Rows) (b : Bool) → (r.0.owner == owner) ≡ b → k.owner ≡ owner → name_cmp k r.0 ≡ Less → AllAbove mark_number k.id (marks_of owner rows) → AllAbove mark_number k.id (marks_of owner (r ∷ rows))
above_by k owner r rows true is its_owner less rest = rw is (less_id k r.0 (its_owner ∙ sym (eqb-true r.0.owner owner is)) less, rest)
above_by k owner r rows false is its_owner less rest = rw is rest

above : (k : Name) (owner : ℕ) (rows : Rows) → k.owner ≡ owner → AllByRecursion (λ y. name_cmp k y ≡ Less) (keys_of rows) → AllAbove mark_number k.id (marks_of owner rows)
above k owner [] its_owner less = tt
above k owner (r ∷ rows) its_owner less = above_by k owner r rows (r.0.owner == owner) refl its_owner less.0 (above k owner rows its_owner less.1)

rising_by : (owner : ℕ) (r : Name × Option ℕ) (rows : Rows) (b : Bool) → (r.0.owner == owner) ≡ b → AllByRecursion (λ y. name_cmp r.0 y ≡ Less) (keys_of rows) → IsRising mark_number (marks_of owner rows) → IsRising mark_number (marks_of owner (r ∷ rows))
rising_by owner r rows true is less rest = rw is (above r.0 owner rows (eqb-true r.0.owner owner is) less, rest)
rising_by owner r rows false is less rest = rw is rest

pub marks_rising : (owner : ℕ) (rows : Rows) → IsStrictlySortedBy name_cmp (keys_of rows) → IsRising mark_number (marks_of owner rows)
unfolding IsStrictlySortedBy
marks_rising owner [] sorted = tt
marks_rising owner (r ∷ rows) sorted = rising_by owner r rows (r.0.owner == owner) refl sorted.0 (marks_rising owner rows sorted.1)

-- ── a range of them ──
between_by : (owner : ℕ) (r : Name × Option ℕ) (rows : Rows) (b : Bool) → (r.0.owner == owner) ≡ b → r.0.id < 2 ^ 64
    → marks_in (entries_between name_cmp (Included (name owner 0)) (Included (name owner 18446744073709551615)) rows) ≡ marks_of owner rows
    → marks_in (entries_between name_cmp (Included (name owner 0)) (Included (name owner 18446744073709551615)) (r ∷ rows)) ≡ marks_of owner (r ∷ rows)
between_by owner r rows true is small rest = rw (in_range owner r.0 small, is) (ap (λ ms. mark_in r ∷ ms) rest)
between_by owner r rows false is small rest = rw (in_range owner r.0 small, is) rest

pub between : (owner : ℕ) (rows : Rows) → AllByRecursion IsNumber rows → marks_in (entries_between name_cmp (Included (name owner 0)) (Included (name owner 18446744073709551615)) rows) ≡ marks_of owner rows
between owner [] small = refl
between owner (r ∷ rows) small = between_by owner r rows (r.0.owner == owner) refl small.0 (between owner rows small.1)

-- ── a number that comes, and one that goes ──
pub small_given : (n : Name) (due : Option ℕ) (rows : Rows) → n.id < 2 ^ 64 → AllByRecursion IsNumber rows → lookup (is_at (name_cmp n)) rows ≡ None → AllByRecursion IsNumber (insert_entry name_cmp rows n due)
small_given n due rows small all none =
    let s = comes name_cmp rows n due none in
    subst (AllByRecursion IsNumber) (sym s.new_is) (all_with IsNumber s.front (n, due) s.back (subst (AllByRecursion IsNumber) s.es_is all) small)

marks_with : (owner id : ℕ) (due : Option ℕ) (front back : Rows) → map mark_item (front ++ (name owner id, due) ∷ back) ≡ map mark_item front ++ item owner (record { id = id; due = due }) ∷ map mark_item back
marks_with owner id due front back = map-append mark_item front ((name owner id, due) ∷ back)

pub absent_row : (owner id : ℕ) (rows : Rows) → AllBelow mark_number id (marks_of owner rows) → lookup (is_at (name_cmp (name owner id))) rows ≡ None
absent_row owner id rows below = look owner id rows ∙ ap (option_map (λ (mark : Mark). mark.due)) (not_there (marks_of owner rows) below)
  where
    not_there : (ms : List Mark) → AllBelow mark_number id ms → numbered mark_number id ms ≡ None
    not_there [] below = refl
    not_there (m ∷ ms) below = rw (ne_eqb m.id id (λ e. omega (arith, below.0, e))) (not_there ms below.1)

module _ (owner id : ℕ) (due : Option ℕ) (rows : Rows) (below : AllBelow mark_number id (marks_of owner rows)) where
  pub given_marks : IsStrictlySortedBy name_cmp (keys_of rows) → IsStrictlySortedBy name_cmp (keys_of (insert_entry name_cmp rows (name owner id) due))
      → marks_of owner (insert_entry name_cmp rows (name owner id) due) ≡ marks_of owner rows ++ record { id = id; due = due } ∷ []
  given_marks was sorted =
      let s = comes name_cmp rows (name owner id) due (absent_row owner id rows below) in
      let mark : Mark = record { id = id; due = due } in
      let new = insert_entry name_cmp rows (name owner id) due in
      let before = in_order-rising mark_number (marks_of owner rows) (marks_rising owner rows was) in
      let after = in_order-rising mark_number (marks_of owner new) (marks_rising owner new sorted) in
      let rows_is : map mark_item rows ≡ map mark_item s.front ++ map mark_item s.back = ap (map mark_item) s.es_is ∙ map-append mark_item s.front s.back in
      let new_is : map mark_item new ≡ map mark_item s.front ++ item owner mark ∷ map mark_item s.back = ap (map mark_item) s.new_is ∙ marks_with owner id due s.front s.back in
      sym after ∙ ap (listed mark_number owner) new_is
      ∙ listed_new mark_number owner mark (map mark_item s.front) (map mark_item s.back) (subst (λ bag. AllBelow mark_number id (listed mark_number owner bag)) rows_is (subst (AllBelow mark_number id) (sym before) below))
      ∙ ap (λ bag. listed mark_number owner bag ++ mark ∷ []) (sym rows_is) ∙ ap (λ ms. ms ++ mark ∷ []) before

pub given_others : (owner id : ℕ) (due : Option ℕ) (rows : Rows) → lookup (is_at (name_cmp (name owner id))) rows ≡ None → (other : ℕ) → other ≢ owner → marks_of other (insert_entry name_cmp rows (name owner id) due) ≡ marks_of other rows
given_others owner id due rows none other differ =
    let s = comes name_cmp rows (name owner id) due none in
    ap (λ rs. marks_of other rs) s.new_is ∙ ap (values_of other) (marks_with owner id due s.front s.back) ∙ values_of-append other (map mark_item s.front) (item owner (record { id = id; due = due }) ∷ map mark_item s.back)
    ∙ ap (λ ms. values_of other (map mark_item s.front) ++ ms) (rw (ne_eqb owner other (λ e. differ (sym e))) refl)
    ∙ sym (values_of-append other (map mark_item s.front) (map mark_item s.back)) ∙ ap (values_of other) (sym (map-append mark_item s.front s.back)) ∙ ap (λ rs. marks_of other rs) (sym s.es_is)

-- what the rows are where a number stands, and goes
record Goes (rows : Rows) (owner id : ℕ) : Type 0 where
  front : Rows
  due : Option ℕ
  back : Rows
  rows_is : rows ≡ front ++ (name owner id, due) ∷ back
  rest_is : remove_entry (is_at (name_cmp (name owner id))) rows ≡ front ++ back

goes : (rows : Rows) (owner id : ℕ) (due : Option ℕ) → lookup (is_at (name_cmp (name owner id))) rows ≡ Some due → Goes rows owner id
goes rows owner id due is =
    let s = there (is_at (name_cmp (name owner id))) rows due is in
    record { front = s.front; due = due; back = s.back; rows_is = s.es_is ∙ ap (λ k. s.front ++ (k, due) ∷ s.back) (sym (same_name owner id s.key s.passes)); rest_is = s.rest_is }

mine : (owner id : ℕ) (due : Option ℕ) (back : Rows) → marks_of owner ((name owner id, due) ∷ back) ≡ record { id = id; due = due } ∷ marks_of owner back
mine owner id due back = rw (eq-eqb owner owner refl) refl

marks_of-append : (owner : ℕ) (front back : Rows) → marks_of owner (front ++ back) ≡ marks_of owner front ++ marks_of owner back
marks_of-append owner front back = ap (values_of owner) (map-append mark_item front back) ∙ values_of-append owner (map mark_item front) (map mark_item back)

pub taken_marks : (rows : Rows) (owner id : ℕ) (o : Option (Option ℕ)) → lookup (is_at (name_cmp (name owner id))) rows ≡ o → IsStrictlySortedBy name_cmp (keys_of rows)
    → marks_of owner (remove_entry (is_at (name_cmp (name owner id))) rows) ≡ without mark_number id (marks_of owner rows)
taken_marks rows owner id None is sorted =
    ap (λ rs. marks_of owner rs) (nowhere (is_at (name_cmp (name owner id))) rows is)
    ∙ sym (without_absent mark_number id (marks_of owner rows) (no_mark (numbered mark_number id (marks_of owner rows)) (sym (look owner id rows) ∙ is)))
taken_marks rows owner id (Some due) is sorted =
    let s = goes rows owner id due is in
    let whole : marks_of owner rows ≡ marks_of owner s.front ++ record { id = id; due = s.due } ∷ marks_of owner s.back =
    ap (λ rs. marks_of owner rs) s.rows_is ∙ marks_of-append owner s.front ((name owner id, s.due) ∷ s.back) ∙ ap (λ ms. marks_of owner s.front ++ ms) (mine owner id s.due s.back) in
    ap (λ rs. marks_of owner rs) s.rest_is ∙ marks_of-append owner s.front s.back
    ∙ sym (gone_there mark_number (marks_of owner s.front) (record { id = id; due = s.due }) (marks_of owner s.back) (subst (IsRising mark_number) whole (marks_rising owner rows sorted)))
    ∙ ap (without mark_number id) (sym whole)

pub taken_others : (rows : Rows) (owner id : ℕ) (o : Option (Option ℕ)) → lookup (is_at (name_cmp (name owner id))) rows ≡ o → (other : ℕ) → other ≢ owner → marks_of other (remove_entry (is_at (name_cmp (name owner id))) rows) ≡ marks_of other rows
taken_others rows owner id None is other differ = ap (λ rs. marks_of other rs) (nowhere (is_at (name_cmp (name owner id))) rows is)
taken_others rows owner id (Some due) is other differ =
    let s = goes rows owner id due is in
    ap (λ rs. marks_of other rs) s.rest_is ∙ marks_of-append other s.front s.back
    ∙ ap (λ ms. marks_of other s.front ++ ms) (sym (anothers s.due s.back))
    ∙ sym (marks_of-append other s.front ((name owner id, s.due) ∷ s.back)) ∙ ap (λ rs. marks_of other rs) (sym s.rows_is)
  where
    anothers : (due : Option ℕ) (back : Rows) → marks_of other ((name owner id, due) ∷ back) ≡ marks_of other back
    anothers due back = rw (ne_eqb owner other (λ e. differ (sym e))) refl

pub small_taken : (rows : Rows) (owner id : ℕ) (o : Option (Option ℕ)) → lookup (is_at (name_cmp (name owner id))) rows ≡ o → AllByRecursion IsNumber rows → AllByRecursion IsNumber (remove_entry (is_at (name_cmp (name owner id))) rows)
small_taken rows owner id None is all = subst (AllByRecursion IsNumber) (sym (nowhere (is_at (name_cmp (name owner id))) rows is)) all
small_taken rows owner id (Some due) is all =
    let s = goes rows owner id due is in
    subst (AllByRecursion IsNumber) (sym s.rest_is) (all_without IsNumber s.front (name owner id, s.due) s.back (subst (AllByRecursion IsNumber) s.rows_is all))
