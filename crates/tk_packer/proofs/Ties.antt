-- What the tables of packed windows tell of their value, and what keeps them tied.
use Rattle.std.proofs.Common.{◌≡◌, ◌≢◌, ℕ, ◌<◌, zero, suc, Bool, true, false, cond, List, [], ◌∷◌, Option, Some, None, not, refl, sym, ap, subst, ◌∙◌, arith}
use Rattle.std.specs.Prelude.{◌==◌, nat_eq, length, filter, find, insert}
use Rattle.std.specs.List.{remove, AllWithin, HoldsAt}
use Rattle.std.proofs.lemmas.Bool.{eq-eqb, ne_eqb, eqb-true, eqb-false}
use Rattle.std.proofs.lemmas.Option.{none-some, cond_some}
use Rattle.tk_packer.specs.declared.packed.Packed.{Packed}
use Rattle.tk_packer.specs.Packs.{slaves_of, without, master_of, replaced}
use Rattle.tk_packer.specs.Tables.{Lists, slaves_at, gathered, taken_out, put_in, if_in, AreApart, AreTied}
use Rattle.tk_packer.proofs.Orders.{filter_swap, none_kept, all_kept, insert_kept, IsOrdered, ordered_replaced, having_replaced, having_replaced_other}

-- ---- the value of the tables

pub slaves_twice : (master : ℕ) (packs : List Packed) → slaves_of master (slaves_of master packs) ≡ slaves_of master packs
slaves_twice master packs = all_kept (λ packed. packed.master == master) (λ packed. packed.master == master) packs (λ packed is. is)

pub slaves_apart : (one other : ℕ) (packs : List Packed) → one ≢ other → slaves_of one (slaves_of other packs) ≡ []
slaves_apart one other packs differ = none_kept (λ packed. packed.master == one) (λ packed. packed.master == other) packs
    (λ packed is. ne_eqb packed.master one (λ same. differ (sym same ∙ eqb-true packed.master other is)))

pub ordered_gathered : (lists : Lists) → IsOrdered master_of (gathered lists)
ordered_gathered [] = tt
ordered_gathered (entry ∷ lists) =
    ordered_replaced master_of entry.0 (slaves_of entry.0 entry.1.items) (gathered lists) (slaves_twice entry.0 entry.1.items) (ordered_gathered lists)

pub slaves_of_gathered : (master : ℕ) (lists : Lists) → slaves_of master (gathered lists) ≡ slaves_of master (slaves_at master lists)
slaves_of_gathered master [] = refl
slaves_of_gathered master (entry ∷ lists) = at (nat_eq master entry.0) refl (slaves_of_gathered master lists)
  where
    at : (b : Bool) → nat_eq master entry.0 ≡ b → slaves_of master (gathered lists) ≡ slaves_of master (slaves_at master lists) →
        slaves_of master (replaced master_of entry.0 (slaves_of entry.0 entry.1.items) (gathered lists)) ≡ slaves_of master (slaves_at master (entry ∷ lists))
    at true is rest =
        let same : entry.0 ≡ master = sym (eqb-true master entry.0 is) in
        rw is (subst (λ m. slaves_of master (replaced master_of m (slaves_of m entry.1.items) (gathered lists)) ≡ slaves_of master entry.1.items) (sym same)
        (having_replaced master_of master (slaves_of master entry.1.items) (gathered lists) ∙ slaves_twice master entry.1.items))
    at false is rest =
        let differ : master ≢ entry.0 = eqb-false master entry.0 is in
        rw is (having_replaced_other master_of master entry.0 (slaves_of entry.0 entry.1.items) (gathered lists) differ (slaves_apart master entry.0 entry.1.items differ) ∙ rest)

-- a master's slaves in the value are those in its list
pub slaves_are : (windows : ℕ → Option Packed) (lists : Lists) → AreTied windows (λ master. slaves_at master lists) → (master : ℕ) → slaves_of master (gathered lists) ≡ slaves_at master lists
slaves_are windows lists tied master = slaves_of_gathered master lists ∙ tied.own master

-- ---- a window by its number

abbrev pub is_number : ℕ → Packed → Bool
is_number number packed = packed.number == number

find_within : (test : Packed → Bool) (packs : List Packed) (found : Packed) → find test packs ≡ Some found → find test (slaves_of found.master packs) ≡ Some found
find_within test [] found is = absurd (none-some found is)
find_within test (packed ∷ packs) found is = at (test packed) refl is (find_within test packs found)
  where
    past : (b : Bool) → test packed ≡ false → find test (slaves_of found.master packs) ≡ Some found → find test (cond b (packed ∷ slaves_of found.master packs) (slaves_of found.master packs)) ≡ Some found
    past true fails rest = rw fails rest
    past false fails rest = rest

    at : (b : Bool) → test packed ≡ b → cond (test packed) (Some packed) (find test packs) ≡ Some found → (find test packs ≡ Some found → find test (slaves_of found.master packs) ≡ Some found) →
        find test (cond (packed.master == found.master) (packed ∷ slaves_of found.master packs) (slaves_of found.master packs)) ≡ Some found
    at true passes is rest =
        let here : packed ≡ found = (cond_some true packed found (rw passes at is)).1 in
        rw (eq-eqb packed.master found.master (ap (λ (p : Packed). p.master) here), passes) (ap (λ (p : Packed). Some p) here)
    at false fails is rest = past (packed.master == found.master) fails (rest (rw fails at is))

find_nowhere : (test p : Packed → Bool) (packs : List Packed) → find test packs ≡ None → find test (filter p packs) ≡ None
find_nowhere test p [] none = refl
find_nowhere test p (packed ∷ packs) none = at (test packed) (p packed) refl refl none (find_nowhere test p packs)
  where
    at : (b d : Bool) → test packed ≡ b → p packed ≡ d → cond (test packed) (Some packed) (find test packs) ≡ None → (find test packs ≡ None → find test (filter p packs) ≡ None) →
        find test (cond (p packed) (packed ∷ filter p packs) (filter p packs)) ≡ None
    at true d passes kept none rest = absurd (none-some packed (sym (rw passes at none)))
    at false true fails kept none rest = rw (kept, fails) (rest (rw fails at none))
    at false false fails kept none rest = rw kept (rest (rw fails at none))

if_in_some : (master : ℕ) (window : Option Packed) (packed : Packed) → if_in master window ≡ Some packed → window ≡ Some packed
if_in_some master None packed is = absurd (none-some packed is)
if_in_some master (Some other) packed is = ap (λ (p : Packed). Some p) (cond_some (other.master == master) other packed is).1

if_in_own : (packed : Packed) → if_in packed.master (Some packed) ≡ Some packed
if_in_own packed = rw (eq-eqb packed.master packed.master refl) refl

-- the window that is known by a number is the one that stands in the value
pub found_is : (windows : ℕ → Option Packed) (slaves : ℕ → List Packed) (packs : List Packed) → AreTied windows slaves → ((master : ℕ) → slaves_of master packs ≡ slaves master) →
    (number : ℕ) → find (is_number number) packs ≡ windows number
found_is windows slaves packs tied are number = by (find (is_number number) packs) refl
  where
    none : find (is_number number) packs ≡ None → (window : Option Packed) → windows number ≡ window → None ≡ windows number
    none nowhere None is = sym is
    none nowhere (Some packed) is =
        let here : find (is_number number) (slaves_of packed.master packs) ≡ Some packed =
        ap (find (is_number number)) (are packed.master) ∙ tied.known number packed.master ∙ ap (if_in packed.master) is ∙ if_in_own packed in
        absurd (none-some packed (sym (find_nowhere (is_number number) (λ p. p.master == packed.master) packs nowhere) ∙ here))

    by : (found : Option Packed) → find (is_number number) packs ≡ found → find (is_number number) packs ≡ windows number
    by None is = is ∙ none is (windows number) refl
    by (Some packed) is =
        let here : if_in packed.master (windows number) ≡ Some packed =
        sym (tied.known number packed.master) ∙ ap (find (is_number number)) (sym (are packed.master)) ∙ find_within (is_number number) packs packed is in
        is ∙ sym (if_in_some packed.master (windows number) packed here)

-- ---- a window taken out

without_absent : (number : ℕ) (packs : List Packed) → find (is_number number) packs ≡ None → without number packs ≡ packs
without_absent number [] none = refl
without_absent number (packed ∷ packs) none = at (packed.number == number) refl none (without_absent number packs)
  where
    at : (b : Bool) → (packed.number == number) ≡ b → cond (packed.number == number) (Some packed) (find (is_number number) packs) ≡ None → (find (is_number number) packs ≡ None → without number packs ≡ packs) →
        cond (not (packed.number == number)) (packed ∷ without number packs) (without number packs) ≡ packed ∷ packs
    at true is none rest = absurd (none-some packed (sym (rw is at none)))
    at false is none rest = rw is (ap (λ (ps : List Packed). packed ∷ ps) (rest (rw is at none)))

-- ---- a number stands once

apart_without : (number : ℕ) (packs : List Packed) → AreApart packs → AreApart (without number packs)
apart_without number [] apart = tt
apart_without number (packed ∷ packs) apart = at (packed.number == number) refl (apart_without number packs apart.1)
  where
    at : (b : Bool) → (packed.number == number) ≡ b → AreApart (without number packs) → AreApart (cond (not (packed.number == number)) (packed ∷ without number packs) (without number packs))
    at true is rest = rw is rest
    at false is rest = rw is (find_nowhere (is_number packed.number) (λ p. not (p.number == number)) packs apart.0, rest)

none_at : (number : ℕ) (packs : List Packed) (place : ℕ) → find (is_number number) packs ≡ None → place < length packs → HoldsAt (λ packed. packed.number ≡ number) packs place → ⊥
none_at number [] place none within here = omega (arith, within)
none_at number (packed ∷ packs) zero none within here = none-some packed (sym (rw (eq-eqb packed.number number (here packed)) at none))
none_at number (packed ∷ packs) (suc place) none within here = at (packed.number == number) refl none (λ nowhere. none_at number packs place nowhere (omega (arith, within)) here)
  where
    at : (b : Bool) → (packed.number == number) ≡ b → cond (packed.number == number) (Some packed) (find (is_number number) packs) ≡ None → (find (is_number number) packs ≡ None → ⊥) → ⊥
    at true is none rest = none-some packed (sym (rw is at none))
    at false is none rest = rest (rw is at none)

-- the window that stands at a place taken out is its number taken out
pub removed_is : (number : ℕ) (packs : List Packed) (place : ℕ) → AreApart packs → place < length packs → HoldsAt (λ packed. packed.number ≡ number) packs place → remove packs place ≡ without number packs
removed_is number [] place apart within here = absurd (omega (arith, within))
removed_is number (packed ∷ packs) zero apart within here =
    let same : packed.number ≡ number = here packed in
    rw (eq-eqb packed.number number same) (sym (without_absent number packs (subst (λ n. find (is_number n) packs ≡ None) same apart.0)))
removed_is number (packed ∷ packs) (suc place) apart within here = at (packed.number == number) refl (removed_is number packs place apart.1 (omega (arith, within)) here)
  where
    at : (b : Bool) → (packed.number == number) ≡ b → remove packs place ≡ without number packs → packed ∷ remove packs place ≡ cond (not (packed.number == number)) (packed ∷ without number packs) (without number packs)
    at true is rest =
        let same : packed.number ≡ number = eqb-true packed.number number is in
        absurd (none_at number packs place (subst (λ n. find (is_number n) packs ≡ None) same apart.0) (omega (arith, within)) here)
    at false is rest = rw is (ap (λ (ps : List Packed). packed ∷ ps) rest)

-- a number that stands nowhere
pub all_stay : (number : ℕ) (packs : List Packed) → AllWithin (λ packed. packed.number ≢ number) packs 0 (length packs) → without number packs ≡ packs
all_stay number [] differ = refl
all_stay number (packed ∷ packs) differ =
    rw (ne_eqb packed.number number (differ zero packed (omega arith) (omega arith)))
    (ap (λ (ps : List Packed). packed ∷ ps) (all_stay number packs (λ k d low high. differ (suc k) d (omega arith) (omega (arith, high)))))

pub find_without : (number other : ℕ) (packs : List Packed) → find (is_number other) (without number packs) ≡ cond (nat_eq number other) None (find (is_number other) packs)
find_without number other [] = none (nat_eq number other)
  where
    none : (b : Bool) → ◌≡◌ {A = Option Packed} None (cond b None None)
    none true = refl
    none false = refl
find_without number other (packed ∷ packs) = at (packed.number == number) (packed.number == other) (nat_eq number other) refl refl refl (find_without number other packs)
  where
    at : (b d e : Bool) → (packed.number == number) ≡ b → (packed.number == other) ≡ d → nat_eq number other ≡ e →
        find (is_number other) (without number packs) ≡ cond (nat_eq number other) None (find (is_number other) packs) →
        find (is_number other) (cond (not (packed.number == number)) (packed ∷ without number packs) (without number packs))
        ≡ cond (nat_eq number other) None (cond (packed.number == other) (Some packed) (find (is_number other) packs))
    at true d true is found same rest = rw (is, same) (rest ∙ rw same refl)
    at true true false is found same rest =
        absurd (eqb-false number other same (sym (eqb-true packed.number number is) ∙ eqb-true packed.number other found))
    at true false false is found same rest = rw (is, same, found) (rest ∙ rw same refl)
    at false true true is found same rest =
        absurd (eqb-false packed.number number is (eqb-true packed.number other found ∙ sym (eqb-true number other same)))
    at false true false is found same rest = rw (is, same, found) refl
    at false false true is found same rest = rw (is, same, found) (rest ∙ rw same refl)
    at false false false is found same rest = rw (is, same, found) (rest ∙ rw same refl)

-- taken out of the list of the master that it had, it is in no list
pub taken_is : (windows : ℕ → Option Packed) (slaves : ℕ → List Packed) → AreTied windows slaves → (number master : ℕ) → taken_out (windows number) number master (slaves master) ≡ without number (slaves master)
taken_is windows slaves tied number master = by (windows number) refl
  where
    by : (window : Option Packed) → windows number ≡ window → taken_out (windows number) number master (slaves master) ≡ without number (slaves master)
    by None is = rw is (sym (without_absent number (slaves master) (tied.known number master ∙ ap (if_in master) is)))
    by (Some packed) is = rw is (at (packed.master == master) refl)
      where
        at : (b : Bool) → (packed.master == master) ≡ b → cond (packed.master == master) (without number (slaves master)) (slaves master) ≡ without number (slaves master)
        at true here = rw here refl
        at false away = rw away (sym (without_absent number (slaves master) (tied.known number master ∙ ap (if_in master) is ∙ rw away refl)))

pub tied_without : (windows after : ℕ → Option Packed) (slaves rest : ℕ → List Packed) (number : ℕ) → AreTied windows slaves →
    ((other : ℕ) → after other ≡ cond (nat_eq number other) None (windows other)) → ((master : ℕ) → rest master ≡ without number (slaves master)) → AreTied after rest
tied_without windows after slaves rest number tied known lists = record {
  own = λ master.
      ap (slaves_of master) (lists master)
      ∙ filter_swap (λ packed. packed.master == master) (λ packed. not (packed.number == number)) (slaves master)
      ∙ ap (without number) (tied.own master) ∙ sym (lists master);
  known = λ other master.
      ap (find (is_number other)) (lists master) ∙ find_without number other (slaves master)
      ∙ ap (cond (nat_eq number other) None) (tied.known other master)
      ∙ split master (nat_eq number other) (windows other) ∙ ap (if_in master) (sym (known other));
  once = λ master. subst AreApart (sym (lists master)) (apart_without number (slaves master) (tied.once master));
}
  where
    split : (master : ℕ) (b : Bool) (window : Option Packed) → cond b None (if_in master window) ≡ if_in master (cond b None window)
    split master true window = refl
    split master false window = refl

-- ---- a window put in

find_inserted : (test : Packed → Bool) (packs : List Packed) (i : ℕ) (new : Packed) → test new ≡ true → find test packs ≡ None → find test (insert packs i new) ≡ Some new
find_inserted test packs zero new is none = rw is refl
find_inserted test [] (suc i) new is none = rw is refl
find_inserted test (packed ∷ packs) (suc i) new is none = at (test packed) refl none (find_inserted test packs i new is)
  where
    at : (b : Bool) → test packed ≡ b → cond (test packed) (Some packed) (find test packs) ≡ None → (find test packs ≡ None → find test (insert packs i new) ≡ Some new) →
        cond (test packed) (Some packed) (find test (insert packs i new)) ≡ Some new
    at true passes none rest = absurd (none-some packed (sym (rw passes at none)))
    at false fails none rest = rw fails (rest (rw fails at none))

find_past_inserted : (test : Packed → Bool) (packs : List Packed) (i : ℕ) (new : Packed) → test new ≡ false → find test (insert packs i new) ≡ find test packs
find_past_inserted test packs zero new fails = rw fails refl
find_past_inserted test [] (suc i) new fails = rw fails refl
find_past_inserted test (packed ∷ packs) (suc i) new fails = ap (cond (test packed) (Some packed)) (find_past_inserted test packs i new fails)

apart_inserted : (packs : List Packed) (place : ℕ) (new : Packed) → AreApart packs → find (is_number new.number) packs ≡ None → AreApart (insert packs place new)
apart_inserted packs zero new apart none = (none, apart)
apart_inserted [] (suc place) new apart none = (none, tt)
apart_inserted (packed ∷ packs) (suc place) new apart none = at (packed.number == new.number) refl none (apart_inserted packs place new apart.1)
  where
    at : (b : Bool) → (packed.number == new.number) ≡ b → cond (packed.number == new.number) (Some packed) (find (is_number new.number) packs) ≡ None →
        (find (is_number new.number) packs ≡ None → AreApart (insert packs place new)) → AreApart (packed ∷ insert packs place new)
    at true is none rest = absurd (none-some packed (sym (rw is at none)))
    at false is none rest =
        let differ : (new.number == packed.number) ≡ false = ne_eqb new.number packed.number (λ same. eqb-false packed.number new.number is (sym same)) in
        (find_past_inserted (is_number packed.number) packs place new differ ∙ apart.0, rest (rw is at none))

pub tied_put : (windows after : ℕ → Option Packed) (slaves more : ℕ → List Packed) (place : ℕ) (new : Packed) → AreTied windows slaves → windows new.number ≡ None →
    ((other : ℕ) → after other ≡ cond (nat_eq new.number other) (Some new) (windows other)) → ((master : ℕ) → more master ≡ put_in place new master (slaves master)) → AreTied after more
tied_put windows after slaves more place new tied absent known lists = record {
  own = λ master. ap (slaves_of master) (lists master) ∙ own_by master (new.master == master) refl ∙ sym (lists master);
  known = λ number master.
      ap (find (is_number number)) (lists master)
      ∙ known_by number master (new.master == master) (new.number == number) refl refl
      ∙ ap (if_in master) (sym (known number));
  once = λ master. subst AreApart (sym (lists master)) (apart_by master (new.master == master) refl);
}
  where
    apart_by : (master : ℕ) (b : Bool) → (new.master == master) ≡ b → AreApart (put_in place new master (slaves master))
    apart_by master true is = rw is (apart_inserted (slaves master) place new (tied.once master) (tied.known new.number master ∙ ap (if_in master) absent))
    apart_by master false is = rw is (tied.once master)

    own_by : (master : ℕ) (b : Bool) → (new.master == master) ≡ b → slaves_of master (put_in place new master (slaves master)) ≡ put_in place new master (slaves master)
    own_by master true is = rw is (insert_kept (λ packed. packed.master == master) (slaves master) place new is (tied.own master))
    own_by master false is = rw is (tied.own master)

    nowhere : (number master : ℕ) → (new.number == number) ≡ true → find (is_number number) (slaves master) ≡ None
    nowhere number master same =
        tied.known number master ∙ ap (λ n. if_in master (windows n)) (sym (eqb-true new.number number same)) ∙ ap (if_in master) absent

    known_by : (number master : ℕ) (b d : Bool) → (new.master == master) ≡ b → (new.number == number) ≡ d →
        find (is_number number) (put_in place new master (slaves master)) ≡ if_in master (cond (nat_eq new.number number) (Some new) (windows number))
    known_by number master true true is same = rw (is, same, is) (find_inserted (is_number number) (slaves master) place new same (nowhere number master same))
    known_by number master true false is same = rw (is, same) (find_past_inserted (is_number number) (slaves master) place new same ∙ tied.known number master)
    known_by number master false true is same = rw (is, same, is) (nowhere number master same)
    known_by number master false false is same = rw (is, same) (tied.known number master)
