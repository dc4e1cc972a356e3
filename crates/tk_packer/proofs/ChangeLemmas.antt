-- What the value is after a change of the tables.
use Rattle.std.proofs.Common.{◌≡◌, ◌≢◌, ℕ, Bool, true, false, cond, List, Option, Some, None, Result, Ok, Err, not, refl, sym, ap, subst, ◌∙◌, eq-eqb, eqb-true}
use Rattle.std.specs.Prelude.{◌==◌, nat_eq, insert, OnErr}
use Rattle.std.proofs.lemmas.Bool.{eqb-false}
use Rattle.tk_packer.specs.declared.packed.Packed.{Packed}
use Rattle.tk_packer.specs.Packs.{slaves_of, without, packed_at, master_of}
use Rattle.tk_packer.specs.Tables.{Lists, slaves_at, gathered, taken_out, put_in, AreTied}
use Rattle.tk_packer.proofs.Orders.{filter_swap, insert_kept, IsOrdered, same_from_having, ordered_filter, ordered_replaced, having_replaced, having_replaced_other}
use Rattle.tk_packer.proofs.Ties.{slaves_twice, slaves_apart, slaves_of_gathered, ordered_gathered, slaves_are, taken_is, tied_without, tied_put}

-- what holds whatever came out holds after an error
pub after_error : {T E : Type 0} (result : Result T E) (P : Type 0) → P → OnErr result P
after_error (Ok value) P p = tt
after_error (Err error) P p = p

-- ---- the slaves of each master once a window is packed

-- the new one stands among those of its master
new_slaves : (place : ℕ) (new : Packed) (rest : List Packed) →
    slaves_of new.master (insert (slaves_of new.master rest) place new) ≡ insert (slaves_of new.master rest) place new
new_slaves place new rest = insert_kept (λ packed. packed.master == new.master) (slaves_of new.master rest) place new (eq-eqb new.master new.master refl) (slaves_twice new.master rest)

pub slaves_of-packed_at : (place : ℕ) (new : Packed) (packs : List Packed) →
    slaves_of new.master (packed_at place new packs) ≡ insert (slaves_of new.master (without new.number packs)) place new
slaves_of-packed_at place new packs =
    let rest = without new.number packs in
    having_replaced master_of new.master (insert (slaves_of new.master rest) place new) rest ∙ new_slaves place new rest

pub slaves_of-packed_at_other : (master place : ℕ) (new : Packed) (packs : List Packed) → master ≢ new.master →
    slaves_of master (packed_at place new packs) ≡ slaves_of master (without new.number packs)
slaves_of-packed_at_other master place new packs differ =
    let rest = without new.number packs in
    having_replaced_other master_of master new.master (insert (slaves_of new.master rest) place new) rest differ
    (ap (slaves_of master) (sym (new_slaves place new rest)) ∙ slaves_apart master new.master (insert (slaves_of new.master rest) place new) differ)

-- a window taken out of all is taken out of each master's slaves
pub slaves_of-without : (master number : ℕ) (packs : List Packed) → slaves_of master (without number packs) ≡ without number (slaves_of master packs)
slaves_of-without master number packs = filter_swap (λ packed. packed.master == master) (λ packed. not (packed.number == number)) packs

-- ---- the value of the tables

pub gathered_same : (old new : Lists) → ((master : ℕ) → slaves_at master new ≡ slaves_at master old) → gathered new ≡ gathered old
gathered_same old new same =
    same_from_having master_of (gathered new) (gathered old) (ordered_gathered new) (ordered_gathered old)
    (λ master. slaves_of_gathered master new ∙ ap (slaves_of master) (same master) ∙ sym (slaves_of_gathered master old))

gathered_without : (number : ℕ) (old new : Lists) → ((master : ℕ) → slaves_at master new ≡ without number (slaves_at master old)) → gathered new ≡ without number (gathered old)
gathered_without number old new rest =
    same_from_having master_of (gathered new) (without number (gathered old))
    (ordered_gathered new) (ordered_filter master_of (λ packed. not (packed.number == number)) (gathered old) (ordered_gathered old))
    (λ master. slaves_of_gathered master new ∙ ap (slaves_of master) (rest master)
    ∙ slaves_of-without master number (slaves_at master old) ∙ ap (without number) (sym (slaves_of_gathered master old))
    ∙ sym (slaves_of-without master number (gathered old)))

ordered_packed : (place : ℕ) (new : Packed) (lists : Lists) → IsOrdered master_of (packed_at place new (gathered lists))
ordered_packed place new lists =
    let rest = without new.number (gathered lists) in
    ordered_replaced master_of new.master (insert (slaves_of new.master rest) place new) rest (new_slaves place new rest)
    (ordered_filter master_of (λ packed. not (packed.number == new.number)) (gathered lists) (ordered_gathered lists))

gathered_put : (place : ℕ) (packed : Packed) (windows after : ℕ → Option Packed) (old new : Lists) →
    AreTied windows (λ master. slaves_at master old) → AreTied after (λ master. slaves_at master new) →
    ((master : ℕ) → slaves_at master new ≡ put_in place packed master (without packed.number (slaves_at master old))) → gathered new ≡ packed_at place packed (gathered old)
gathered_put place packed windows after old new before tied more =
    same_from_having master_of (gathered new) (packed_at place packed (gathered old)) (ordered_gathered new) (ordered_packed place packed old)
    (λ master. slaves_are after new tied master ∙ more master
    ∙ ap (λ slaves. put_in place packed master (without packed.number slaves)) (sym (slaves_are windows old before master))
    ∙ ap (put_in place packed master) (sym (slaves_of-without master packed.number (gathered old)))
    ∙ at master (packed.master == master) refl)
  where
    at : (master : ℕ) (b : Bool) → (packed.master == master) ≡ b →
        put_in place packed master (slaves_of master (without packed.number (gathered old))) ≡ slaves_of master (packed_at place packed (gathered old))
    at master true is =
        let same : packed.master ≡ master = eqb-true packed.master master is in
        rw is (subst (λ m. insert (slaves_of m (without packed.number (gathered old))) place packed ≡ slaves_of m (packed_at place packed (gathered old))) same
        (sym (slaves_of-packed_at place packed (gathered old))))
    at master false is =
        let differ : packed.master ≢ master = eqb-false packed.master master is in
        rw is (sym (slaves_of-packed_at_other master place packed (gathered old) (λ same. differ (sym same))))

-- the tables are tied again, and what their value is
pub record Steps (after : ℕ → Option Packed) (new : Lists) (packs : List Packed) : Type 0 where
  pub tied : AreTied after (λ master. slaves_at master new)
  pub packs_are : gathered new ≡ packs

pub forget_steps : (number : ℕ) (windows after : ℕ → Option Packed) (old new : Lists) → AreTied windows (λ master. slaves_at master old) →
    ((other : ℕ) → after other ≡ cond (nat_eq number other) None (windows other)) →
    ((master : ℕ) → slaves_at master new ≡ taken_out (windows number) number master (slaves_at master old)) → Steps after new (without number (gathered old))
forget_steps number windows after old new tied known lists =
    let rest : (master : ℕ) → slaves_at master new ≡ without number (slaves_at master old) =
    λ master. lists master ∙ taken_is windows (λ m. slaves_at m old) tied number master in
    record {
      tied = tied_without windows after (λ master. slaves_at master old) (λ master. slaves_at master new) number tied known rest;
      packs_are = gathered_without number old new rest;
    }

pub put_steps : (place : ℕ) (packed : Packed) (windows after : ℕ → Option Packed) (old new : Lists) → AreTied windows (λ master. slaves_at master old) →
    ((other : ℕ) → after other ≡ cond (nat_eq packed.number other) (Some packed) (windows other)) →
    ((master : ℕ) → slaves_at master new ≡ put_in place packed master (taken_out (windows packed.number) packed.number master (slaves_at master old))) →
    Steps after new (packed_at place packed (gathered old))
put_steps place packed windows after old new before known lists =
    let n = packed.number in
    let gone : ℕ → Option Packed = λ other. cond (nat_eq n other) None (windows other) in
    let rest : ℕ → List Packed = λ master. without n (slaves_at master old) in
    let without_it : AreTied gone rest = tied_without windows gone (λ master. slaves_at master old) rest n before (λ other. refl) (λ master. refl) in
    let absent : gone n ≡ None = rw (eq-eqb n n refl) refl in
    let more : (master : ℕ) → slaves_at master new ≡ put_in place packed master (rest master) =
    λ master. lists master ∙ ap (put_in place packed master) (taken_is windows (λ m. slaves_at m old) before n master) in
    let tied : AreTied after (λ master. slaves_at master new) =
    tied_put gone after rest (λ master. slaves_at master new) place packed without_it absent
    (λ other. known other ∙ split (nat_eq n other) (windows other)) more in
    record { tied = tied; packs_are = gathered_put place packed windows after old new before tied more }
  where
    split : (b : Bool) (window : Option Packed) → cond b (Some packed) window ≡ cond b (Some packed) (cond b None window)
    split true window = refl
    split false window = refl
