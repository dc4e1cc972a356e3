-- Keys that compare alike are one, and what a key tells of its number.
use Rattle.std.proofs.Common.{◌≡◌, ℕ, ◌^◌, ◌<◌, ◌≤◌, Bool, true, false, refl, sym, ap, ◌∙◌, arith}
use Rattle.std.specs.Prelude.{◌==◌, not}
use Rattle.std.specs.BTreeMap.{is_at}
use Rattle.std.specs.BTreeMap.Range.{range_contains}
use Rattle.std.specs.Cmp.{IsTotalOrder}
use Rattle.std.specs.declared.cmp.Ordering.{Ordering}
use Rattle.std.specs.declared.cmp.Ordering.TheVariants.{Less, Equal, Greater}
use Rattle.std.specs.Ordering.{is_eq, is_le, is_lt, is_gt, nat_cmp, ordering_then}
use Rattle.std.specs.declared.ops.Bound.TheVariants.{Included}
use Rattle.std.proofs.lemmas.Bool.{eq-eqb, eqb-true, ne_eqb, false≢true}
use Rattle.std.proofs.lemmas.Cmp.{ranked, nat_cmp_total, on_total, then_total, tied_itself}
use Rattle.std.proofs.lemmas.Map.Lookups.{CmpEqualImpliesEq, exact_pairs, exact_unsigned}
use Rattle.tk_after.specs.declared.keys.DueKey.{DueKey}
use Rattle.tk_after.specs.declared.keys.Name.{Name}
use Rattle.tk_after.specs.Keys.{due_cmp, name_cmp, due_key, name}

abbrev pair_cmp : ℕ × ℕ → ℕ × ℕ → Ordering
pair_cmp a b = ordering_then (nat_cmp a.0 b.0) (nat_cmp a.1 b.1)

exact_two : CmpEqualImpliesEq pair_cmp
exact_two a b h = exact_pairs nat_cmp nat_cmp exact_unsigned exact_unsigned a b h

pub exact_names : CmpEqualImpliesEq name_cmp
exact_names a b h = ap (λ (p : ℕ × ℕ). name p.0 p.1) (exact_two (a.owner, a.id) (b.owner, b.id) h)

pub exact_dues : CmpEqualImpliesEq due_cmp
exact_dues a b h = ap (λ (p : ℕ × (ℕ × ℕ)). due_key p.0 p.1.0 p.1.1) (exact_pairs nat_cmp pair_cmp exact_unsigned exact_two (a.due, (a.owner, a.id)) (b.due, (b.owner, b.id)) h)

pub names_total : IsTotalOrder name_cmp
names_total = then_total (on_total (λ (n : Name). n.owner) nat_cmp_total) (on_total (λ (n : Name). n.id) nat_cmp_total)

pub dues_total : IsTotalOrder due_cmp
dues_total = then_total (on_total (λ (k : DueKey). k.due) nat_cmp_total) (then_total (on_total (λ (k : DueKey). k.owner) nat_cmp_total) (on_total (λ (k : DueKey). k.id) nat_cmp_total))

-- ── a name that is looked for ──
equal_from : (o : Ordering) → is_eq o ≡ true → o ≡ Equal
equal_from Less h = absurd (false≢true h)
equal_from Equal h = refl
equal_from Greater h = absurd (false≢true h)

pub same_name : (owner id : ℕ) (k : Name) → is_at (name_cmp (name owner id)) k ≡ true → name owner id ≡ k
same_name owner id k passes = exact_names (name owner id) k (equal_from (name_cmp (name owner id) k) passes)

pub same_due : (due owner id : ℕ) (k : DueKey) → is_at (due_cmp (due_key due owner id)) k ≡ true → due_key due owner id ≡ k
same_due due owner id k passes = exact_dues (due_key due owner id) k (equal_from (due_cmp (due_key due owner id) k) passes)

pub name_itself : (owner id : ℕ) → is_at (name_cmp (name owner id)) (name owner id) ≡ true
name_itself owner id = ap is_eq (tied_itself names_total (name owner id))

pub due_itself : (due owner id : ℕ) → is_at (due_cmp (due_key due owner id)) (due_key due owner id) ≡ true
due_itself due owner id = ap is_eq (tied_itself dues_total (due_key due owner id))

not_true : (b : Bool) → (b ≡ true → ⊥) → b ≡ false
not_true true h = absurd (h refl)
not_true false h = refl

-- where the application and the number are this, and where one of them isn't
pub at_name : (owner id : ℕ) (k : Name) → (k.owner == owner) ≡ true → (k.id == id) ≡ true → is_at (name_cmp (name owner id)) k ≡ true
at_name owner id k its_owner its_id =
    let same : name owner id ≡ k = ap (λ o. name o id) (sym (eqb-true k.owner owner its_owner)) ∙ ap (λ n. name k.owner n) (sym (eqb-true k.id id its_id)) in
    ap (λ n. is_at (name_cmp (name owner id)) n) (sym same) ∙ name_itself owner id

pub other_owner : (owner id : ℕ) (k : Name) → (k.owner == owner) ≡ false → is_at (name_cmp (name owner id)) k ≡ false
other_owner owner id k differs =
    not_true (is_at (name_cmp (name owner id)) k) (λ passes. false≢true (sym differs ∙ eq-eqb k.owner owner (ap (λ (n : Name). n.owner) (sym (same_name owner id k passes)))))

pub other_id : (owner id : ℕ) (k : Name) → (k.id == id) ≡ false → is_at (name_cmp (name owner id)) k ≡ false
other_id owner id k differs =
    not_true (is_at (name_cmp (name owner id)) k) (λ passes. false≢true (sym differs ∙ eq-eqb k.id id (ap (λ (n : Name). n.id) (sym (same_name owner id k passes)))))

-- ── the order of one application's names ──
pub less_id : (a b : Name) → a.owner ≡ b.owner → name_cmp a b ≡ Less → a.id < b.id
less_id a b same less =
    let tied : nat_cmp a.owner b.owner ≡ Equal = ap (λ o. nat_cmp a.owner o) (sym same) ∙ tied_itself nat_cmp_total a.owner in
    ranked a.id b.id Less (sym (rw tied at less))

pub less_due : (a b : DueKey) → is_gt (due_cmp a b) ≡ false → a.due ≤ b.due
less_due a b no_later = by (nat_cmp a.due b.due) refl
  where
    by : (o : Ordering) → nat_cmp a.due b.due ≡ o → a.due ≤ b.due
    by Less is = let h : a.due < b.due = ranked a.due b.due Less (sym is) in omega (arith, h)
    by Equal is = let h : a.due ≡ b.due = ranked a.due b.due Equal (sym is) in omega (arith, h)
    by Greater is = absurd (cc (rw is at no_later))

-- ── a range of names ──
from_0 : (n : ℕ) (o : Ordering) → nat_cmp 0 n ≡ o → is_le o ≡ true
from_0 n Less is = refl
from_0 n Equal is = refl
from_0 n Greater is = let h : n < 0 = ranked 0 n Greater (sym is) in absurd (omega (arith, h))

to_last : (n : ℕ) (o : Ordering) → n < 2 ^ 64 → nat_cmp 18446744073709551615 n ≡ o → not (is_lt o) ≡ true
to_last n Less small is = let h : 18446744073709551615 < n = ranked 18446744073709551615 n Less (sym is) in absurd (omega (arith, small, h))
to_last n Equal small is = refl
to_last n Greater small is = refl

in_range_by : (owner : ℕ) (k : Name) (o : Ordering) → k.id < 2 ^ 64 → nat_cmp owner k.owner ≡ o → range_contains name_cmp (Included (name owner 0)) (Included (name owner 18446744073709551615)) k ≡ (k.owner == owner)
in_range_by owner k Less small is =
    let h : owner < k.owner = ranked owner k.owner Less (sym is) in
    rw (is, ne_eqb k.owner owner (λ e. omega (arith, e, h))) refl
in_range_by owner k Equal small is =
    let h : owner ≡ k.owner = ranked owner k.owner Equal (sym is) in
    rw (is, eq-eqb k.owner owner (sym h), from_0 k.id (nat_cmp 0 k.id) refl, to_last k.id (nat_cmp 18446744073709551615 k.id) small refl) refl
in_range_by owner k Greater small is =
    let h : k.owner < owner = ranked owner k.owner Greater (sym is) in
    rw (is, ne_eqb k.owner owner (λ e. omega (arith, e, h))) refl

-- from an application's first number to its last, of the names with numbers of the machine, are its own
pub in_range : (owner : ℕ) (k : Name) → k.id < 2 ^ 64 → range_contains name_cmp (Included (name owner 0)) (Included (name owner 18446744073709551615)) k ≡ (k.owner == owner)
in_range owner k small = in_range_by owner k (nat_cmp owner k.owner) small refl
