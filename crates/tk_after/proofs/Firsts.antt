-- The earliest due moment of all applications is that of the first timer.
use Rattle.std.proofs.Common.{◌≡◌, ℕ, ◌<◌, ◌≤◌, suc, false, List, [], ◌∷◌, ◌++◌, map, length, Option, Some, None, refl, sym, ap, ◌∙◌, subst, ◌⊎◌, inl, inr, arith}
use Rattle.std.specs.Prelude.{Contains, IfSome, is_none, slice_get}
use Rattle.std.specs.BTreeMap.Range.{IsLeBy}
use Rattle.std.specs.List.{AllByRecursion, cons_option}
use Rattle.std.specs.Map.{keys_of}
use Rattle.std.proofs.lemmas.List.Elements.{All-from_recursion}
use Rattle.std.proofs.lemmas.Option.{none-some, same_Some}
use Rattle.tk_base.specs.Bag.{Item}
use Rattle.tk_base.proofs.Owners.{item}
use Rattle.tk_base.specs.declared.counter.Counter.{Counter}
use Rattle.tk_after.specs.declared.waiting.WaitingScript.{WaitingScript}
use Rattle.tk_after.specs.declared.keys.DueKey.{DueKey}
use Rattle.tk_after.specs.Keys.{Stored, due_cmp, number_of, timer_item, idle_item, bag_of, entries_in, IsTimer, AreKeyed}
use Rattle.tk_after.specs.Timers.{due_moments, idle_ids, IsLeastOf}
use Rattle.tk_after.specs.Shared.{IsNextDue}
use Rattle.tk_after.proofs.Bags.{has_timers, idle_due}
use Rattle.tk_after.proofs.KeyOrders.{less_due}
use Rattle.tk_after.proofs.Lists.{Has, bag_has, listed_has}

-- no entry's moment is before this one
abbrev IsFrom : ℕ → WaitingScript → Type 0
IsFrom moment e = IfSome e.due (λ due. moment ≤ due)

from_none : (moment : ℕ) (o : Option ℕ) → o ≡ None → IfSome o (λ due. moment ≤ due)
from_none moment None is = tt
from_none moment (Some due) is = absurd (none-some _ (sym is))

from_timer : (moment due : ℕ) (o : Option ℕ) → o ≡ Some due → moment ≤ due → IfSome o (λ due. moment ≤ due)
from_timer moment due None is le = tt
from_timer moment due (Some its) is le = let same : its ≡ due = same_Some _ _ is in omega (arith, same, le)

-- the moments of entries of which none is before
moments_from : (moment : ℕ) (xs : List WaitingScript) → ((e : WaitingScript) → Has e xs → IsFrom moment e) → AllByRecursion (λ due. moment ≤ due) (due_moments xs)
moments_from moment [] from = tt
moments_from moment (x ∷ xs) from = one x.due (from x (inl refl)) (moments_from moment xs (λ e has. from e (inr has)))
  where
    one : (o : Option ℕ) → IfSome o (λ due. moment ≤ due) → AllByRecursion (λ due. moment ≤ due) (due_moments xs) → AllByRecursion (λ due. moment ≤ due) (cons_option o (due_moments xs))
    one None its rest = rest
    one (Some due) its rest = (its, rest)

no_moments : (xs : List WaitingScript) → ((e : WaitingScript) → Has e xs → e.due ≡ None) → due_moments xs ≡ []
no_moments [] none = refl
no_moments (x ∷ xs) none = ap (λ o. cons_option o (due_moments xs)) (none x (inl refl)) ∙ no_moments xs (λ e has. none e (inr has))

among_moments : (due : ℕ) (e : WaitingScript) (xs : List WaitingScript) → e.due ≡ Some due → Has e xs → Contains (due_moments xs) due
among_moments due e [] is has = absurd has
among_moments due e (x ∷ xs) is (inl same) = subst (λ o. Contains (cons_option o (due_moments xs)) due) (sym (ap (λ (v : WaitingScript). v.due) same ∙ is)) (0, omega arith, refl)
among_moments due e (x ∷ xs) is (inr there) = behind x.due (among_moments due e xs is there)
  where
    behind : (o : Option ℕ) → Contains (due_moments xs) due → Contains (cons_option o (due_moments xs)) due
    behind None found = found
    behind (Some other) found = (suc found.0, omega (arith, found.1), found.2)

-- the timers of a map whose first is this one
from_first : (k : DueKey) (owner : ℕ) (e : WaitingScript) (ts : List (DueKey × WaitingScript)) → AllByRecursion IsTimer ts → AllByRecursion (IsLeBy due_cmp k) (keys_of ts) → Has (item owner e) (map timer_item ts) → IsFrom k.due e
from_first k owner e [] keyed later has = absurd has
from_first k owner e (t ∷ ts) keyed later (inl same) = from_timer k.due t.0.due e.due (ap (λ (i : Item WaitingScript). i.value.due) (sym same) ∙ keyed.0.1) (less_due k t.0 later.0)
from_first k owner e (t ∷ ts) keyed later (inr there) = from_first k owner e ts keyed.1 later.1 there

-- a timer has a moment
timer_due : (owner : ℕ) (e : WaitingScript) (ts : List (DueKey × WaitingScript)) → AllByRecursion IsTimer ts → Has (item owner e) (map timer_item ts) → is_none e.due ≡ false
timer_due owner e [] keyed has = absurd has
timer_due owner e (t ∷ ts) keyed (inl same) = ap is_none (ap (λ (i : Item WaitingScript). i.value.due) (sym same) ∙ keyed.0.1)
timer_due owner e (t ∷ ts) keyed (inr there) = timer_due owner e ts keyed.1 there

none_idle : (xs : List WaitingScript) → ((e : WaitingScript) → Has e xs → is_none e.due ≡ false) → idle_ids xs ≡ []
none_idle [] timers = refl
none_idle (x ∷ xs) timers = rw (timers x (inl refl)) (none_idle xs (λ e has. timers e (inr has)))

module _ (stored : Stored) (keyed : AreKeyed stored) where
  pub no_timers : stored.timers ≡ [] → (owner : ℕ) → due_moments (entries_in owner stored) ≡ []
  no_timers none owner = no_moments (entries_in owner stored) (λ e has. by e (has_timers owner e stored.timers (map idle_item stored.idle) (bag_has number_of owner e (bag_of stored) has)))
    where
      by : (e : WaitingScript) → Has (item owner e) (map timer_item stored.timers) ⊎ Has (item owner e) (map idle_item stored.idle) → e.due ≡ None
      by e (inl front) = absurd (subst (λ ts. Has (item owner e) (map timer_item ts)) none front)
      by e (inr back) = idle_due owner e stored.idle keyed.1 back

  from_all : (k : DueKey) → AllByRecursion (IsLeBy due_cmp k) (keys_of stored.timers) → (other : ℕ) (e : WaitingScript) → Has e (entries_in other stored) → IsFrom k.due e
  from_all k later other e has = by (has_timers other e stored.timers (map idle_item stored.idle) (bag_has number_of other e (bag_of stored) has))
    where
      by : Has (item other e) (map timer_item stored.timers) ⊎ Has (item other e) (map idle_item stored.idle) → IsFrom k.due e
      by (inl front) = from_first k other e stored.timers keyed.0 later front
      by (inr back) = from_none k.due e.due (idle_due other e stored.idle keyed.1 back)

  pub first_next : (counters : List (ℕ × Counter)) (k : DueKey) (e : WaitingScript) (rest : List (DueKey × WaitingScript)) → stored.timers ≡ (k, e) ∷ rest → AllByRecursion (IsLeBy due_cmp k) (keys_of stored.timers)
      → IsNextDue (record { counters = counters; bag = bag_of stored }) k.due
  first_next counters k e rest is later =
      let kept = subst (AllByRecursion IsTimer) is keyed.0 in
      let has : Has e (entries_in k.owner stored) = subst (λ ts. Has e (entries_in k.owner (record stored { timers = ts }))) (sym is) (listed_has number_of k.owner e [] (map timer_item rest ++ map idle_item stored.idle)) in
      record {
        owner = k.owner;
        among = among_moments k.due e (entries_in k.owner stored) kept.0.1 has;
        least = λ other. All-from_recursion (λ its. k.due ≤ its) (due_moments (entries_in other stored)) (moments_from k.due (entries_in other stored) (from_all k later other));
      }

  pub no_idle : stored.idle ≡ [] → (owner : ℕ) → idle_ids (entries_in owner stored) ≡ []
  no_idle none owner = none_idle (entries_in owner stored) (λ e has. by e (has_timers owner e stored.timers (map idle_item stored.idle) (bag_has number_of owner e (bag_of stored) has)))
    where
      by : (e : WaitingScript) → Has (item owner e) (map timer_item stored.timers) ⊎ Has (item owner e) (map idle_item stored.idle) → is_none e.due ≡ false
      by e (inl front) = timer_due owner e stored.timers keyed.0 front
      by e (inr back) = absurd (subst (λ is. Has (item owner e) (map idle_item is)) none back)

  -- so that of the application whose timer it is
  pub first_own : (k : DueKey) (e : WaitingScript) (rest : List (DueKey × WaitingScript)) → stored.timers ≡ (k, e) ∷ rest → AllByRecursion (IsLeBy due_cmp k) (keys_of stored.timers)
      → IsLeastOf (due_moments (entries_in k.owner stored)) k.due
  first_own k e rest is later =
      let kept = subst (AllByRecursion IsTimer) is keyed.0 in
      let has : Has e (entries_in k.owner stored) = subst (λ ts. Has e (entries_in k.owner (record stored { timers = ts }))) (sym is) (listed_has number_of k.owner e [] (map timer_item rest ++ map idle_item stored.idle)) in
      record {
        among = among_moments k.due e (entries_in k.owner stored) kept.0.1 has;
        least = All-from_recursion (λ its. k.due ≤ its) (due_moments (entries_in k.owner stored)) (moments_from k.due (entries_in k.owner stored) (from_all k later k.owner));
      }

-- the first of a list that a place tells
pub begins : {X : Type 0} (xs : List X) (x : X) → slice_get xs 0 ≡ Some x → (rest : List X) × (xs ≡ x ∷ rest)
begins [] x is = absurd (none-some _ is)
begins (y ∷ ys) x is = (ys, ap (λ v. v ∷ ys) (same_Some _ _ is))

pub nothing_first : {X : Type 0} (xs : List X) → (0 < length xs → ⊥) → xs ≡ []
nothing_first [] none = refl
nothing_first (x ∷ xs) none = absurd (none (omega arith))
