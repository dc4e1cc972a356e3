-- The bag of all entries, where one comes in or goes.
use Rattle.std.proofs.Common.{◌≡◌, ◌≢◌, ℕ, Bool, true, false, List, [], ◌∷◌, ◌++◌, map, Option, Some, None, refl, sym, ap, ◌∙◌, subst, ◌⊎◌, inl, inr, append_assoc}
use Rattle.std.specs.Prelude.{◌==◌, IfSome, Result, Ok, Err, OnOk, OnErr}
use Rattle.std.specs.BTreeMap.{insert_entry, is_at}
use Rattle.std.specs.List.{AllByRecursion}
use Rattle.std.specs.Map.{lookup, remove_entry}
use Rattle.std.proofs.lemmas.Bool.{eqb-true, false≢true}
use Rattle.std.proofs.lemmas.Cmp.{tied_itself}
use Rattle.std.proofs.lemmas.List.{map-append}
use Rattle.std.proofs.lemmas.Option.{none-some, same_Some}
use Rattle.tk_base.specs.Bag.{Item, listed}
use Rattle.tk_base.specs.Numbered.{without, AllBelow, IsRising}
use Rattle.tk_base.proofs.Owners.{item, listed_new, listed_gone, listed_other, listed_found}
use Rattle.tk_after.specs.declared.waiting.WaitingScript.{WaitingScript}
use Rattle.tk_after.specs.declared.keys.DueKey.{DueKey}
use Rattle.tk_after.specs.declared.keys.Name.{Name}
use Rattle.tk_after.specs.Keys.{Stored, due_cmp, name_cmp, due_key, name, number_of, timer_item, idle_item, bag_of, entries_in, IsTimer, IsIdle, AreKeyed, IsMarked, stored_at, given, taken}
use Rattle.tk_after.specs.Timers.{entry_with}
use Rattle.tk_after.proofs.KeyOrders.{same_name, same_due, name_itself, due_itself, names_total, dues_total}
use Rattle.tk_after.proofs.Lists.{Has, found_has, bag_has, listed_has, not_below, without_absent}
use Rattle.tk_after.proofs.Splits.{there, nowhere, comes, undone, all_at, all_with, all_without}

-- what is stored with an entry, and without it
pub record Split (stored rest : Stored) (owner : ℕ) (entry : WaitingScript) : Type 0 where
  pub front : List (Item WaitingScript)
  pub back : List (Item WaitingScript)
  pub with_is : bag_of stored ≡ front ++ item owner entry ∷ back
  pub rest_is : bag_of rest ≡ front ++ back

module _ (stored rest : Stored) (owner : ℕ) (entry : WaitingScript) (s : Split stored rest owner entry) where
  pub split_new : AllBelow number_of entry.id (entries_in owner rest) → entries_in owner stored ≡ entries_in owner rest ++ entry ∷ []
  split_new below =
      ap (λ bag. listed number_of owner bag) s.with_is ∙ listed_new number_of owner entry s.front s.back (subst (λ bag. AllBelow number_of entry.id (listed number_of owner bag)) s.rest_is below)
      ∙ ap (λ bag. listed number_of owner bag ++ entry ∷ []) (sym s.rest_is)

  pub split_gone : IsRising number_of (entries_in owner stored) → entries_in owner rest ≡ without number_of entry.id (entries_in owner stored)
  split_gone rising =
      ap (λ bag. listed number_of owner bag) s.rest_is ∙ listed_gone number_of owner entry s.front s.back (subst (λ bag. IsRising number_of (listed number_of owner bag)) s.with_is rising)
      ∙ ap (λ bag. without number_of entry.id (listed number_of owner bag)) (sym s.with_is)

  pub split_other : (other : ℕ) → other ≢ owner → entries_in other stored ≡ entries_in other rest
  split_other other differ =
      ap (λ bag. listed number_of other bag) s.with_is ∙ listed_other number_of owner other entry s.front s.back differ ∙ ap (λ bag. listed number_of other bag) (sym s.rest_is)

  pub split_found : IsRising number_of (entries_in owner stored) → entry_with entry.id (entries_in owner stored) ≡ Some entry
  split_found rising =
      ap (λ bag. entry_with entry.id (listed number_of owner bag)) s.with_is
      ∙ listed_found number_of owner entry s.front s.back (subst (λ bag. IsRising number_of (listed number_of owner bag)) s.with_is rising)

  pub split_has : Has entry (entries_in owner stored)
  split_has = subst (λ bag. Has entry (listed number_of owner bag)) (sym s.with_is) (listed_has number_of owner entry s.front s.back)

abbrev pub stored_of : List (DueKey × WaitingScript) → List (Name × WaitingScript) → Stored
stored_of timers idle = record { timers = timers; idle = idle }

timer_split : (timers rest : List (DueKey × WaitingScript)) (idle : List (Name × WaitingScript)) (k : DueKey) (e : WaitingScript) (front back : List (DueKey × WaitingScript)) → timers ≡ front ++ (k, e) ∷ back → rest ≡ front ++ back
    → Split (stored_of timers idle) (stored_of rest idle) k.owner e
timer_split timers rest idle k e front back timers_is rest_is = record {
  front = map timer_item front;
  back = map timer_item back ++ map idle_item idle;
  with_is = ap (λ ts. bag_of (stored_of ts idle)) timers_is ∙ ap (λ zs. zs ++ map idle_item idle) (map-append timer_item front ((k, e) ∷ back)) ∙ append_assoc (map timer_item front) (item k.owner e ∷ map timer_item back) (map idle_item idle);
  rest_is = ap (λ ts. bag_of (stored_of ts idle)) rest_is ∙ ap (λ zs. zs ++ map idle_item idle) (map-append timer_item front back) ∙ append_assoc (map timer_item front) (map timer_item back) (map idle_item idle);
}

idle_split : (timers : List (DueKey × WaitingScript)) (idle rest : List (Name × WaitingScript)) (k : Name) (e : WaitingScript) (front back : List (Name × WaitingScript)) → idle ≡ front ++ (k, e) ∷ back → rest ≡ front ++ back
    → Split (stored_of timers idle) (stored_of timers rest) k.owner e
idle_split timers idle rest k e front back idle_is rest_is = record {
  front = map timer_item timers ++ map idle_item front;
  back = map idle_item back;
  with_is = ap (λ is. bag_of (stored_of timers is)) idle_is ∙ ap (λ zs. map timer_item timers ++ zs) (map-append idle_item front ((k, e) ∷ back)) ∙ sym (append_assoc (map timer_item timers) (map idle_item front) (item k.owner e ∷ map idle_item back));
  rest_is = ap (λ is. bag_of (stored_of timers is)) rest_is ∙ ap (λ zs. map timer_item timers ++ zs) (map-append idle_item front back) ∙ sym (append_assoc (map timer_item timers) (map idle_item front) (map idle_item back));
}

-- ── an entry that is looked up by its key ──
pub record Found (stored : Stored) (owner id : ℕ) (due : Option ℕ) (entry : WaitingScript) : Type 0 where
  pub its_number : entry.id ≡ id
  pub its_due : entry.due ≡ due
  pub split : Split stored (taken owner id due stored) owner entry
  pub rest : AreKeyed (taken owner id due stored)

pub found : (stored : Stored) → AreKeyed stored → (owner id : ℕ) (due : Option ℕ) (entry : WaitingScript) → stored_at owner id due stored ≡ Some entry → Found stored owner id due entry
found stored keyed owner id (Some due) entry is =
    let s = there (is_at (due_cmp (due_key due owner id))) stored.timers entry is in
    let same = same_due due owner id s.key s.passes in
    let all = subst (AllByRecursion IsTimer) s.es_is keyed.0 in
    let kept = all_at IsTimer s.front (s.key, entry) s.back all in
    record {
      its_number = sym kept.0 ∙ ap (λ (k : DueKey). k.id) (sym same);
      its_due = kept.1 ∙ ap (λ (k : DueKey). Some k.due) (sym same);
      split = timer_split stored.timers (remove_entry (is_at (due_cmp (due_key due owner id))) stored.timers) stored.idle (due_key due owner id) entry s.front s.back (s.es_is ∙ ap (λ (k : DueKey). s.front ++ (k, entry) ∷ s.back) (sym same)) s.rest_is;
      rest = (subst (AllByRecursion IsTimer) (sym s.rest_is) (all_without IsTimer s.front (s.key, entry) s.back all), keyed.1);
    }
found stored keyed owner id None entry is =
    let s = there (is_at (name_cmp (name owner id))) stored.idle entry is in
    let same = same_name owner id s.key s.passes in
    let all = subst (AllByRecursion IsIdle) s.es_is keyed.1 in
    let kept = all_at IsIdle s.front (s.key, entry) s.back all in
    record {
      its_number = sym kept.0 ∙ ap (λ (k : Name). k.id) (sym same);
      its_due = kept.1;
      split = idle_split stored.timers stored.idle (remove_entry (is_at (name_cmp (name owner id))) stored.idle) (name owner id) entry s.front s.back (s.es_is ∙ ap (λ (k : Name). s.front ++ (k, entry) ∷ s.back) (sym same)) s.rest_is;
      rest = (keyed.0, subst (AllByRecursion IsIdle) (sym s.rest_is) (all_without IsIdle s.front (s.key, entry) s.back all));
    }

pub taken_nowhere : (stored : Stored) (owner id : ℕ) (due : Option ℕ) → stored_at owner id due stored ≡ None → taken owner id due stored ≡ stored
taken_nowhere stored owner id (Some due) none = ap (λ ts. stored_of ts stored.idle) (nowhere (is_at (due_cmp (due_key due owner id))) stored.timers none)
taken_nowhere stored owner id None none = ap (λ is. stored_of stored.timers is) (nowhere (is_at (name_cmp (name owner id))) stored.idle none)

-- what goes leaves the others'
pub taken_other : (stored : Stored) → AreKeyed stored → (owner id : ℕ) (due : Option ℕ) (o : Option WaitingScript) → stored_at owner id due stored ≡ o → (other : ℕ) → other ≢ owner → entries_in other (taken owner id due stored) ≡ entries_in other stored
taken_other stored keyed owner id due None is other differ = ap (entries_in other) (taken_nowhere stored owner id due is)
taken_other stored keyed owner id due (Some entry) is other differ =
    let f = found stored keyed owner id due entry is in
    sym (split_other stored (taken owner id due stored) owner entry f.split other differ)

pub taken_keyed : (stored : Stored) → AreKeyed stored → (owner id : ℕ) (due : Option ℕ) (o : Option WaitingScript) → stored_at owner id due stored ≡ o → AreKeyed (taken owner id due stored)
taken_keyed stored keyed owner id due None is = subst AreKeyed (sym (taken_nowhere stored owner id due is)) keyed
taken_keyed stored keyed owner id due (Some entry) is = (found stored keyed owner id due entry is).rest

-- ── an entry that comes in under a new number ──
pub absent : (stored : Stored) → AreKeyed stored → (owner id : ℕ) (due : Option ℕ) → AllBelow number_of id (entries_in owner stored) → (o : Option WaitingScript) → stored_at owner id due stored ≡ o → stored_at owner id due stored ≡ None
absent stored keyed owner id due below None is = is
absent stored keyed owner id due below (Some entry) is =
    let f = found stored keyed owner id due entry is in
    absurd (not_below number_of id entry (entries_in owner stored) below (split_has stored (taken owner id due stored) owner entry f.split) f.its_number)

pub record Given (stored new : Stored) (owner : ℕ) (entry : WaitingScript) : Type 0 where
  pub keyed : AreKeyed new
  pub split : Split new stored owner entry
  pub back : taken owner entry.id entry.due new ≡ stored

given_by : (stored : Stored) → AreKeyed stored → (owner : ℕ) (entry : WaitingScript) (due : Option ℕ) → entry.due ≡ due → stored_at owner entry.id due stored ≡ None → Given stored (given owner entry.id due entry stored) owner entry
given_by stored keyed owner entry (Some due) its_due none =
    let key = due_key due owner entry.id in
    let s = comes due_cmp stored.timers key entry none in
    record {
      keyed = (subst (AllByRecursion IsTimer) (sym s.new_is) (all_with IsTimer s.front (key, entry) s.back (subst (AllByRecursion IsTimer) s.es_is keyed.0) (refl, its_due)), keyed.1);
      split = timer_split (insert_entry due_cmp stored.timers key entry) stored.timers stored.idle key entry s.front s.back s.new_is s.es_is;
      back = ap (λ d. taken owner entry.id d (given owner entry.id (Some due) entry stored)) its_due ∙ ap (λ ts. stored_of ts stored.idle) (undone due_cmp stored.timers key entry (tied_itself dues_total key) none);
    }
given_by stored keyed owner entry None its_due none =
    let key = name owner entry.id in
    let s = comes name_cmp stored.idle key entry none in
    record {
      keyed = (keyed.0, subst (AllByRecursion IsIdle) (sym s.new_is) (all_with IsIdle s.front (key, entry) s.back (subst (AllByRecursion IsIdle) s.es_is keyed.1) (refl, its_due)));
      split = idle_split stored.timers (insert_entry name_cmp stored.idle key entry) stored.idle key entry s.front s.back s.new_is s.es_is;
      back = ap (λ d. taken owner entry.id d (given owner entry.id None entry stored)) its_due ∙ ap (λ is. stored_of stored.timers is) (undone name_cmp stored.idle key entry (tied_itself names_total key) none);
    }

pub given_is : (stored : Stored) → AreKeyed stored → (owner : ℕ) (entry : WaitingScript) → AllBelow number_of entry.id (entries_in owner stored) → (due : Option ℕ) → entry.due ≡ due → Given stored (given owner entry.id due entry stored) owner entry
given_is stored keyed owner entry below due its_due =
    given_by stored keyed owner entry due its_due (absent stored keyed owner entry.id due below (stored_at owner entry.id due stored) refl)

-- ── a number whose entry is nowhere ──
none_rest : {K X : Type 0} (test : K → Bool) (e : K × X) (es : List (K × X)) (b : Bool) → test e.0 ≡ b → lookup test (e ∷ es) ≡ None → (b ≡ false) × (lookup test es ≡ None)
none_rest test e es true is none = absurd (cc (rw is at none))
none_rest test e es false is none = (refl, rw is at none)

no_timer : (owner id due : ℕ) (e : WaitingScript) (ts : List (DueKey × WaitingScript)) → AllByRecursion IsTimer ts → e.id ≡ id → e.due ≡ Some due → lookup (is_at (due_cmp (due_key due owner id))) ts ≡ None → Has (item owner e) (map timer_item ts) → ⊥
no_timer owner id due e [] keyed its_id its_due none has = has
no_timer owner id due e (t ∷ ts) keyed its_id its_due none (inl same) =
    let its = ap (λ (i : Item WaitingScript). i.value) same in
    let due_is : t.0.due ≡ due = same_Some _ _ (sym keyed.0.1 ∙ ap (λ (v : WaitingScript). v.due) its ∙ its_due) in
    let owner_is : t.0.owner ≡ owner = ap (λ (i : Item WaitingScript). i.owner) same in
    let id_is : t.0.id ≡ id = keyed.0.0 ∙ ap (λ (v : WaitingScript). v.id) its ∙ its_id in
    let key : due_key due owner id ≡ t.0 = ap (λ d. due_key d owner id) (sym due_is) ∙ ap (λ o. due_key t.0.due o id) (sym owner_is) ∙ ap (λ n. due_key t.0.due t.0.owner n) (sym id_is) in
    let passes = ap (λ k. is_at (due_cmp (due_key due owner id)) k) (sym key) ∙ due_itself due owner id in
    false≢true (sym (none_rest (is_at (due_cmp (due_key due owner id))) t ts true passes none).0)
no_timer owner id due e (t ∷ ts) keyed its_id its_due none (inr there) =
    no_timer owner id due e ts keyed.1 its_id its_due (none_rest (is_at (due_cmp (due_key due owner id))) t ts (is_at (due_cmp (due_key due owner id)) t.0) refl none).1 there

no_idle : (owner id : ℕ) (e : WaitingScript) (ts : List (Name × WaitingScript)) → AllByRecursion IsIdle ts → e.id ≡ id → lookup (is_at (name_cmp (name owner id))) ts ≡ None → Has (item owner e) (map idle_item ts) → ⊥
no_idle owner id e [] keyed its_id none has = has
no_idle owner id e (t ∷ ts) keyed its_id none (inl same) =
    let owner_is : t.0.owner ≡ owner = ap (λ (i : Item WaitingScript). i.owner) same in
    let id_is : t.0.id ≡ id = keyed.0.0 ∙ ap (λ (i : Item WaitingScript). i.value.id) same ∙ its_id in
    let key : name owner id ≡ t.0 = ap (λ o. name o id) (sym owner_is) ∙ ap (λ n. name t.0.owner n) (sym id_is) in
    let passes = ap (λ k. is_at (name_cmp (name owner id)) k) (sym key) ∙ name_itself owner id in
    false≢true (sym (none_rest (is_at (name_cmp (name owner id))) t ts true passes none).0)
no_idle owner id e (t ∷ ts) keyed its_id none (inr there) =
    no_idle owner id e ts keyed.1 its_id (none_rest (is_at (name_cmp (name owner id))) t ts (is_at (name_cmp (name owner id)) t.0) refl none).1 there

pub has_timers : (owner : ℕ) (e : WaitingScript) (ts : List (DueKey × WaitingScript)) (more : List (Item WaitingScript)) → Has (item owner e) (map timer_item ts ++ more) → Has (item owner e) (map timer_item ts) ⊎ Has (item owner e) more
has_timers owner e [] more has = inr has
has_timers owner e (t ∷ ts) more (inl same) = inl (inl same)
has_timers owner e (t ∷ ts) more (inr there) = by (has_timers owner e ts more there)
  where
    by : Has (item owner e) (map timer_item ts) ⊎ Has (item owner e) more → Has (item owner e) (map timer_item (t ∷ ts)) ⊎ Has (item owner e) more
    by (inl front) = inl (inr front)
    by (inr back) = inr back

-- a timer isn't idle, and what is idle isn't due
pub timer_due : (owner : ℕ) (e : WaitingScript) (ts : List (DueKey × WaitingScript)) → AllByRecursion IsTimer ts → e.due ≡ None → Has (item owner e) (map timer_item ts) → ⊥
timer_due owner e [] keyed idle has = has
timer_due owner e (t ∷ ts) keyed idle (inl same) = none-some _ (sym idle ∙ ap (λ (i : Item WaitingScript). i.value.due) (sym same) ∙ keyed.0.1)
timer_due owner e (t ∷ ts) keyed idle (inr there) = timer_due owner e ts keyed.1 idle there

pub idle_due : (owner : ℕ) (e : WaitingScript) (ts : List (Name × WaitingScript)) → AllByRecursion IsIdle ts → Has (item owner e) (map idle_item ts) → e.due ≡ None
idle_due owner e [] keyed has = absurd has
idle_due owner e (t ∷ ts) keyed (inl same) = ap (λ (i : Item WaitingScript). i.value.due) (sym same) ∙ keyed.0.1
idle_due owner e (t ∷ ts) keyed (inr there) = idle_due owner e ts keyed.1 there

unmarked : (stored : Stored) → AreKeyed stored → (owner id : ℕ) (due : Option ℕ) (e : WaitingScript) → e.id ≡ id → e.due ≡ due → stored_at owner id due stored ≡ None
    → Has (item owner e) (map timer_item stored.timers) ⊎ Has (item owner e) (map idle_item stored.idle) → ⊥
unmarked stored keyed owner id (Some due) e its_id its_due none (inl front) = no_timer owner id due e stored.timers keyed.0 its_id its_due none front
unmarked stored keyed owner id (Some due) e its_id its_due none (inr back) = none-some _ (sym (idle_due owner e stored.idle keyed.1 back) ∙ its_due)
unmarked stored keyed owner id None e its_id its_due none (inl front) = timer_due owner e stored.timers keyed.0 its_due front
unmarked stored keyed owner id None e its_id its_due none (inr back) = no_idle owner id e stored.idle keyed.1 its_id none back

marked_none : (stored : Stored) → AreKeyed stored → (owner id : ℕ) (due : Option ℕ) → stored_at owner id due stored ≡ None → (o : Option WaitingScript) → entry_with id (entries_in owner stored) ≡ o → IfSome o (λ entry. entry.due ≡ due) → entry_with id (entries_in owner stored) ≡ None
marked_none stored keyed owner id due none None is marked = is
marked_none stored keyed owner id due none (Some e) is marked =
    let has = found_has (λ (entry : WaitingScript). entry.id == id) e (entries_in owner stored) is in
    absurd (unmarked stored keyed owner id due e (eqb-true e.id id has.1) marked none (has_timers owner e stored.timers (map idle_item stored.idle) (bag_has number_of owner e (bag_of stored) has.0)))

-- what is looked up is what the application has under the number
pub looked_up : (stored : Stored) → AreKeyed stored → (owner id : ℕ) (due : Option ℕ) → IsRising number_of (entries_in owner stored) → IsMarked id due (entries_in owner stored) → (o : Option WaitingScript) → stored_at owner id due stored ≡ o → o ≡ entry_with id (entries_in owner stored)
looked_up stored keyed owner id due rising marked None is = sym (marked_none stored keyed owner id due is (entry_with id (entries_in owner stored)) refl marked)
looked_up stored keyed owner id due rising marked (Some entry) is =
    let f = found stored keyed owner id due entry is in
    sym (ap (λ n. entry_with n (entries_in owner stored)) (sym f.its_number) ∙ split_found stored (taken owner id due stored) owner entry f.split rising)

-- and what goes out with it is its number
pub taken_own : (stored : Stored) → AreKeyed stored → (owner id : ℕ) (due : Option ℕ) → IsRising number_of (entries_in owner stored) → IsMarked id due (entries_in owner stored) → (o : Option WaitingScript) → stored_at owner id due stored ≡ o
    → entries_in owner (taken owner id due stored) ≡ without number_of id (entries_in owner stored)
taken_own stored keyed owner id due rising marked None is =
    ap (entries_in owner) (taken_nowhere stored owner id due is)
    ∙ sym (without_absent number_of id (entries_in owner stored) (marked_none stored keyed owner id due is (entry_with id (entries_in owner stored)) refl marked))
taken_own stored keyed owner id due rising marked (Some entry) is =
    let f = found stored keyed owner id due entry is in
    split_gone stored (taken owner id due stored) owner entry f.split rising ∙ ap (λ n. without number_of n (entries_in owner stored)) f.its_number

-- ── as calls tell it ──
pub record Put (now new : Stored) (owner : ℕ) (entry : WaitingScript) : Type 0 where
  pub own : entries_in owner new ≡ entries_in owner now ++ entry ∷ []
  pub others : (other : ℕ) → other ≢ owner → entries_in other new ≡ entries_in other now
  pub back : taken owner entry.id entry.due new ≡ now

module _ (stored now : Stored) (is : stored ≡ now) (keyed : AreKeyed stored) (owner : ℕ) (entry : WaitingScript) (below : AllBelow number_of entry.id (entries_in owner now)) (due : Option ℕ) (its_due : entry.due ≡ due) where
  pub put_given : Given stored (given owner entry.id due entry stored) owner entry
  put_given = given_is stored keyed owner entry (subst (λ s. AllBelow number_of entry.id (entries_in owner s)) (sym is) below) due its_due

  pub put : (new : Stored) → new ≡ given owner entry.id due entry stored → Put now new owner entry
  put new new_is =
      let whole = given owner entry.id due entry stored in
      record {
        own = ap (entries_in owner) new_is ∙ split_new whole stored owner entry put_given.split (subst (λ s. AllBelow number_of entry.id (entries_in owner s)) (sym is) below) ∙ ap (λ s. entries_in owner s ++ entry ∷ []) is;
        others = λ other differ. ap (entries_in other) new_is ∙ split_other whole stored owner entry put_given.split other differ ∙ ap (entries_in other) is;
        back = ap (taken owner entry.id entry.due) new_is ∙ put_given.back ∙ is;
      }

-- an entry that is due was put among the timers
pub put_timer : (timers new : List (DueKey × WaitingScript)) (idle : List (Name × WaitingScript)) (now : Stored) (is : stored_of timers idle ≡ now) (keyed : AreKeyed (stored_of timers idle))
    (owner : ℕ) (entry : WaitingScript) (below : AllBelow number_of entry.id (entries_in owner now)) (due : ℕ) (its_due : entry.due ≡ Some due)
    → new ≡ (given owner entry.id (Some due) entry (stored_of timers idle)).timers → Put now (stored_of new idle) owner entry
put_timer timers new idle now is keyed owner entry below due its_due new_is =
    put (stored_of timers idle) now is keyed owner entry below (Some due) its_due (stored_of new idle) (ap (λ ts. stored_of ts idle) new_is)

-- and one that isn't among the idle ones
pub put_idle : (timers : List (DueKey × WaitingScript)) (idle new : List (Name × WaitingScript)) (now : Stored) (is : stored_of timers idle ≡ now) (keyed : AreKeyed (stored_of timers idle))
    (owner : ℕ) (entry : WaitingScript) (below : AllBelow number_of entry.id (entries_in owner now)) (its_due : entry.due ≡ None)
    → new ≡ (given owner entry.id None entry (stored_of timers idle)).idle → Put now (stored_of timers new) owner entry
put_idle timers idle new now is keyed owner entry below its_due new_is =
    put (stored_of timers idle) now is keyed owner entry below None its_due (stored_of timers new) (ap (λ ts. stored_of timers ts) new_is)

-- what holds of the entries before and after holds whether or not there was memory
pub either_way : {A E X : Type 0} (P : List X → Type 0) (r : Result A E) (old whole new : List X) → OnOk r (new ≡ whole) → OnErr r (new ≡ old) → P old → P whole → P new
either_way P (Ok a) old whole new ok err was is = subst P (sym ok) is
either_way P (Err e) old whole new ok err was is = subst P (sym err) was

module _ (stored now : Stored) (is : stored ≡ now) (keyed : AreKeyed stored) (owner id : ℕ) (asked due : Option ℕ) (asked_is : asked ≡ due) where
  rising_there : IsRising number_of (entries_in owner now) → IsRising number_of (entries_in owner stored)
  rising_there rising = subst (λ s. IsRising number_of (entries_in owner s)) (sym is) rising

  marked_there : IsMarked id asked (entries_in owner now) → IsMarked id due (entries_in owner stored)
  marked_there marked = subst (λ d. IsMarked id d (entries_in owner stored)) asked_is (subst (λ s. IsMarked id asked (entries_in owner s)) (sym is) marked)

  pub got : (o : Option WaitingScript) → o ≡ stored_at owner id due stored → IsRising number_of (entries_in owner now) → IsMarked id asked (entries_in owner now) → o ≡ entry_with id (entries_in owner now)
  got o o_is rising marked =
      o_is ∙ looked_up stored keyed owner id due (rising_there rising) (marked_there marked) (stored_at owner id due stored) refl ∙ ap (λ s. entry_with id (entries_in owner s)) is

  pub taken_from : (new : Stored) → new ≡ taken owner id due stored → IsRising number_of (entries_in owner now) → IsMarked id asked (entries_in owner now) → entries_in owner new ≡ without number_of id (entries_in owner now)
  taken_from new new_is rising marked =
      ap (entries_in owner) new_is ∙ taken_own stored keyed owner id due (rising_there rising) (marked_there marked) (stored_at owner id due stored) refl ∙ ap (λ s. without number_of id (entries_in owner s)) is

  pub left_others : (new : Stored) → new ≡ taken owner id due stored → (other : ℕ) → other ≢ owner → entries_in other new ≡ entries_in other now
  left_others new new_is other differ = ap (entries_in other) new_is ∙ taken_other stored keyed owner id due (stored_at owner id due stored) refl other differ ∙ ap (entries_in other) is

  pub still_keyed : AreKeyed (taken owner id due stored)
  still_keyed = taken_keyed stored keyed owner id due (stored_at owner id due stored) refl
