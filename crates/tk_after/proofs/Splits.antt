-- Where an entry stands among a map's entries, and where one comes in.
use Rattle.std.proofs.Common.{◌≡◌, Bool, true, false, List, [], ◌∷◌, ◌++◌, Some, None, refl, ap}
use Rattle.std.specs.BTreeMap.{insert_entry, is_at}
use Rattle.std.specs.List.{AllByRecursion}
use Rattle.std.specs.Map.{lookup, remove_entry}
use Rattle.std.specs.declared.cmp.Ordering.{Ordering}
use Rattle.std.specs.declared.cmp.Ordering.TheVariants.{Less, Equal, Greater}
use Rattle.std.proofs.lemmas.Option.{none-some, same_Some}

module _ {X : Type 0} (P : X → Type 0) where
  pub all_at : (front : List X) (x : X) (back : List X) → AllByRecursion P (front ++ x ∷ back) → P x
  all_at [] x back all = all.0
  all_at (y ∷ front) x back all = all_at front x back all.1

  pub all_without : (front : List X) (x : X) (back : List X) → AllByRecursion P (front ++ x ∷ back) → AllByRecursion P (front ++ back)
  all_without [] x back all = all.1
  all_without (y ∷ front) x back all = (all.0, all_without front x back all.1)

  pub all_with : (front : List X) (x : X) (back : List X) → AllByRecursion P (front ++ back) → P x → AllByRecursion P (front ++ x ∷ back)
  all_with [] x back all new = (new, all)
  all_with (y ∷ front) x back all new = (all.0, all_with front x back all.1 new)

module _ {K X : Type 0} (test : K → Bool) where
  -- an entry whose key passes, with what stands before and behind it, which is what stays where it goes
  pub record Stands (es : List (K × X)) (x : X) : Type 0 where
    pub front : List (K × X)
    pub key : K
    pub back : List (K × X)
    pub passes : test key ≡ true
    pub es_is : es ≡ front ++ (key, x) ∷ back
    pub rest_is : remove_entry test es ≡ front ++ back

  there_by : (e : K × X) (es : List (K × X)) (x : X) (b : Bool) → test e.0 ≡ b → (lookup test es ≡ Some x → Stands es x) → lookup test (e ∷ es) ≡ Some x → Stands (e ∷ es) x
  there_by e es x true is rest found =
      let same : e.1 ≡ x = same_Some _ _ (rw is at found) in
      record { front = []; key = e.0; back = es; passes = is; es_is = ap (λ v. (e.0, v) ∷ es) same; rest_is = rw is refl }
  there_by e es x false is rest found =
      let s = rest (rw is at found) in
      record { front = e ∷ s.front; key = s.key; back = s.back; passes = s.passes; es_is = ap (λ zs. e ∷ zs) s.es_is; rest_is = rw is (ap (λ zs. e ∷ zs) s.rest_is) }

  pub there : (es : List (K × X)) (x : X) → lookup test es ≡ Some x → Stands es x
  there [] x found = absurd (none-some _ found)
  there (e ∷ es) x found = there_by e es x (test e.0) refl (there es x) found

  nowhere_by : (e : K × X) (es : List (K × X)) (b : Bool) → test e.0 ≡ b → (lookup test es ≡ None → remove_entry test es ≡ es) → lookup test (e ∷ es) ≡ None → remove_entry test (e ∷ es) ≡ e ∷ es
  nowhere_by e es true is rest none = absurd (cc (rw is at none))
  nowhere_by e es false is rest none = rw is (ap (λ zs. e ∷ zs) (rest (rw is at none)))

  -- nothing goes where no key passes
  pub nowhere : (es : List (K × X)) → lookup test es ≡ None → remove_entry test es ≡ es
  nowhere [] none = refl
  nowhere (e ∷ es) none = nowhere_by e es (test e.0) refl (nowhere es) none

module _ {K X : Type 0} (cmp : K → K → Ordering) where
  -- an entry under a new key, with what stands before and behind it
  pub record Comes (es : List (K × X)) (k : K) (x : X) : Type 0 where
    pub front : List (K × X)
    pub back : List (K × X)
    pub es_is : es ≡ front ++ back
    pub new_is : insert_entry cmp es k x ≡ front ++ (k, x) ∷ back

  comes_by : (e : K × X) (es : List (K × X)) (k : K) (x : X) (o : Ordering) → cmp k e.0 ≡ o → (lookup (is_at (cmp k)) es ≡ None → Comes es k x) → lookup (is_at (cmp k)) (e ∷ es) ≡ None → Comes (e ∷ es) k x
  comes_by e es k x Less is rest none = record { front = []; back = e ∷ es; es_is = refl; new_is = rw is refl }
  comes_by e es k x Equal is rest none = absurd (cc (rw is at none))
  comes_by e es k x Greater is rest none =
      let s = rest (rw is at none) in
      record { front = e ∷ s.front; back = s.back; es_is = ap (λ zs. e ∷ zs) s.es_is; new_is = rw is (ap (λ zs. e ∷ zs) s.new_is) }

  pub comes : (es : List (K × X)) (k : K) (x : X) → lookup (is_at (cmp k)) es ≡ None → Comes es k x
  comes [] k x none = record { front = []; back = []; es_is = refl; new_is = refl }
  comes (e ∷ es) k x none = comes_by e es k x (cmp k e.0) refl (comes es k x) none

  undone_by : (e : K × X) (es : List (K × X)) (k : K) (x : X) (o : Ordering) → cmp k e.0 ≡ o → cmp k k ≡ Equal → (lookup (is_at (cmp k)) es ≡ None → remove_entry (is_at (cmp k)) (insert_entry cmp es k x) ≡ es)
      → lookup (is_at (cmp k)) (e ∷ es) ≡ None → remove_entry (is_at (cmp k)) (insert_entry cmp (e ∷ es) k x) ≡ e ∷ es
  undone_by e es k x Less is itself rest none = rw (is, itself) refl
  undone_by e es k x Equal is itself rest none = absurd (cc (rw is at none))
  undone_by e es k x Greater is itself rest none = rw (is, is) (ap (λ zs. e ∷ zs) (rest (rw is at none)))

  -- to take it out again leaves what was
  pub undone : (es : List (K × X)) (k : K) (x : X) → cmp k k ≡ Equal → lookup (is_at (cmp k)) es ≡ None → remove_entry (is_at (cmp k)) (insert_entry cmp es k x) ≡ es
  undone [] k x itself none = rw itself refl
  undone (e ∷ es) k x itself none = undone_by e es k x (cmp k e.0) refl itself (undone es k x itself) none
