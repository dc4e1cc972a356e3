-- The timer that goes first.
use Rattle.std.proofs.Common.{◌≡◌, ℕ, ◌+◌, ◌<◌, ◌≤◌, zero, suc, min, List, [], ◌∷◌, length, get_or, Option, Some, None, refl, sym, ap, ◌∙◌, subst, eq-eqb, cond, Bool, true, false, arith}
use Rattle.std.specs.Prelude.{Contains, find, ◌==◌, nat_le, if◌then◌else◌, IfSome, IsSomeAnd}
use Rattle.std.specs.List.{cons_option}
use Rattle.std.specs.Option.{option_map_or, option_and_then}
use Rattle.std.proofs.lemmas.Bool.Decides.{nat_tests}
use Rattle.std.proofs.lemmas.Option.{IfSome_then, option_and_then_some, none-some, same_Some}
use Rattle.std.proofs.lemmas.Bool.{leb-true, leb-false, le-leb, eqb-true, false≢true}
use Rattle.tk_after.specs.declared.waiting.WaitingScript.{WaitingScript}
use Rattle.tk_after.specs.Timers.{least, due_moments, is_due_at, first_due, IsFirstDue, NothingDue}
use Rattle.tk_after.specs.Shared.{IsNumbered}
use Rattle.tk_after.proofs.Numbers.{id_at_least}

-- no number is below the least
pub least_at_most : (xs : List ℕ) (k : ℕ) → k < length xs → IsSomeAnd (least xs) (λ y. y ≤ get_or xs k 0)
least_at_most [] k lt = absurd (omega arith)
least_at_most (x ∷ xs) zero lt = elim (least xs) as (λ o. option_map_or (min x) o x ≤ x) [ None ↦ omega arith | Some y ↦ omega arith ]
least_at_most (x ∷ xs) (suc k) lt = below (least xs) (least_at_most xs k (omega arith))
  where
    below : (o : Option ℕ) → IsSomeAnd o (λ y. y ≤ get_or xs k 0) → option_map_or (min x) o x ≤ get_or xs k 0
    below None h = absurd h
    below (Some y) h = omega arith

-- what runs first, by when the earliest is due
pub first_due-at : (moment due : ℕ) (entries : List WaitingScript) → least (due_moments entries) ≡ Some due → due ≤ moment → first_due moment entries ≡ find (is_due_at due) entries
first_due-at moment due entries is le = rw (is, le-leb due moment le) refl

-- each due moment is at or after the least
later_at_most : (o : Option ℕ) (moments : List ℕ) (its : ℕ) → IsSomeAnd (least moments) (λ y. y ≤ its) → IsSomeAnd (least (cons_option o moments)) (λ y. y ≤ its)
later_at_most None moments its h = h
later_at_most (Some x) moments its h = below (least moments) h
  where
    below : (o : Option ℕ) → IsSomeAnd o (λ y. y ≤ its) → option_map_or (min x) o x ≤ its
    below None h = absurd h
    below (Some y) h = omega arith

first_at_most : (o : Option ℕ) (moments : List ℕ) → IfSome o (λ its. IsSomeAnd (least (cons_option o moments)) (λ y. y ≤ its))
first_at_most None moments = tt
first_at_most (Some x) moments = least_at_most (x ∷ moments) 0 (omega arith)

least_due : (entries : List WaitingScript) (k : ℕ) (d : WaitingScript) → k < length entries → IfSome (get_or entries k d).due (λ its. IsSomeAnd (least (due_moments entries)) (λ y. y ≤ its))
least_due [] k d lt = absurd (omega arith)
least_due (e ∷ entries) zero d lt = first_at_most e.due (due_moments entries)
least_due (e ∷ entries) (suc k) d lt = IfSome_then (get_or entries k d).due (least_due entries k d (omega arith)) (λ its h. later_at_most e.due (due_moments entries) its h)

-- an entry by its fields, for cases on its due moment
abbrev entry : ℕ → Option ℕ → List ℕ → WaitingScript
entry id due script = record { id = id; due = due; script = script }

-- some timer is due at the least moment
least_found_more : (id : ℕ) (o : Option ℕ) (script : List ℕ) (entries : List WaitingScript) (due : ℕ) → ((y : ℕ) → least (due_moments entries) ≡ Some y → find (is_due_at y) entries ≡ None → ⊥) →
    least (cons_option o (due_moments entries)) ≡ Some due → find (is_due_at due) (entry id o script ∷ entries) ≡ None → ⊥
least_found_more id None script entries due rest is none = rest due is none
least_found_more id (Some x) script entries due rest is none = pick (least (due_moments entries)) refl is
  where
    pick : (o : Option ℕ) → least (due_moments entries) ≡ o → Some (option_map_or (min x) o x) ≡ Some due → ⊥
    pick None r is = let same : x ≡ due = cc in grind (arith, nat_tests)
    pick (Some y) r is = let same : min x y ≡ due = cc in test (x == due) refl none
      where
        test : (b : Bool) → (x == due) ≡ b → cond (x == due) (Some (entry id (Some x) script)) (find (is_due_at due) entries) ≡ None → ⊥
        test true e none = absurd (none-some _ (sym (rw e at none)))
        test false e none = let y_is : y ≡ due = grind (arith, nat_tests) in rest due (r ∙ ap Some y_is) (rw e at none)

pub least_found : (entries : List WaitingScript) (due : ℕ) → least (due_moments entries) ≡ Some due → find (is_due_at due) entries ≡ None → ⊥
least_found [] due is none = cc
least_found (e ∷ entries) due is none = least_found_more e.id e.due e.script entries due (λ y. least_found entries y) is none

-- what is found by its moment is listed with it, and no timer of that moment has a lower number
abbrev IsFirstAt : ℕ → List WaitingScript → WaitingScript → Type 0
IsFirstAt due entries e =
    (e.due ≡ Some due) × Contains entries e × ((k : ℕ) (d : WaitingScript) → k < length entries → IfSome (get_or entries k d).due (λ its. due ≡ its → e.id ≤ (get_or entries k d).id))

-- where it is the first of the list
IsFirstAt-here : (due : ℕ) (x : WaitingScript) (entries : List WaitingScript) (next_number : ℕ) → IsNumbered (x.id + 1) entries next_number → x.due ≡ Some due → IsFirstAt due (x ∷ entries) x
IsFirstAt-here due x entries next_number numbered is = (is, (0, omega arith, refl), each)
  where
    any : (o : Option ℕ) (id : ℕ) → x.id ≤ id → IfSome o (λ its. due ≡ its → x.id ≤ id)
    any None id le = tt
    any (Some its) id le = λ _. le

    each : (k : ℕ) (d : WaitingScript) → k < length (x ∷ entries) → IfSome (get_or (x ∷ entries) k d).due (λ its. due ≡ its → x.id ≤ (get_or (x ∷ entries) k d).id)
    each zero d lt = any x.due x.id (omega arith)
    each (suc k) d lt = any (get_or entries k d).due (get_or entries k d).id (omega (arith, id_at_least (x.id + 1) entries next_number k d numbered (omega arith)))

-- where it stands behind the first
IsFirstAt-behind : (due : ℕ) (x : WaitingScript) (entries : List WaitingScript) (e : WaitingScript) → IsFirstAt due entries e → IfSome x.due (λ its. due ≡ its → ⊥) → IsFirstAt due (x ∷ entries) e
IsFirstAt-behind due x entries e rest other = (rest.0, (suc rest.1.0, omega (arith, rest.1.1), rest.1.2), each)
  where
    each : (k : ℕ) (d : WaitingScript) → k < length (x ∷ entries) → IfSome (get_or (x ∷ entries) k d).due (λ its. due ≡ its → e.id ≤ (get_or (x ∷ entries) k d).id)
    each zero d lt = IfSome_then x.due other (λ its differ is. absurd (differ is))
    each (suc k) d lt = rest.2 k d (omega arith)

first_at_more : (due id : ℕ) (o : Option ℕ) (script : List ℕ) (entries : List WaitingScript) (next_number : ℕ) (e : WaitingScript) → IsNumbered (id + 1) entries next_number →
    (find (is_due_at due) entries ≡ Some e → IsFirstAt due entries e) → find (is_due_at due) (entry id o script ∷ entries) ≡ Some e → IsFirstAt due (entry id o script ∷ entries) e
first_at_more due id None script entries next_number e numbered rest found = IsFirstAt-behind due (entry id None script) entries e (rest found) tt
first_at_more due id (Some its) script entries next_number e numbered rest found = test (its == due) refl found
  where
    test : (b : Bool) → (its == due) ≡ b → cond (its == due) (Some (entry id (Some its) script)) (find (is_due_at due) entries) ≡ Some e → IsFirstAt due (entry id (Some its) script ∷ entries) e
    test true is found =
        let P : WaitingScript → Type 0 = λ v. IsFirstAt due (entry id (Some its) script ∷ entries) v in
        let same : entry id (Some its) script ≡ e = same_Some _ _ (rw is at found) in
        subst P same (IsFirstAt-here due (entry id (Some its) script) entries next_number numbered (ap Some (eqb-true its due is)))
    test false is found = IsFirstAt-behind due (entry id (Some its) script) entries e (rest (rw is at found)) (λ same. false≢true (sym is ∙ eq-eqb its due (sym same)))

first_at : (due low : ℕ) (entries : List WaitingScript) (next_number : ℕ) (e : WaitingScript) → IsNumbered low entries next_number → find (is_due_at due) entries ≡ Some e → IsFirstAt due entries e
first_at due low [] next_number e numbered found = cc
first_at due low (x ∷ entries) next_number e numbered found =
    first_at_more due x.id x.due x.script entries next_number e numbered.1 (λ there. first_at due (x.id + 1) entries next_number e numbered.1 there) found

-- both facts of a timer's moment
both : (A B : ℕ → Type 0) (o : Option ℕ) → IfSome o A → IfSome o B → IfSome o (λ x. A x × B x)
both A B None a b = tt
both A B (Some x) a b = (a, b)

-- no timer is due before the least moment
due_from : (entries : List WaitingScript) (due k : ℕ) (d : WaitingScript) → least (due_moments entries) ≡ Some due → k < length entries → IfSome (get_or entries k d).due (λ its. due ≤ its)
due_from entries due k d is lt = rw is at (least_due entries k d lt)

pub first_due-is : (moment : ℕ) (entries : List WaitingScript) (next_number : ℕ) (e : WaitingScript) → IsNumbered 0 entries next_number → first_due moment entries ≡ Some e → IsFirstDue moment entries e.id e.script
first_due-is moment entries next_number e numbered found = option_and_then_some _ (least (due_moments entries)) e found by
  where
    by : (due : ℕ) → least (due_moments entries) ≡ Some due → cond (nat_le due moment) (find (is_due_at due) entries) None ≡ Some e → IsFirstDue moment entries e.id e.script
    by due is found = test (nat_le due moment) refl found
      where
        test : (b : Bool) → nat_le due moment ≡ b → cond b (find (is_due_at due) entries) None ≡ Some e → IsFirstDue moment entries e.id e.script
        test true le found =
            let first = first_at due 0 entries next_number e numbered found in
            let P : WaitingScript → Type 0 = λ v. Contains entries v in
            let e_is : entry e.id e.due e.script ≡ entry e.id (Some due) e.script = ap (λ (o : Option ℕ). entry e.id o e.script) first.0 in
            record {
              due = due;
              in_time = leb-true due moment le;
              listed = subst P e_is first.1;
              least = λ k d lt. both _ _ (get_or entries k d).due (due_from entries due k d is lt) (first.2 k d lt);
            }
        test false le found = cc

pub first_due-none : (moment : ℕ) (entries : List WaitingScript) → first_due moment entries ≡ None → NothingDue moment entries
first_due-none moment entries found = at (least (due_moments entries)) refl found
  where
    at : (o : Option ℕ) → least (due_moments entries) ≡ o → option_and_then (λ due. if nat_le due moment then find (is_due_at due) entries else None) o ≡ None → NothingDue moment entries
    at None is found = λ k d lt. IfSome_then (get_or entries k d).due (rw is at (least_due entries k d lt)) (λ its h. absurd h)
    at (Some due) is found = test (nat_le due moment) refl found
      where
        test : (b : Bool) → nat_le due moment ≡ b → cond b (find (is_due_at due) entries) None ≡ None → NothingDue moment entries
        test true le found = absurd (least_found entries due is found)
        test false le found = λ k d lt. IfSome_then (get_or entries k d).due (due_from entries due k d is lt) (λ its h. omega (arith, leb-false due moment le))
