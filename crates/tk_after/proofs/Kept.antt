-- What holds of all applications' entries, their numbers and their counters, as entries come and go.
use Rattle.std.proofs.Common.{◌≡◌, ◌≢◌, ℕ, ◌+◌, ◌-◌, ◌<◌, ◌≤◌, Bool, true, false, List, [], ◌∷◌, ◌++◌, length, map, Option, Some, None, refl, sym, ap, ◌∙◌, subst, arith}
use Rattle.std.specs.Prelude.{◌==◌, find, filter, option_map, is_none, IfSome}
use Rattle.std.specs.List.{cons_option, filter_map}
use Rattle.std.proofs.lemmas.Bool.{eqb-true, eq-eqb, ne_eqb, false≢true}
use Rattle.std.proofs.lemmas.Option.{none-some, same_Some}
use Rattle.tk_base.specs.Numbered.{numbered, without, AllBelow, AllAbove, IsRising}
use Rattle.tk_base.specs.declared.counter.Counter.{Counter}
use Rattle.tk_after.specs.declared.waiting.WaitingScript.{WaitingScript}
use Rattle.tk_after.specs.declared.keys.Name.{Name}
use Rattle.tk_after.specs.Keys.{Stored, number_of, entries_in, Mark, mark_number, mark_of, marks_of, held_by, AreKept}
use Rattle.tk_after.specs.Timers.{Timers, with_entry, without as own_without, entry_with, ids, idle_ids, due_moments, is_full}
use Rattle.tk_after.specs.Shared.{own_of, IsNumbered, IsKept}
use Rattle.tk_after.proofs.Numbers.{IsNumbered-lower, IsNumbered-push, room_from_is_full}
use Rattle.tk_base.specs.Counters.{next_of, count_of, Counts}

-- ── numbers that rise ──
low_at_most : (low : ℕ) (entries : List WaitingScript) (next : ℕ) → IsNumbered low entries next → low ≤ next
low_at_most low [] next numbered = numbered
low_at_most low (e ∷ entries) next numbered = omega (arith, numbered.0, low_at_most (e.id + 1) entries next numbered.1)

numbered_above : (n low : ℕ) (entries : List WaitingScript) (next : ℕ) → n < low → IsNumbered low entries next → AllAbove number_of n entries
numbered_above n low [] next lt numbered = tt
numbered_above n low (e ∷ entries) next lt numbered = (omega (arith, lt, numbered.0), numbered_above n (e.id + 1) entries next (omega (arith, lt, numbered.0)) numbered.1)

numbered_rising : (low : ℕ) (entries : List WaitingScript) (next : ℕ) → IsNumbered low entries next → IsRising number_of entries
numbered_rising low [] next numbered = tt
numbered_rising low (e ∷ entries) next numbered = (numbered_above e.id (e.id + 1) entries next (omega arith) numbered.1, numbered_rising (e.id + 1) entries next numbered.1)

numbered_below : (low : ℕ) (entries : List WaitingScript) (next : ℕ) → IsNumbered low entries next → AllBelow number_of next entries
numbered_below low [] next numbered = tt
numbered_below low (e ∷ entries) next numbered = (omega (arith, low_at_most (e.id + 1) entries next numbered.1), numbered_below (e.id + 1) entries next numbered.1)

pub kept_rising : (own : Timers) → IsKept own → IsRising number_of own.entries
kept_rising own kept = numbered_rising 0 own.entries own.next_number kept.numbered

pub kept_below : (own : Timers) → IsKept own → AllBelow number_of own.next_number own.entries
kept_below own kept = numbered_below 0 own.entries own.next_number kept.numbered

gone_by : (id low : ℕ) (e : WaitingScript) (entries : List WaitingScript) (next : ℕ) (b : Bool) → (e.id == id) ≡ b → low ≤ e.id → IsNumbered (e.id + 1) (without number_of id entries) next → IsNumbered low (without number_of id (e ∷ entries)) next
gone_by id low e entries next true is le rest = rw is (IsNumbered-lower (e.id + 1) low (without number_of id entries) next (omega (arith, le)) rest)
gone_by id low e entries next false is le rest = rw is (le, rest)

numbered_without : (id low : ℕ) (entries : List WaitingScript) (next : ℕ) → IsNumbered low entries next → IsNumbered low (without number_of id entries) next
numbered_without id low [] next numbered = numbered
numbered_without id low (e ∷ entries) next numbered = gone_by id low e entries next (e.id == id) refl numbered.0 (numbered_without id (e.id + 1) entries next numbered.1)

fewer_by : (id : ℕ) (e : WaitingScript) (entries : List WaitingScript) (b : Bool) → (e.id == id) ≡ b → length (without number_of id entries) ≤ length entries → length (without number_of id (e ∷ entries)) ≤ length (e ∷ entries)
fewer_by id e entries true is rest = rw is (omega (arith, rest))
fewer_by id e entries false is rest = rw is (omega (arith, rest))

fewer : (id : ℕ) (entries : List WaitingScript) → length (without number_of id entries) ≤ length entries
fewer id [] = omega arith
fewer id (e ∷ entries) = fewer_by id e entries (e.id == id) refl (fewer id entries)

above_without : (id : ℕ) (entries : List WaitingScript) → AllAbove number_of id entries → without number_of id entries ≡ entries
above_without id [] above = refl
above_without id (e ∷ entries) above = rw (ne_eqb e.id id (λ same. omega (arith, above.0, same))) (ap (λ zs. e ∷ zs) (above_without id entries above.1))

one_less_by : (id : ℕ) (x e : WaitingScript) (entries : List WaitingScript) (b : Bool) → (x.id == id) ≡ b → AllAbove number_of x.id entries → (entry_with id entries ≡ Some e → length (without number_of id entries) + 1 ≡ length entries)
    → entry_with id (x ∷ entries) ≡ Some e → length (without number_of id (x ∷ entries)) + 1 ≡ length (x ∷ entries)
one_less_by id x e entries true is above rest found =
    let same : x.id ≡ id = eqb-true x.id id is in
    let stay = ap length (above_without id entries (subst (λ n. AllAbove number_of n entries) same above)) in
    rw is (omega (arith, stay))
one_less_by id x e entries false is above rest found = let h = rest (rw is at found) in rw is (omega (arith, h))

-- where it is listed, one fewer
pub one_less : (id : ℕ) (e : WaitingScript) (entries : List WaitingScript) → IsRising number_of entries → entry_with id entries ≡ Some e → length (without number_of id entries) + 1 ≡ length entries
one_less id e [] rising found = absurd (none-some _ found)
one_less id e (x ∷ entries) rising found = one_less_by id x e entries (x.id == id) refl rising.0 (one_less id e entries rising.1) found

-- ── numbers and moments of entries ──
find_by : (p : Mark → Bool) (x : WaitingScript) (xs : List WaitingScript) (b : Bool) → p (mark_of x) ≡ b → find p (map mark_of xs) ≡ option_map mark_of (find (λ e. p (mark_of e)) xs) → find p (map mark_of (x ∷ xs)) ≡ option_map mark_of (find (λ e. p (mark_of e)) (x ∷ xs))
find_by p x xs true is rest = rw is refl
find_by p x xs false is rest = rw is rest

find_marks : (p : Mark → Bool) (xs : List WaitingScript) → find p (map mark_of xs) ≡ option_map mark_of (find (λ e. p (mark_of e)) xs)
find_marks p [] = refl
find_marks p (x ∷ xs) = find_by p x xs (p (mark_of x)) refl (find_marks p xs)

id_of_mark : (o : Option WaitingScript) → option_map mark_number (option_map mark_of o) ≡ option_map (λ (e : WaitingScript). e.id) o
id_of_mark None = refl
id_of_mark (Some e) = refl

due_of_mark : (o : Option WaitingScript) → option_map (λ (mark : Mark). mark.due) (option_map mark_of o) ≡ option_map (λ (e : WaitingScript). e.due) o
due_of_mark None = refl
due_of_mark (Some e) = refl

pub find_id_marks : (p : Mark → Bool) (xs : List WaitingScript) → option_map mark_number (find p (map mark_of xs)) ≡ option_map (λ (e : WaitingScript). e.id) (find (λ e. p (mark_of e)) xs)
find_id_marks p xs = ap (option_map mark_number) (find_marks p xs) ∙ id_of_mark (find (λ e. p (mark_of e)) xs)

pub due_marks : (id : ℕ) (xs : List WaitingScript) → option_map (λ (mark : Mark). mark.due) (numbered mark_number id (map mark_of xs)) ≡ option_map (λ (e : WaitingScript). e.due) (entry_with id xs)
due_marks id xs = ap (option_map (λ (mark : Mark). mark.due)) (find_marks (λ (mark : Mark). mark.id == id) xs) ∙ due_of_mark (entry_with id xs)

pub moments_marks : (xs : List WaitingScript) → filter_map (λ (mark : Mark). mark.due) (map mark_of xs) ≡ due_moments xs
moments_marks [] = refl
moments_marks (x ∷ xs) = ap (cons_option x.due) (moments_marks xs)

pub ids_marks : (xs : List WaitingScript) → map mark_number (map mark_of xs) ≡ ids xs
ids_marks [] = refl
ids_marks (x ∷ xs) = ap (λ ns. x.id ∷ ns) (ids_marks xs)

idle_by : (x : WaitingScript) (xs : List WaitingScript) (b : Bool) → is_none x.due ≡ b → map mark_number (filter (λ (mark : Mark). is_none mark.due) (map mark_of xs)) ≡ idle_ids xs → map mark_number (filter (λ (mark : Mark). is_none mark.due) (map mark_of (x ∷ xs))) ≡ idle_ids (x ∷ xs)
idle_by x xs true is rest = rw is (ap (λ ns. x.id ∷ ns) rest)
idle_by x xs false is rest = rw is rest

pub idle_marks : (xs : List WaitingScript) → map mark_number (filter (λ (mark : Mark). is_none mark.due) (map mark_of xs)) ≡ idle_ids xs
idle_marks [] = refl
idle_marks (x ∷ xs) = idle_by x xs (is_none x.due) refl (idle_marks xs)

below_marks : (n : ℕ) (xs : List WaitingScript) → AllBelow number_of n xs → AllBelow mark_number n (map mark_of xs)
below_marks n [] below = tt
below_marks n (x ∷ xs) below = (below.0, below_marks n xs below.1)

push_marks : (xs : List WaitingScript) (e : WaitingScript) → map mark_of (xs ++ e ∷ []) ≡ map mark_of xs ++ mark_of e ∷ []
push_marks [] e = refl
push_marks (x ∷ xs) e = ap (λ ms. mark_of x ∷ ms) (push_marks xs e)

without_by : (id : ℕ) (x : WaitingScript) (xs : List WaitingScript) (b : Bool) → (x.id == id) ≡ b → map mark_of (without number_of id xs) ≡ without mark_number id (map mark_of xs) → map mark_of (without number_of id (x ∷ xs)) ≡ without mark_number id (map mark_of (x ∷ xs))
without_by id x xs true is rest = rw is rest
without_by id x xs false is rest = rw is (ap (λ ms. mark_of x ∷ ms) rest)

without_marks : (id : ℕ) (xs : List WaitingScript) → map mark_of (without number_of id xs) ≡ without mark_number id (map mark_of xs)
without_marks id [] = refl
without_marks id (x ∷ xs) = without_by id x xs (x.id == id) refl (without_marks id xs)

-- ── a number's moment as the index tells it ──
pub marked_by : (due : Option ℕ) (o : Option WaitingScript) → option_map (λ (e : WaitingScript). e.due) o ≡ Some due → IfSome o (λ e. e.due ≡ due)
marked_by due None is = tt
marked_by due (Some e) is = same_Some _ _ is

pub unlisted_by : (o : Option WaitingScript) → option_map (λ (e : WaitingScript). e.due) o ≡ None → o ≡ None
unlisted_by None is = refl
unlisted_by (Some e) is = absurd (none-some _ (sym is))

abbrev entry_of : ℕ → Option ℕ → List ℕ → WaitingScript
entry_of id due script = record { id = id; due = due; script = script }

abbrev pub own_with : ℕ → List WaitingScript → Timers
own_with next entries = record { next_number = next; entries = entries }

-- ── all applications ──
module _ (stored new : Stored) (rows rows' : List (Name × Option ℕ)) (counters counters' : List (ℕ × Counter)) (owner : ℕ) where
  -- what is as it was of the others
  pub record Leaves : Type 0 where
    pub entries : (other : ℕ) → other ≢ owner → entries_in other new ≡ entries_in other stored
    pub marks : (other : ℕ) → other ≢ owner → marks_of other rows' ≡ marks_of other rows
    pub nexts : (other : ℕ) → other ≢ owner → next_of other counters' ≡ next_of other counters
    pub counts : (other : ℕ) → other ≢ owner → count_of other counters' ≡ count_of other counters

  pub own_left : Leaves → (other : ℕ) → other ≢ owner → own_of other (held_by new counters') ≡ own_of other (held_by stored counters)
  own_left leaves other differ =
      ap (λ n. own_with n (entries_in other new)) (leaves.nexts other differ)
      ∙ ap (λ es. own_with (next_of other counters) es) (leaves.entries other differ)

  -- all is kept where it is of the one that changes
  pub kept_by : AreKept stored rows counters → Leaves → IsKept (own_of owner (held_by new counters')) → count_of owner counters' ≡ length (entries_in owner new) → marks_of owner rows' ≡ map mark_of (entries_in owner new)
      → AreKept new rows' counters'
  kept_by kept leaves sound counted listed = record {
    sound = λ o. sound_at o (o == owner) refl;
    counted = λ o. counted_at o (o == owner) refl;
    listed = λ o. listed_at o (o == owner) refl;
  }
    where
      other_than : (o : ℕ) → (o == owner) ≡ false → o ≢ owner
      other_than o is same = false≢true (sym is ∙ eq-eqb o owner same)

      sound_at : (o : ℕ) (b : Bool) → (o == owner) ≡ b → IsKept (own_of o (held_by new counters'))
      sound_at o true is = subst (λ n. IsKept (own_of n (held_by new counters'))) (sym (eqb-true o owner is)) sound
      sound_at o false is = subst IsKept (sym (own_left leaves o (other_than o is))) (kept.sound o)

      counted_at : (o : ℕ) (b : Bool) → (o == owner) ≡ b → count_of o counters' ≡ length (entries_in o new)
      counted_at o true is = subst (λ n. count_of n counters' ≡ length (entries_in n new)) (sym (eqb-true o owner is)) counted
      counted_at o false is = leaves.counts o (other_than o is) ∙ kept.counted o ∙ ap length (sym (leaves.entries o (other_than o is)))

      listed_at : (o : ℕ) (b : Bool) → (o == owner) ≡ b → marks_of o rows' ≡ map mark_of (entries_in o new)
      listed_at o true is = subst (λ n. marks_of n rows' ≡ map mark_of (entries_in n new)) (sym (eqb-true o owner is)) listed
      listed_at o false is = leaves.marks o (other_than o is) ∙ kept.listed o ∙ ap (map mark_of) (sym (leaves.entries o (other_than o is)))

-- ── one that comes in ──
push_length : (xs : List WaitingScript) (e : WaitingScript) → length (xs ++ e ∷ []) ≡ length xs + 1
push_length [] e = refl
push_length (x ∷ xs) e = let h = push_length xs e in omega (arith, h)

with_kept : (due : Option ℕ) (script : List ℕ) (own : Timers) → IsKept own → is_full own ≡ false → IsKept (with_entry due script own)
with_kept due script own kept room =
    let fits = room_from_is_full own room in
    let entry : WaitingScript = record { id = own.next_number; due = due; script = script } in
    let longer = push_length own.entries entry in
    record { numbered = IsNumbered-push 0 own.entries own.next_number entry kept.numbered refl; few = omega (arith, fits, longer) }

without_kept : (id : ℕ) (own : Timers) → IsKept own → IsKept (own_without id own)
without_kept id own kept =
    let less = fewer id own.entries in
    record { numbered = numbered_without id 0 own.entries own.next_number kept.numbered; few = omega (arith, less, kept.few) }

pub record Done (stored new : Stored) (rows' : List (Name × Option ℕ)) (counters counters' : List (ℕ × Counter)) (owner : ℕ) (own : Timers) : Type 0 where
  pub kept : AreKept new rows' counters'
  pub own_is : own_of owner (held_by new counters') ≡ own
  pub others : (other : ℕ) → other ≢ owner → own_of other (held_by new counters') ≡ own_of other (held_by stored counters)

module _ (stored new : Stored) (rows rows' : List (Name × Option ℕ)) (counters counters' : List (ℕ × Counter)) (owner : ℕ) (kept : AreKept stored rows counters) where
  pub inserted : (id : ℕ) (due : Option ℕ) (script : List ℕ) → id ≡ next_of owner counters → is_full (own_of owner (held_by stored counters)) ≡ false
      → entries_in owner new ≡ entries_in owner stored ++ record { id = id; due = due; script = script } ∷ []
      → ((other : ℕ) → other ≢ owner → entries_in other new ≡ entries_in other stored)
      → marks_of owner rows' ≡ marks_of owner rows ++ record { id = next_of owner counters; due = due } ∷ []
      → ((other : ℕ) → other ≢ owner → marks_of other rows' ≡ marks_of other rows)
      → Counts owner (record { next = next_of owner counters + 1; count = count_of owner counters + 1 }) counters counters'
      → Done stored new rows' counters counters' owner (with_entry due script (own_of owner (held_by stored counters)))
  inserted id due script id_is room own others marks other_marks counts =
      let entry : WaitingScript = record { id = next_of owner counters; due = due; script = script } in
      let entries_are : entries_in owner new ≡ entries_in owner stored ++ entry ∷ [] = own ∙ ap (λ n. entries_in owner stored ++ entry_of n due script ∷ []) id_is in
      let own_is : own_of owner (held_by new counters') ≡ with_entry due script (own_of owner (held_by stored counters)) =
      ap (λ n. own_with n (entries_in owner new)) counts.next_is ∙ ap (λ es. own_with (next_of owner counters + 1) es) entries_are in
      let leaves : Leaves stored new rows rows' counters counters' owner = record { entries = others; marks = other_marks; nexts = counts.nexts; counts = counts.counts } in
      record {
        kept = kept_by stored new rows rows' counters counters' owner kept leaves
            (subst IsKept (sym own_is) (with_kept due script (own_of owner (held_by stored counters)) (kept.sound owner) room))
            (counts.count_is ∙ ap (λ n. n + 1) (kept.counted owner) ∙ sym (push_length (entries_in owner stored) entry) ∙ ap length (sym entries_are))
            (marks ∙ ap (λ ms. ms ++ mark_of entry ∷ []) (kept.listed owner) ∙ sym (push_marks (entries_in owner stored) entry) ∙ ap (map mark_of) (sym entries_are));
        own_is = own_is;
        others = own_left stored new rows rows' counters counters' owner leaves;
      }

  -- ── one that goes ──
  pub removed : (id : ℕ) (e : WaitingScript) → entry_with id (entries_in owner stored) ≡ Some e
      → entries_in owner new ≡ without number_of id (entries_in owner stored)
      → ((other : ℕ) → other ≢ owner → entries_in other new ≡ entries_in other stored)
      → marks_of owner rows' ≡ without mark_number id (marks_of owner rows)
      → ((other : ℕ) → other ≢ owner → marks_of other rows' ≡ marks_of other rows)
      → Counts owner (record { next = next_of owner counters; count = count_of owner counters - 1 }) counters counters'
      → Done stored new rows' counters counters' owner (own_without id (own_of owner (held_by stored counters)))
  removed id e there own others marks other_marks counts =
      let own_is : own_of owner (held_by new counters') ≡ own_without id (own_of owner (held_by stored counters)) =
      ap (λ n. own_with n (entries_in owner new)) counts.next_is ∙ ap (λ es. own_with (next_of owner counters) es) own in
      let leaves : Leaves stored new rows rows' counters counters' owner = record { entries = others; marks = other_marks; nexts = counts.nexts; counts = counts.counts } in
      let fewer = one_less id e (entries_in owner stored) (kept_rising (own_of owner (held_by stored counters)) (kept.sound owner)) there in
      let count : count_of owner counters - 1 ≡ length (without number_of id (entries_in owner stored)) = omega (arith, fewer, kept.counted owner) in
      record {
        kept = kept_by stored new rows rows' counters counters' owner kept leaves
            (subst IsKept (sym own_is) (without_kept id (own_of owner (held_by stored counters)) (kept.sound owner)))
            (counts.count_is ∙ count ∙ ap length (sym own))
            (marks ∙ ap (without mark_number id) (kept.listed owner) ∙ sym (without_marks id (entries_in owner stored)) ∙ ap (map mark_of) (sym own));
        own_is = own_is;
        others = own_left stored new rows rows' counters counters' owner leaves;
      }

-- what the index tells of the next number
pub next_unmarked : (stored : Stored) (rows : List (Name × Option ℕ)) (counters : List (ℕ × Counter)) (owner : ℕ) → AreKept stored rows counters → AllBelow mark_number (next_of owner counters) (marks_of owner rows)
next_unmarked stored rows counters owner kept =
    subst (AllBelow mark_number (next_of owner counters)) (sym (kept.listed owner)) (below_marks (next_of owner counters) (entries_in owner stored) (kept_below (own_of owner (held_by stored counters)) (kept.sound owner)))
