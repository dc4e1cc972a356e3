-- What the index tells of one application's entries, as calls on all of them cite it.
use Rattle.std.proofs.Common.{◌≡◌, ℕ, ◌≤◌, Bool, true, false, List, [], ◌∷◌, ◌++◌, map, Option, Some, None, refl, sym, ap, ◌∙◌, subst, append_assoc, arith}
use Rattle.std.specs.Prelude.{find, filter, option_map, is_none, nat_le, if◌then◌else◌, IfSome}
use Rattle.std.specs.List.{filter_map}
use Rattle.std.specs.Str.{bytes_eq}
use Rattle.std.proofs.lemmas.Bool.{eq-eqb, ne_eqb}
use Rattle.std.proofs.lemmas.Option.{none-some, same_Some, option_and_then_some}
use Rattle.tk_base.specs.Numbered.{numbered, without, AllBelow, IsRising}
use Rattle.tk_base.specs.declared.counter.Counter.{Counter}
use Rattle.tk_after.specs.declared.waiting.WaitingScript.{WaitingScript}
use Rattle.tk_after.specs.declared.keys.Name.{Name}
use Rattle.tk_after.specs.Keys.{Stored, number_of, entries_in, IsMarked, Mark, mark_number, mark_of, marks_of, lies_due_at, held_by, AreKept}
use Rattle.tk_after.specs.Timers.{Timers, entry_with, without as own_without, ids, idle_ids, due_moments, is_due_at, least, first_due, IsFirstDue}
use Rattle.tk_after.specs.Shared.{own_of, IsKept}
use Rattle.tk_after.proofs.Dues.{first_due-at, first_due-is}
use Rattle.tk_after.proofs.Kept.{kept_rising, find_id_marks, due_marks, moments_marks, ids_marks, idle_marks, marked_by, unlisted_by, own_with}
use Rattle.tk_after.proofs.Lists.{Has, found_has, has_part, numbered_has, without_absent}

-- nothing is taken out where the number isn't listed
pub nothing_out : (own : Timers) (id : ℕ) → entry_with id own.entries ≡ None → own ≡ own_without id own
nothing_out own id none = ap (λ es. own_with own.next_number es) (sym (without_absent number_of id own.entries none))

no_id : (o : Option WaitingScript) → option_map (λ (e : WaitingScript). e.id) o ≡ None → o ≡ None
no_id None is = refl
no_id (Some e) is = absurd (none-some _ (sym is))

pub listed_some : (due : Option ℕ) (o : Option WaitingScript) → option_map (λ (e : WaitingScript). e.due) o ≡ Some due → o ≡ None → ⊥
listed_some due None is none = none-some _ is
listed_some due (Some e) is none = none-some _ (sym none)

-- an entry that is found by its number
by_id : (p : WaitingScript → Bool) (entries : List WaitingScript) → IsRising number_of entries → (id : ℕ) (o : Option WaitingScript) → find p entries ≡ o → option_map (λ (e : WaitingScript). e.id) o ≡ Some id → entry_with id entries ≡ find p entries
by_id p entries rising id None is told = absurd (none-some _ told)
by_id p entries rising id (Some e) is told = ap (λ n. entry_with n entries) (sym (same_Some _ _ told)) ∙ numbered_has number_of e entries rising (found_has p e entries is).0 ∙ sym is

module _ (stored : Stored) (rows : List (Name × Option ℕ)) (counters : List (ℕ × Counter)) (owner : ℕ) (kept : AreKept stored rows counters) where
  pub rising_in : IsRising number_of (entries_in owner stored)
  rising_in = kept_rising (own_of owner (held_by stored counters)) (kept.sound owner)

  -- when a number is due
  due_told : (id : ℕ) (o : Option (Option ℕ)) → o ≡ option_map (λ (mark : Mark). mark.due) (numbered mark_number id (marks_of owner rows)) → option_map (λ (e : WaitingScript). e.due) (entry_with id (entries_in owner stored)) ≡ o
  due_told id o is =
      sym (due_marks id (entries_in owner stored)) ∙ ap (λ ms. option_map (λ (mark : Mark). mark.due) (numbered mark_number id ms)) (sym (kept.listed owner)) ∙ sym is

  pub unlisted : (id : ℕ) (o : Option (Option ℕ)) → o ≡ option_map (λ (mark : Mark). mark.due) (numbered mark_number id (marks_of owner rows)) → o ≡ None → entry_with id (entries_in owner stored) ≡ None
  unlisted id o is none = unlisted_by (entry_with id (entries_in owner stored)) (due_told id o is ∙ none)

  pub marked : (id : ℕ) (due : Option ℕ) (o : Option (Option ℕ)) → o ≡ option_map (λ (mark : Mark). mark.due) (numbered mark_number id (marks_of owner rows)) → o ≡ Some due → IsMarked id due (entries_in owner stored)
  marked id due o is there = marked_by due (entry_with id (entries_in owner stored)) (due_told id o is ∙ there)

  pub there : (id : ℕ) (due : Option ℕ) (o : Option (Option ℕ)) → o ≡ option_map (λ (mark : Mark). mark.due) (numbered mark_number id (marks_of owner rows)) → o ≡ Some due → entry_with id (entries_in owner stored) ≡ None → ⊥
  there id due o is told none = listed_some due (entry_with id (entries_in owner stored)) (due_told id o is ∙ told) none

  -- so what takes out the entry of a listed number takes something out
  pub takes_some : (id : ℕ) (due : Option ℕ) (o : Option (Option ℕ)) → o ≡ option_map (λ (mark : Mark). mark.due) (numbered mark_number id (marks_of owner rows)) → o ≡ Some due → (taken : Option WaitingScript)
      → (IsRising number_of (entries_in owner stored) → IsMarked id due (entries_in owner stored) → taken ≡ entry_with id (entries_in owner stored)) → taken ≡ None → ⊥
  takes_some id due o is told taken takes none = there id due o is told (sym (takes rising_in (marked id due o is told)) ∙ none)

  -- the first number that passes
  id_told : (p : Mark → Bool) (o : Option ℕ) → o ≡ option_map mark_number (find p (marks_of owner rows)) → option_map (λ (e : WaitingScript). e.id) (find (λ e. p (mark_of e)) (entries_in owner stored)) ≡ o
  id_told p o is = sym (find_id_marks p (entries_in owner stored)) ∙ ap (λ ms. option_map mark_number (find p ms)) (sym (kept.listed owner)) ∙ sym is

  pub passes_none : (p : Mark → Bool) (o : Option ℕ) → o ≡ option_map mark_number (find p (marks_of owner rows)) → o ≡ None → find (λ e. p (mark_of e)) (entries_in owner stored) ≡ None
  passes_none p o is none = no_id (find (λ e. p (mark_of e)) (entries_in owner stored)) (id_told p o is ∙ none)

  pub passes_some : (p : Mark → Bool) (o : Option ℕ) → o ≡ option_map mark_number (find p (marks_of owner rows)) → (id : ℕ) → o ≡ Some id → entry_with id (entries_in owner stored) ≡ find (λ e. p (mark_of e)) (entries_in owner stored)
  passes_some p o is id there =
      by_id (λ e. p (mark_of e)) (entries_in owner stored) rising_in id (find (λ e. p (mark_of e)) (entries_in owner stored)) refl (id_told p o is ∙ there)

  -- numbers, idle ones and moments
  pub ids_told : map mark_number (marks_of owner rows) ≡ ids (entries_in owner stored)
  ids_told = ap (map mark_number) (kept.listed owner) ∙ ids_marks (entries_in owner stored)

  pub idle_told : map mark_number (filter (λ (mark : Mark). is_none mark.due) (marks_of owner rows)) ≡ idle_ids (entries_in owner stored)
  idle_told = ap (λ ms. map mark_number (filter (λ (mark : Mark). is_none mark.due) ms)) (kept.listed owner) ∙ idle_marks (entries_in owner stored)

  pub least_told : least (filter_map (λ (mark : Mark). mark.due) (marks_of owner rows)) ≡ least (due_moments (entries_in owner stored))
  least_told = ap (λ ms. least (filter_map (λ (mark : Mark). mark.due) ms)) (kept.listed owner) ∙ ap least (moments_marks (entries_in owner stored))

  pub first_told : (moment due : ℕ) (o : Option ℕ) → o ≡ option_map mark_number (find (lies_due_at due) (marks_of owner rows)) → least (due_moments (entries_in owner stored)) ≡ Some due → due ≤ moment
      → o ≡ option_map (λ (e : WaitingScript). e.id) (first_due moment (entries_in owner stored))
  first_told moment due o is earliest le =
      sym (id_told (lies_due_at due) o is) ∙ ap (option_map (λ (e : WaitingScript). e.id)) (sym (first_due-at moment due (entries_in owner stored) earliest le))

-- ── the timer that goes first, by its number ──
if_some : (b : Bool) (o : Option WaitingScript) (e : WaitingScript) → (if b then o else None) ≡ Some e → o ≡ Some e
if_some true o e is = is
if_some false o e is = absurd (none-some _ is)

first_has : (moment : ℕ) (entries : List WaitingScript) (e : WaitingScript) → first_due moment entries ≡ Some e → Has e entries
first_has moment entries e is =
    option_and_then_some (λ due. if nat_le due moment then find (is_due_at due) entries else None) (least (due_moments entries)) e is
    (λ due earliest found. (found_has (is_due_at due) e entries (if_some (nat_le due moment) (find (is_due_at due) entries) e found)).0)

pub none_first : (moment : ℕ) (entries : List WaitingScript) (o : Option ℕ) → o ≡ option_map (λ (e : WaitingScript). e.id) (first_due moment entries) → o ≡ None → first_due moment entries ≡ None
none_first moment entries o is none = no_id (first_due moment entries) (sym is ∙ none)

pub record FirstIs (moment : ℕ) (entries : List WaitingScript) (id : ℕ) : Type 0 where
  pub entry : WaitingScript
  pub first : first_due moment entries ≡ Some entry
  pub its_id : entry.id ≡ id
  pub listed : entry_with id entries ≡ Some entry

first_by : (moment : ℕ) (entries : List WaitingScript) → IsRising number_of entries → (id : ℕ) (o : Option WaitingScript) → first_due moment entries ≡ o → option_map (λ (e : WaitingScript). e.id) o ≡ Some id → FirstIs moment entries id
first_by moment entries rising id None is told = absurd (none-some _ told)
first_by moment entries rising id (Some e) is told =
    let same : e.id ≡ id = same_Some _ _ told in
    record { entry = e; first = is; its_id = same; listed = ap (λ n. entry_with n entries) (sym same) ∙ numbered_has number_of e entries rising (first_has moment entries e is) }

pub first_is : (moment : ℕ) (own : Timers) → IsKept own → (id : ℕ) (o : Option ℕ) → o ≡ option_map (λ (e : WaitingScript). e.id) (first_due moment own.entries) → o ≡ Some id → FirstIs moment own.entries id
first_is moment own kept id o is there = first_by moment own.entries (kept_rising own kept) id (first_due moment own.entries) refl (sym is ∙ there)

-- what was taken out is what went first
pub first_script : (moment : ℕ) (own : Timers) → IsKept own → (id : ℕ) (script : List ℕ) → FirstIs moment own.entries id → Some script ≡ option_map (λ (e : WaitingScript). e.script) (entry_with id own.entries) → IsFirstDue moment own.entries id script
first_script moment own kept id script f taken =
    let script_is : f.entry.script ≡ script = same_Some _ _ (sym (taken ∙ ap (option_map (λ (e : WaitingScript). e.script)) f.listed)) in
    subst (λ s. IsFirstDue moment own.entries id s) script_is
    (subst (λ n. IsFirstDue moment own.entries n f.entry.script) f.its_id (first_due-is moment own.entries own.next_number f.entry kept.numbered f.first))

pub first_taken : (moment : ℕ) (entries : List WaitingScript) (id : ℕ) (script : List ℕ) → FirstIs moment entries id → Some script ≡ option_map (λ (e : WaitingScript). e.script) (entry_with id entries) → ◌≡◌ {A = Option (ℕ × List ℕ)} (Some (id, script)) (option_map (λ (e : WaitingScript). (e.id, e.script)) (first_due moment entries))
first_taken moment entries id script f taken =
    let script_is : f.entry.script ≡ script = same_Some _ _ (sym (taken ∙ ap (option_map (λ (e : WaitingScript). e.script)) f.listed)) in
    ap (λ s. Some (id, s)) (sym script_is) ∙ ap (λ n. Some (n, f.entry.script)) (sym f.its_id) ∙ ap (option_map (λ (e : WaitingScript). (e.id, e.script))) (sym f.first)

-- ── a number that comes and goes ──
pub undo_mark : (id : ℕ) (m : Mark) (marks : List Mark) → m.id ≡ id → AllBelow mark_number id marks → without mark_number id (marks ++ m ∷ []) ≡ marks
undo_mark id m [] is below = rw (eq-eqb m.id id is) refl
undo_mark id m (x ∷ marks) is below = rw (ne_eqb x.id id (λ e. omega (arith, below.0, e))) (ap (λ ms. x ∷ ms) (undo_mark id m marks is below.1))

abbrev head_or : Mark → List Mark → Mark
head_or m [] = m
head_or m (x ∷ xs) = x

abbrev tail : List Mark → List Mark
tail [] = []
tail (x ∷ xs) = xs

-- ── the first with a script, by going through the numbers ──
abbrev pub runs : List ℕ → WaitingScript → Bool
runs script e = bytes_eq e.script script

-- the numbers that are left are those of some last entries, of which the first with the script is the first of all
pub record Rest (entries : List WaitingScript) (script : List ℕ) (marks : List Mark) : Type 0 where
  pub front : List WaitingScript
  pub back : List WaitingScript
  pub entries_are : entries ≡ front ++ back
  pub marks_are : marks ≡ map mark_of back
  pub same : find (runs script) back ≡ find (runs script) entries

pub rest_all : (entries : List WaitingScript) (script : List ℕ) → Rest entries script (map mark_of entries)
rest_all entries script = record { front = []; back = entries; entries_are = refl; marks_are = refl; same = refl }

-- the first of those that are left
pub record Next (entries : List WaitingScript) (script : List ℕ) (id : ℕ) (due : Option ℕ) (marks : List Mark) : Type 0 where
  pub entry : WaitingScript
  pub listed : entry_with id entries ≡ Some entry
  pub its_due : entry.due ≡ due
  pub runs_it : runs script entry ≡ true → Some entry ≡ find (runs script) entries
  pub passed : runs script entry ≡ false → Rest entries script marks

next_by : (entries : List WaitingScript) (script : List ℕ) → IsRising number_of entries → (id : ℕ) (due : Option ℕ) (marks : List Mark) (front back : List WaitingScript) → entries ≡ front ++ back → record { id = id; due = due } ∷ marks ≡ map mark_of back → find (runs script) back ≡ find (runs script) entries
    → Next entries script id due marks
next_by entries script rising id due marks front [] entries_are marks_are same = absurd (cc marks_are)
next_by entries script rising id due marks front (e ∷ back) entries_are marks_are same =
    let parts = same_cons marks_are in
    let id_is : e.id ≡ id = ap mark_number (sym parts.0) in
    let has : Has e entries = subst (Has e) (sym entries_are) (has_part e front back) in
    record {
      entry = e;
      listed = ap (λ n. entry_with n entries) (sym id_is) ∙ numbered_has number_of e entries rising has;
      its_due = ap (λ (m : Mark). m.due) (sym parts.0);
      runs_it = λ h. sym (first_runs h) ∙ same;
      passed = λ h. record { front = front ++ e ∷ []; back = back; entries_are = entries_are ∙ sym (append_assoc front (e ∷ []) back); marks_are = parts.1; same = sym (first_passed h) ∙ same };
    }
  where
    same_cons : record { id = id; due = due } ∷ marks ≡ mark_of e ∷ map mark_of back → (record { id = id; due = due } ≡ mark_of e) × (marks ≡ map mark_of back)
    same_cons is = (ap (head_or (mark_of e)) is, ap tail is)

    first_runs : runs script e ≡ true → find (runs script) (e ∷ back) ≡ Some e
    first_runs h = rw h refl

    first_passed : runs script e ≡ false → find (runs script) (e ∷ back) ≡ find (runs script) back
    first_passed h = rw h refl

pub next_is : (entries : List WaitingScript) (script : List ℕ) → IsRising number_of entries → (id : ℕ) (due : Option ℕ) (marks : List Mark) → Rest entries script (record { id = id; due = due } ∷ marks) → Next entries script id due marks
next_is entries script rising id due marks r = next_by entries script rising id due marks r.front r.back r.entries_are r.marks_are r.same

pub next_marked : (entries : List WaitingScript) (script : List ℕ) (id : ℕ) (due : Option ℕ) (marks : List Mark) → Next entries script id due marks → IsMarked id due entries
next_marked entries script id due marks n = subst (λ o. IfSome o (λ (entry : WaitingScript). entry.due ≡ due)) (sym n.listed) n.its_due

rest_none_by : (entries : List WaitingScript) (script : List ℕ) (back : List WaitingScript) → [] ≡ map mark_of back → find (runs script) back ≡ find (runs script) entries → None ≡ find (runs script) entries
rest_none_by entries script [] is same = same
rest_none_by entries script (e ∷ back) is same = absurd (cc is)

pub rest_none : (entries : List WaitingScript) (script : List ℕ) → Rest entries script [] → None ≡ find (runs script) entries
rest_none entries script r = rest_none_by entries script r.back r.marks_are r.same
