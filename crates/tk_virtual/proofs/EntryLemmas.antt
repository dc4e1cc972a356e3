-- Pairs with their marks, of which some are added and some taken out.
use Rattle.std.proofs.Common.{◌≡◌, ℕ, ◌==◌, Bool, true, false, cond, ◌||◌, not, List, [], ◌∷◌, ◌++◌, length, slice_get, Option, Some, None, is_some, refl, sym, ap, subst, ◌∙◌}
use Rattle.std.specs.Prelude.{filter, find}
use Rattle.std.specs.List.{list_any}
use Rattle.std.specs.Map.{keys_of, lookup, lookup_key, remove_entry, set_value}
use Rattle.std.proofs.lemmas.List.{map-append}
use Rattle.std.proofs.lemmas.Map.Made.{is_some-lookup}
use Rattle.indexmap.proofs.CallerLemmas.{keys-shift_remove_entry}
use Rattle.indexmap.specs.IndexMap.{insert_entry}
use Rattle.indexmap.specs.IndexSet.{remove_key}
use Rattle.tk_virtual.specs.First.{Marked, marked, marking_first}
use Rattle.tk_virtual.specs.Several.{is_one_of, without_these}
use Rattle.tk_virtual.specs.Virtual.{has_name, is_same, without_name, without_pair}
use Rattle.tk_virtual.specs.declared.pair.Pair.{Pair}
use Rattle.tk_virtual.proofs.FirstLemmas.{marked_last, marked_left, marked_unnamed, marked_without, pairs_marked}
use Rattle.tk_virtual.proofs.NamedLemmas.{another_stays}
use Rattle.tk_virtual.proofs.PairLemmas.{removed}

-- ---- a pair more

new_last : (pair : Pair) (first : Bool) (entries : List Marked) → list_any (is_same pair) (keys_of entries) ≡ false → insert_entry is_same entries pair first ≡ entries ++ (pair, first) ∷ []
new_last pair first [] absent = refl
new_last pair first (entry ∷ entries) absent = by (is_same pair entry.0) absent (new_last pair first entries)
  where
    by : (t : Bool) → (t || list_any (is_same pair) (keys_of entries)) ≡ false
        → (list_any (is_same pair) (keys_of entries) ≡ false → insert_entry is_same entries pair first ≡ entries ++ (pair, first) ∷ [])
        → cond t ((entry.0, first) ∷ entries) (entry ∷ insert_entry is_same entries pair first) ≡ entry ∷ (entries ++ (pair, first) ∷ [])
    by true absent rest = absurd (cc)
    by false absent rest = ap (λ (l : List Marked). entry ∷ l) (rest absent)

-- a copy of a pair that isn't there is put behind the others
pub put_last : (pair copied : Pair) (first : Bool) (entries new : List Marked) → new ≡ insert_entry is_same entries copied first → copied ≡ pair → list_any (is_same pair) (keys_of entries) ≡ false
    → new ≡ entries ++ (pair, first) ∷ []
put_last pair copied first entries new is copy absent = is ∙ ap (λ p. insert_entry is_same entries p first) copy ∙ new_last pair first entries absent

pub keys_last : (entries new : List Marked) (pair : Pair) (first : Bool) → new ≡ entries ++ (pair, first) ∷ [] → keys_of new ≡ keys_of entries ++ pair ∷ []
keys_last entries new pair first grown = ap keys_of grown ∙ map-append (λ (e : Marked). e.0) entries ((pair, first) ∷ [])

pub marks_last : (entries new : List Marked) (pair : Pair) (first : Bool) → entries ≡ marked (keys_of entries) → new ≡ entries ++ (pair, first) ∷ []
    → first ≡ (length (filter (has_name pair.name) (keys_of entries)) == 0) → new ≡ marked (keys_of new)
marks_last entries new pair first marks grown is =
    grown ∙ ap (λ (l : List Marked). l ++ (pair, first) ∷ []) marks ∙ sym (marked_last (keys_of entries) pair first is) ∙ ap marked (sym (keys_last entries new pair first grown))

-- ---- some are taken out

-- marks of a list are those of its pairs
pub own_marks : (pairs : List Pair) (entries : List Marked) → entries ≡ marked pairs → entries ≡ marked (keys_of entries)
own_marks pairs entries is = is ∙ ap marked (sym (ap keys_of is ∙ pairs_marked (λ name. false) pairs))

pub keys_kept : (pairs : List Pair) (entries : List Marked) → entries ≡ marked pairs → keys_of entries ≡ pairs
keys_kept pairs entries is = ap keys_of is ∙ pairs_marked (λ name. false) pairs

pub without_name_marks : (gone : List ℕ) (entries new : List Marked) → entries ≡ marked (keys_of entries) → new ≡ filter (λ (entry : Marked). not (has_name gone entry.0)) entries → new ≡ marked (without_name gone (keys_of entries))
without_name_marks gone entries new marks is = is ∙ ap (filter (λ (entry : Marked). not (has_name gone entry.0))) marks ∙ marked_unnamed gone (keys_of entries)

-- a pair is taken out, and the one that is the first of its name then is marked
module _ (wanted : Pair) (entries out : List Marked) (is : out ≡ remove_entry (is_same wanted) entries) (none : list_any (is_same wanted) (keys_of out) ≡ false) where
  pub gone_once : remove_key (is_same wanted) (keys_of entries) ≡ without_pair wanted (keys_of entries)
  gone_once = removed (is_same wanted) (keys_of entries) (ap (list_any (is_same wanted)) (sym (ap keys_of is ∙ keys-shift_remove_entry (is_same wanted) entries)) ∙ none)

  pub without_pair_marks : (named : List Pair) (new : List Marked) → entries ≡ marked (keys_of entries) → named ≡ filter (has_name wanted.name) (without_pair wanted (keys_of entries))
      → new ≡ marking_first named out → new ≡ marked (without_pair wanted (keys_of entries))
  without_pair_marks named new marks left marking =
      marking ∙ ap (λ l. marking_first l out) (left ∙ ap (filter (has_name wanted.name)) (sym gone_once))
      ∙ ap (marking_first (filter (has_name wanted.name) (remove_key (is_same wanted) (keys_of entries)))) (is ∙ ap (remove_entry (is_same wanted)) marks)
      ∙ marked_without wanted (keys_of entries)
      ∙ ap marked gone_once

-- several of a name are taken out, and the one that is the first of it then is marked
pub without_these_marks : (gone : List ℕ) (wanted : List Pair) (entries out new : List Marked) (named : List Pair) → entries ≡ marked (keys_of entries)
    → out ≡ filter (λ (entry : Marked). not (is_one_of gone wanted entry.0)) entries → named ≡ filter (has_name gone) (without_these gone wanted (keys_of entries))
    → new ≡ marking_first named out → new ≡ marked (without_these gone wanted (keys_of entries))
without_these_marks gone wanted entries out new named marks is left marking =
    marking ∙ ap (λ l. marking_first l out) left
    ∙ ap (marking_first (filter (has_name gone) (without_these gone wanted (keys_of entries)))) (is ∙ ap (filter (λ (entry : Marked). not (is_one_of gone wanted entry.0))) marks)
    ∙ marked_left gone (λ pair. not (is_one_of gone wanted pair)) (another_stays gone wanted) (keys_of entries)

-- the pair that goes
pub found_key : (test : Pair → Bool) (entries : List Marked) → lookup_key test entries ≡ find test (keys_of entries)
found_key test [] = refl
found_key test (entry ∷ entries) = ap (λ (rest : Option Pair). cond (test entry.0) (Some entry.0) rest) (found_key test entries)

pub absent_key : (test : Pair → Bool) (entries : List Marked) → lookup test entries ≡ None → list_any test (keys_of entries) ≡ false
absent_key test entries none = sym (is_some-lookup test entries) ∙ ap is_some none

-- where a pair isn't there, none is marked
marked_none : (test : Pair → Bool) (entries : List Marked) → lookup test entries ≡ None → entries ≡ set_value test entries true
marked_none test [] none = refl
marked_none test (entry ∷ entries) none = by (test entry.0) none (marked_none test entries)
  where
    by : (t : Bool) → cond t (Some entry.1) (lookup test entries) ≡ None → (lookup test entries ≡ None → entries ≡ set_value test entries true)
        → entry ∷ entries ≡ cond t ((entry.0, true) ∷ entries) (entry ∷ set_value test entries true)
    by true none rest = absurd (cc)
    by false none rest = ap (λ (l : List Marked). entry ∷ l) (rest none)

pub marking_absent : (named : List Pair) (pair : Pair) (entries : List Marked) → slice_get named 0 ≡ Some pair → lookup (is_same pair) entries ≡ None → entries ≡ marking_first named entries
marking_absent [] pair entries first none = absurd (cc)
marking_absent (other ∷ named) pair entries first none =
    let is : other ≡ pair = cc in
    marked_none (is_same pair) entries none ∙ ap (λ (p : Pair). set_value (is_same p) entries true) (sym is)
