-- Lists of pairs, of which some are added and some taken out.
use Rattle.std.proofs.Common.{◌≡◌, ℕ, ◌+◌, ◌-◌, ◌<◌, ◌≤◌, Bool, true, false, cond, ◌||◌, not, nat_le, Ok, Err, Option, Some, None, IsSome, List, [], ◌∷◌, ◌++◌, append-nil, length, length-append, take, drop, get_or, refl, sym, ap, ◌∙◌, arith}
use Rattle.std.specs.Prelude.{filter}
use Rattle.std.specs.List.{list_any}
use Rattle.std.specs.Option.{option_to_list}
use Rattle.indexmap.specs.IndexSet.{insert_key, remove_key}
use Rattle.std.proofs.lemmas.Bool.Decides.{nat_tests}
use Rattle.std.proofs.lemmas.List.{at_drop_more, take-append-le, take-append-drop, length-take}
use Rattle.std.proofs.Math.Seq.{take-append_seam}
use Rattle.tk_base.specs.Steps.{◌>>=◌}
use Rattle.tk_virtual.specs.Virtual.{OrFault, added, all_added, is_same, with_pair, without_pair}
use Rattle.tk_virtual.specs.declared.fault.VirtualFault.TheVariants.{Full}
use Rattle.tk_virtual.specs.declared.pair.Pair.{Pair}
use Rattle.tk_virtual.proofs.SameLemmas.{same_itself}

-- ---- one that is taken out

-- none passes, so all stay
pub untouched : (test : Pair → Bool) (pairs : List Pair) → list_any test pairs ≡ false → filter (λ pair. not (test pair)) pairs ≡ pairs
untouched test [] none = refl
untouched test (pair ∷ pairs) none = by (test pair) none (untouched test pairs)
  where
    by : (t : Bool) → (t || list_any test pairs) ≡ false → (list_any test pairs ≡ false → filter (λ pair. not (test pair)) pairs ≡ pairs)
        → cond (not t) (pair ∷ filter (λ pair. not (test pair)) pairs) (filter (λ pair. not (test pair)) pairs) ≡ pair ∷ pairs
    by true none rest = absurd (cc)
    by false none rest = ap (λ (l : List Pair). pair ∷ l) (rest none)

-- where no other passes, the first that does is all that does
pub removed : (test : Pair → Bool) (pairs : List Pair) → list_any test (remove_key test pairs) ≡ false → remove_key test pairs ≡ filter (λ pair. not (test pair)) pairs
removed test [] none = refl
removed test (pair ∷ pairs) none = by (test pair) refl none (removed test pairs)
  where
    by : (t : Bool) → test pair ≡ t → list_any test (cond t pairs (pair ∷ remove_key test pairs)) ≡ false
        → (list_any test (remove_key test pairs) ≡ false → remove_key test pairs ≡ filter (λ pair. not (test pair)) pairs)
        → cond t pairs (pair ∷ remove_key test pairs) ≡ cond (not t) (pair ∷ filter (λ pair. not (test pair)) pairs) (filter (λ pair. not (test pair)) pairs)
    by true is none rest = sym (untouched test pairs none)
    by false is none rest = ap (λ (l : List Pair). pair ∷ l) (rest (sym (ap (λ t. t || list_any test (remove_key test pairs)) is) ∙ none))

-- the last of them, which stands nowhere else
pub without_last : (pair : Pair) (pairs : List Pair) → list_any (is_same pair) pairs ≡ false → without_pair pair (pairs ++ pair ∷ []) ≡ pairs
without_last pair [] none = ap (λ t. cond (not t) (pair ∷ []) []) (same_itself pair)
without_last pair (other ∷ pairs) none = by (is_same pair other) none (without_last pair pairs)
  where
    by : (t : Bool) → (t || list_any (is_same pair) pairs) ≡ false → (list_any (is_same pair) pairs ≡ false → without_pair pair (pairs ++ pair ∷ []) ≡ pairs)
        → cond (not t) (other ∷ without_pair pair (pairs ++ pair ∷ [])) (without_pair pair (pairs ++ pair ∷ [])) ≡ other ∷ pairs
    by true none rest = absurd (cc)
    by false none rest = ap (λ (l : List Pair). other ∷ l) (rest none)

pub but_last : {X : Type 0} (last : X) (old new : List X) → old ≡ new ++ last ∷ [] → new ≡ take (length old - 1) old
but_last last old new is =
    let count : length old - 1 ≡ length new = omega (arith, ap length is, length-append new (last ∷ [])) in
    sym (ap (λ n. take n old) count ∙ ap (take (length new)) is ∙ take-append_seam new (last ∷ []))

-- the last is taken out again
pub popped : {X : Type 0} (one : X) (old whole new : List X) (last : Option X) → whole ≡ old ++ one ∷ [] → whole ≡ new ++ option_to_list last → IsSome last → new ≡ old
popped one old whole new None is cut some = absurd (cc)
popped one old whole new (Some other) is cut some = but_last other whole new cut ∙ sym (but_last one whole old is)

-- there is no last
pub none_last : (old new : List Pair) → old ≡ new ++ [] → (0 < length old → ⊥) → new ≡ take (length old - 1) old
none_last [] new is none = sym (append-nil new) ∙ sym is
none_last (pair ∷ old) new is none = absurd (none (omega arith))

-- ---- one more pair

-- a pair that isn't there is added as the last
pub added_last : (pair copied : Pair) (pairs new : List Pair) → new ≡ insert_key is_same pairs copied → copied ≡ pair → list_any (is_same pair) pairs ≡ false → new ≡ pairs ++ pair ∷ []
added_last pair copied pairs new is copy absent =
    is ∙ ap (insert_key is_same pairs) copy ∙ ap (λ (t : Bool). cond t pairs (pairs ++ pair ∷ [])) absent

pub inserted : (pair : Pair) (pairs : List Pair) → list_any (is_same pair) pairs ≡ false → length pairs < 4096 → with_pair pair pairs ≡ Ok (pairs ++ pair ∷ [])
inserted pair pairs absent few =
    let room : nat_le 4096 (length pairs) ≡ false = grind (arith, nat_tests) in
    let full : OrFault (List Pair) = Err Full in
    let more : OrFault (List Pair) = Ok (pairs ++ pair ∷ []) in
    let there : OrFault (List Pair) = Ok pairs in
    ap (λ (test : Bool). cond test there (cond (nat_le 4096 (length pairs)) full more)) absent
    ∙ ap (λ (test : Bool). cond test full more) room

-- ---- several sequences

pub all_added_more : (word : List ℕ) (texts : List (List ℕ)) (pairs : List Pair) (i : ℕ) (text : List ℕ) → i < length texts → text ≡ get_or texts i text
    → all_added word (drop i texts) pairs ≡ (added word text pairs >>= all_added word (drop (i + 1) texts))
all_added_more word texts pairs i text within is =
    at_drop_more (λ texts. all_added word texts pairs) texts i text within
    ∙ ap (λ t. all_added word (t ∷ drop (i + 1) texts) pairs) (sym is)

-- what is kept of the first pairs where one pair more stands behind
pub kept_on : (pairs middle new : List Pair) → take (length pairs) middle ≡ pairs → take (length middle) new ≡ middle → take (length pairs) new ≡ pairs
kept_on pairs middle new first second =
    let within : length pairs ≤ length middle = omega (arith, ap length first, length-take (length pairs) middle) in
    ap (take (length pairs)) (sym (take-append-drop (length middle) new))
    ∙ ap (λ (front : List Pair). take (length pairs) (front ++ drop (length middle) new)) second
    ∙ take-append-le (length pairs) middle (drop (length middle) new) within
    ∙ first
