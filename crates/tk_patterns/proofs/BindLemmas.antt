-- Where a binding stands, and what another script there makes of the list.
use Rattle.std.proofs.Common.{◌≡◌, ℕ, zero, suc, ◌+◌, ◌<◌, ◌≤◌, Bool, true, false, ltb, cond, List, [], ◌∷◌, ◌++◌, length, drop, Option, Some, None, get_or, slice_get, refl, sym, ap, ◌∙◌, arith}
use Rattle.std.specs.Prelude.{is_some, is_none, ◌&&◌, nat_le, position}
use Rattle.std.specs.List.{position_or_len}
use Rattle.std.proofs.Math.ListN.{set}
use borrow.Author.Tests.{ltb-false}
use Rattle.std.proofs.lemmas.List.Folds.{find_at}
use Rattle.std.proofs.lemmas.Option.{slice_get_within}
use Rattle.std.proofs.lemmas.List.{at_drop_more}
use Rattle.std.proofs.lemmas.List.Quantifiers.{position-Some}
use Rattle.tk_patterns.specs.declared.binding.Binding.{Binding}
use Rattle.tk_patterns.specs.Own.{has_tag, is_of, binding_of, refuses, sequences_of, bound_again, with_binding}
use Rattle.tk_patterns.specs.OwnSteps.{with_script_at}
use Rattle.tk_sequences.specs.declared.sequence.Sequence.{Sequence}
use Rattle.tk_sequences.specs.declared.sequence.Sequence.TheVariants.{Virtual}

abbrev no_binding : Binding
no_binding = record { tag = []; sequence = Virtual []; script = [] }

record IsAgain (tag : List ℕ) (sequence : Sequence) (script : List ℕ) (own : List Binding) (place : ℕ) : Type 0 where
  same : with_script_at place script own ≡ bound_again tag sequence script own
  there : is_some (binding_of tag sequence own) ≡ true

again_by : (tag : List ℕ) (sequence : Sequence) (script : List ℕ) (own : List Binding) (place : ℕ) → place < length own → is_of tag sequence (get_or own place no_binding) ≡ true
    → ((k : ℕ) → k < place → is_of tag sequence (get_or own k no_binding) ≡ false) → IsAgain tag sequence script own place
again_by tag sequence script [] place below is before = absurd (omega arith)
again_by tag sequence script (binding ∷ own) zero below is before = record { same = rw is refl; there = rw is refl }
again_by tag sequence script (binding ∷ own) (suc place) below is before =
    let first : is_of tag sequence binding ≡ false = before zero (omega arith) in
    let rest = again_by tag sequence script own place (omega arith) is (λ k less. before (suc k) (omega arith)) in
    record { same = rw first (ap (λ own. binding ∷ own) rest.same); there = rw first rest.there }

again : (tag : List ℕ) (sequence : Sequence) (script : List ℕ) (own : List Binding) (place : ℕ) → position (is_of tag sequence) own ≡ Some place → IsAgain tag sequence script own place
again tag sequence script own place h =
    let facts = position-Some (is_of tag sequence) own place no_binding h in
    again_by tag sequence script own place facts.0 facts.1 facts.2

pub place_within : (tag : List ℕ) (sequence : Sequence) (own : List Binding) (place : ℕ) → position (is_of tag sequence) own ≡ Some place → place < length own
place_within tag sequence own place h = (position-Some (is_of tag sequence) own place no_binding h).0

pub found_there : (tag : List ℕ) (sequence : Sequence) (own : List Binding) (place : ℕ) → position (is_of tag sequence) own ≡ Some place → is_some (binding_of tag sequence own) ≡ true
found_there tag sequence own place h = (again tag sequence [] own place h).there

pub again_there : (tag : List ℕ) (sequence : Sequence) (script : List ℕ) (own : List Binding) (place : ℕ) → position (is_of tag sequence) own ≡ Some place → with_script_at place script own ≡ with_binding tag sequence script own
again_there tag sequence script own place h =
    let done = again tag sequence script own place h in
    let there = done.there in
    rw there done.same

not_refused_by : (found : Option Binding) (full : Bool) → is_some found ≡ true → (is_none found && full) ≡ false
not_refused_by None full h = absurd (cc)
not_refused_by (Some binding) full h = refl

refused_by : (found : Option Binding) (full : Bool) → is_some found ≡ false → (is_none found && full) ≡ full
refused_by None full h = refl
refused_by (Some binding) full h = absurd (cc)

-- ── none ──
none_by : (tag : List ℕ) (sequence : Sequence) (own : List Binding) (found : Option Binding) → binding_of tag sequence own ≡ found → length own ≤ position_or_len (is_of tag sequence) own → is_some found ≡ false
none_by tag sequence own None is h = refl
none_by tag sequence own (Some binding) is h =
    let there : slice_get own (position_or_len (is_of tag sequence) own) ≡ Some binding = sym (find_at (is_of tag sequence) own) ∙ is in
    absurd (omega (arith, h, slice_get_within own (position_or_len (is_of tag sequence) own) binding there))

past_by : (a b : ℕ) (t : Bool) → ltb a b ≡ t → cond t (Some a) None ≡ None → b ≤ a
past_by a b true is h = absurd (cc)
past_by a b false is h = ltb-false a b is

pub none_there : (tag : List ℕ) (sequence : Sequence) (own : List Binding) → position (is_of tag sequence) own ≡ None → is_some (binding_of tag sequence own) ≡ false
none_there tag sequence own h =
    none_by tag sequence own (binding_of tag sequence own) refl (past_by (position_or_len (is_of tag sequence) own) (length own) (ltb (position_or_len (is_of tag sequence) own) (length own)) refl h)

pub added_there : (tag : List ℕ) (sequence : Sequence) (script : List ℕ) (own : List Binding) → position (is_of tag sequence) own ≡ None → own ++ record { tag = tag; sequence = sequence; script = script } ∷ [] ≡ with_binding tag sequence script own
added_there tag sequence script own h = rw (none_there tag sequence own h) refl

pub found_not_refused : (tag : List ℕ) (sequence : Sequence) (own : List Binding) (place : ℕ) → position (is_of tag sequence) own ≡ Some place → refuses tag sequence own ≡ false
found_not_refused tag sequence own place h = not_refused_by (binding_of tag sequence own) (nat_le 4096 (length own)) (found_there tag sequence own place h)

pub none_refuses : (tag : List ℕ) (sequence : Sequence) (own : List Binding) → position (is_of tag sequence) own ≡ None → refuses tag sequence own ≡ nat_le 4096 (length own)
none_refuses tag sequence own h = refused_by (binding_of tag sequence own) (nat_le 4096 (length own)) (none_there tag sequence own h)

-- ── another script at a place ──
pub script_at : (own : List Binding) (place : ℕ) (script : List ℕ) (binding : Binding) → place < length own → binding ≡ get_or own place binding → set own place (record binding { script = script }) ≡ with_script_at place script own
script_at [] place script binding below is = absurd (omega arith)
script_at (first ∷ own) zero script binding below is = ap (λ (b : Binding). with_script_at zero script (b ∷ own)) is
script_at (first ∷ own) (suc place) script binding below is = ap (λ own. first ∷ own) (script_at own place script binding (omega arith) is)

-- ── the sequences of a tag ──
tagged_by : (tag : List ℕ) (binding : Binding) (own : List Binding) (t : Bool) → has_tag tag binding ≡ t → sequences_of tag (binding ∷ own) ≡ cond t (binding.sequence ∷ sequences_of tag own) (sequences_of tag own)
tagged_by tag binding own true is = rw is refl
tagged_by tag binding own false is = rw is refl

sequences_more : (tag : List ℕ) (own : List Binding) (i : ℕ) (binding : Binding) → i < length own → binding ≡ get_or own i binding
    → sequences_of tag (drop i own) ≡ cond (has_tag tag binding) (binding.sequence ∷ sequences_of tag (drop (i + 1) own)) (sequences_of tag (drop (i + 1) own))
sequences_more tag own i binding below is =
    at_drop_more (sequences_of tag) own i binding below
    ∙ ap (λ b. sequences_of tag (b ∷ drop (i + 1) own)) (sym is)
    ∙ tagged_by tag binding (drop (i + 1) own) (has_tag tag binding) refl

pub sequences_here : (tag : List ℕ) (own : List Binding) (i : ℕ) (binding : Binding) → i < length own → binding ≡ get_or own i binding → has_tag tag binding ≡ true
    → sequences_of tag (drop i own) ≡ binding.sequence ∷ sequences_of tag (drop (i + 1) own)
sequences_here tag own i binding below is tagged = sequences_more tag own i binding below is ∙ ap (λ t. cond t (binding.sequence ∷ sequences_of tag (drop (i + 1) own)) (sequences_of tag (drop (i + 1) own))) tagged

pub sequences_past : (tag : List ℕ) (own : List Binding) (i : ℕ) (binding : Binding) → i < length own → binding ≡ get_or own i binding → has_tag tag binding ≡ false
    → sequences_of tag (drop i own) ≡ sequences_of tag (drop (i + 1) own)
sequences_past tag own i binding below is tagged = sequences_more tag own i binding below is ∙ ap (λ t. cond t (binding.sequence ∷ sequences_of tag (drop (i + 1) own)) (sequences_of tag (drop (i + 1) own))) tagged
