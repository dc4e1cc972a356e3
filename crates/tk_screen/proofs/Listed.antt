-- What is listed, by its numbers.
use Rattle.std.proofs.Common.{◌≡◌, ℕ, zero, suc, ◌+◌, ◌<◌, ◌≤◌, Bool, true, false, List, [], ◌∷◌, ◌++◌, length, get_or, take, Option, Some, refl, sym, ap, ◌∙◌, eq-eqb, arith}
use Rattle.std.specs.Prelude.{◌==◌, if◌then◌else◌, flat_map}
use Rattle.std.specs.Option.{option_map_or}
use Rattle.std.proofs.lemmas.Grind.{flat_map-append}
use Rattle.std.proofs.lemmas.List.{append-nil, get_or-map, length-map, take_more}
use Rattle.std.proofs.lemmas.Bool.Decides.{nat_tests}
use Rattle.tk_after.specs.declared.waiting.WaitingScript.{WaitingScript}
use Rattle.tk_after.specs.Timers.{entry_with, ids}
use Rattle.tk_after.specs.Shared.{IsNumbered}
use Rattle.tk_after.proofs.Numbers.{id_at_least}

-- each entry is the one with its number
pub entry_at : (low : ℕ) (entries : List WaitingScript) (next_number i : ℕ) (d : WaitingScript) → IsNumbered low entries next_number → i < length entries
    → entry_with (get_or entries i d).id entries ≡ Some (get_or entries i d)
entry_at low [] next_number i d numbered lt = absurd (omega arith)
entry_at low (e ∷ entries) next_number zero d numbered lt = ap (λ b. if b then Some e else entry_with e.id entries) (eq-eqb e.id e.id refl)
entry_at low (e ∷ entries) next_number (suc i) d numbered lt =
    let above = id_at_least (e.id + 1) entries next_number i d numbered.1 (omega arith) in
    by (e.id == (get_or entries i d).id) refl above (entry_at (e.id + 1) entries next_number i d numbered.1 (omega arith))
  where
    by : (b : Bool) → (e.id == (get_or entries i d).id) ≡ b → e.id + 1 ≤ (get_or entries i d).id → entry_with (get_or entries i d).id entries ≡ Some (get_or entries i d)
        → (if e.id == (get_or entries i d).id then Some e else entry_with (get_or entries i d).id entries) ≡ Some (get_or entries i d)
    by true is above later = absurd (grind (arith, nat_tests))
    by false is above later = rw is later

-- the line of the entry at a place is the next line
pub lines_more : (f : WaitingScript → List ℕ) (entries : List WaitingScript) (next_number i id : ℕ) → IsNumbered 0 entries next_number → i < length (ids entries) → id ≡ get_or (ids entries) i 0
    → flat_map f (take i entries) ++ option_map_or f (entry_with id entries) [] ≡ flat_map f (take (i + 1) entries)
lines_more f [] next_number i id numbered lt is = absurd (omega (arith, lt))
lines_more f (e ∷ rest) next_number i id numbered lt is =
    let entries : List WaitingScript = e ∷ rest in
    let id_of : WaitingScript → ℕ = λ entry. entry.id in
    let within : i < length entries = omega (arith, lt, length-map entries id_of) in
    let there : WaitingScript = get_or entries i e in
    let found : entry_with id entries ≡ Some there = ap (λ n. entry_with n entries) (is ∙ get_or-map id_of entries i e 0 within) ∙ entry_at 0 entries next_number i e numbered within in
    ap (λ (o : Option WaitingScript). flat_map f (take i entries) ++ option_map_or f o []) found
    ∙ sym (ap (flat_map f) (take_more entries i e within) ∙ flat_map-append f (take i entries) (there ∷ []) ∙ ap (λ r. flat_map f (take i entries) ++ r) (append-nil (f there)))
