-- Numbers that rise along a list: what stays so as one comes.
use Rattle.std.proofs.Common.{◌≡◌, ℕ, ◌+◌, ◌<◌, ◌≤◌, zero, suc, List, [], ◌∷◌, ◌++◌, length, get_or, refl, Bool, true, false, leb, ◌-◌, ◌^◌, arith}
use Rattle.std.specs.Prelude.{◌||◌}
use Rattle.std.proofs.lemmas.Bool.{leb-false}
use Rattle.tk_after.specs.declared.waiting.WaitingScript.{WaitingScript}
use Rattle.tk_after.specs.Timers.{Timers, is_full}
use Rattle.tk_after.specs.Shared.{IsNumbered}

-- one more with the next number
pub IsNumbered-push : (low : ℕ) (entries : List WaitingScript) (next_number : ℕ) (entry : WaitingScript) → IsNumbered low entries next_number → entry.id ≡ next_number → IsNumbered low (entries ++ entry ∷ []) (next_number + 1)
IsNumbered-push low [] next_number entry numbered is = (omega arith, omega arith)
IsNumbered-push low (e ∷ entries) next_number entry numbered is = (numbered.0, IsNumbered-push (e.id + 1) entries next_number entry numbered.1 is)

-- from a lower number on
pub IsNumbered-lower : (low lower : ℕ) (entries : List WaitingScript) (next_number : ℕ) → lower ≤ low → IsNumbered low entries next_number → IsNumbered lower entries next_number
IsNumbered-lower low lower [] next_number le numbered = omega arith
IsNumbered-lower low lower (e ∷ entries) next_number le numbered = (omega arith, numbered.1)

-- no number is below the first
pub id_at_least : (low : ℕ) (entries : List WaitingScript) (next_number i : ℕ) (d : WaitingScript) → IsNumbered low entries next_number → i < length entries → low ≤ (get_or entries i d).id
id_at_least low [] next_number i d numbered lt = omega arith
id_at_least low (e ∷ entries) next_number zero d numbered lt = numbered.0
id_at_least low (e ∷ entries) next_number (suc i) d numbered lt = omega (arith, id_at_least (e.id + 1) entries next_number i d numbered.1 (omega arith))

-- what is not full has room for one more
pub room_from_is_full : (own : Timers) → is_full own ≡ false → length own.entries < 256
room_from_is_full own room = leb-false 256 (length own.entries) (or_false (leb 256 (length own.entries)) (leb (2 ^ 64 - 1) own.next_number) room)
  where
    or_false : (a b : Bool) → (a || b) ≡ false → a ≡ false
    or_false true b e = e
    or_false false b e = refl
