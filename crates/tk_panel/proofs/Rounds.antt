-- The rest of a round, from the first idle script on that still waits.
use Rattle.std.proofs.Common.{◌≡◌, ℕ, true, false, cond, List, [], ◌∷◌, refl, sym, ap, ◌∙◌}
use Rattle.std.specs.Prelude.{Some, None, is_some, slice_get}
use Rattle.tk_after.specs.declared.waiting.WaitingScript.{WaitingScript}
use Rattle.tk_after.specs.Timers.{entry_with}
use Rattle.tk_panel.specs.Settle.{still_waiting}

by_first : (id : ℕ) (ids : List ℕ) (entries : List WaitingScript) → is_some (entry_with id entries) ≡ true → id ∷ ids ≡ still_waiting (id ∷ ids) entries
unfolding still_waiting
by_first id ids entries is = ap (λ b. cond b (id ∷ ids) (still_waiting ids entries)) (sym is)

pub first_waits : (ids : List ℕ) (entries : List WaitingScript) (id : ℕ) → slice_get ids 0 ≡ Some id → is_some (entry_with id entries) ≡ true → ids ≡ still_waiting ids entries
first_waits [] entries id at is = cc
first_waits (i ∷ ids) entries id at is = let same : i ≡ id = cc in by_first i ids entries (ap (λ k. is_some (entry_with k entries)) same ∙ is)

pub first_passed : (ids rest : List ℕ) (entries : List WaitingScript) (id : ℕ) → ids ≡ id ∷ rest → is_some (entry_with id entries) ≡ false → still_waiting rest entries ≡ still_waiting ids entries
unfolding still_waiting
first_passed ids rest entries id is gone = ap (λ b. cond b (id ∷ rest) (still_waiting rest entries)) (sym gone) ∙ ap (λ xs. still_waiting xs entries) (sym is)

pub none_waits : (ids : List ℕ) (entries : List WaitingScript) → slice_get ids 0 ≡ None → ids ≡ still_waiting ids entries
unfolding still_waiting
none_waits [] entries at = refl
none_waits (i ∷ ids) entries at = cc
