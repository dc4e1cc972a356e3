use Rattle.std.proofs.Common.{◌≡◌, Bool, true, false, [], refl, subst, arith}
use Rattle.std.specs.Prelude.{not}
use Rattle.tk_after.specs.Keys.{Stored, entries_in}
use Rattle.tk_after.specs.Timers.{idle_ids}
use Rattle.tk_after.proofs.Bags.{stored_of}
use Rattle.tk_after.proofs.Firsts.{nothing_first, no_idle}
use Rattle.tk_after.proofs.scripts.TimerScripts.has_idle.Goals as goal

isnt : (b : Bool) → not b ≡ false → b ≡ true
isnt true is = refl
isnt false is = absurd (cc)

pub returns : goal.returns
returns c = λ quiet owner.
    (let stored = stored_of c.self.inside.timers.entries c.self.inside.idle.entries in
    let none = nothing_first stored.idle (λ some. (let zero = c.is_empty.ensures.0 (isnt c.is_empty.result quiet) in omega (arith, some, zero))) in
    subst (λ (s : Stored). idle_ids (entries_in owner s) ≡ []) c.self.view_is (no_idle stored c.self.invariant none owner))
