use Rattle.std.proofs.Common.{◌≡◌, Some, subst}
use Rattle.std.specs.Prelude.{All, IfSome, slice_get}
use Rattle.std.specs.BTreeMap.Range.{IsLeBy}
use Rattle.std.specs.Map.{keys_of}
use Rattle.std.proofs.lemmas.List.Elements.{recursion_from_All}
use Rattle.tk_after.specs.Keys.{Stored, due_cmp, entries_in}
use Rattle.tk_after.specs.Timers.{due_moments, IsLeastOf}
use Rattle.tk_after.proofs.Bags.{stored_of}
use Rattle.tk_after.proofs.Firsts.{begins, first_own}
use Rattle.tk_after.proofs.scripts.TimerScripts.first.Goals as goal

pub returns-in-Some : goal.returns-in-Some
returns-in-Some c =
    let stored = stored_of c.self.inside.timers.entries c.self.inside.idle.entries in
    let first = subst (λ r. IfSome r (λ p. slice_get stored.timers 0 ≡ Some (p.0.now, p.1.now))) c.in-Some.is c.first_key_value.ensures.first in
    let later = subst (λ r. IfSome r (λ p. All (IsLeBy due_cmp p.0.now) (keys_of stored.timers))) c.in-Some.is c.first_key_value.ensures.all_from in
    let rest = begins stored.timers (c.in-Some.key.now, c.in-Some.field-0-1.now) first in
    subst (λ (s : Stored). IsLeastOf (due_moments (entries_in c.in-Some.key.now.owner s)) c.in-Some.key.now.due) c.self.view_is
    (first_own stored c.self.invariant c.in-Some.key.now c.in-Some.field-0-1.now rest.0 rest.1 (recursion_from_All (IsLeBy due_cmp c.in-Some.key.now) (keys_of stored.timers) later))
