use Rattle.std.proofs.Common.{◌≡◌, [], Some, subst}
use Rattle.std.specs.Prelude.{All, IsSome, IfSome, slice_get}
use Rattle.std.specs.BTreeMap.Range.{IsLeBy}
use Rattle.std.specs.Map.{keys_of}
use Rattle.std.proofs.lemmas.Bool.{false≢true}
use Rattle.std.proofs.lemmas.List.Elements.{recursion_from_All}
use Rattle.tk_after.specs.Keys.{Stored, bag_of, due_cmp, entries_in}
use Rattle.tk_after.specs.Timers.{due_moments}
use Rattle.tk_after.specs.Shared.{IsNextDue}
use Rattle.tk_after.proofs.Bags.{stored_of}
use Rattle.tk_after.proofs.Firsts.{begins, first_next, no_timers, nothing_first}
use Rattle.tk_after.proofs.scripts.TimerScripts.first_due.Goals as goal

pub returns-in-None-clause-none : goal.returns-in-None-clause-none
returns-in-None-clause-none c =
    let stored = stored_of c.self.inside.timers.entries c.self.inside.idle.entries in
    let none = nothing_first stored.timers (λ more. false≢true (subst IsSome c.in-None.is (c.first_key_value.ensures.variant.1 more))) in
    λ owner. subst (λ (s : Stored). due_moments (entries_in owner s) ≡ []) c.self.view_is (no_timers stored c.self.invariant none owner)

pub returns-in-Some-clause-least : goal.returns-in-Some-clause-least
returns-in-Some-clause-least c =
    let stored = stored_of c.self.inside.timers.entries c.self.inside.idle.entries in
    let first = subst (λ r. IfSome r (λ p. slice_get stored.timers 0 ≡ Some (p.0.now, p.1.now))) c.in-Some.is c.first_key_value.ensures.first in
    let later = subst (λ r. IfSome r (λ p. All (IsLeBy due_cmp p.0.now) (keys_of stored.timers))) c.in-Some.is c.first_key_value.ensures.all_from in
    let rest = begins stored.timers (c.in-Some.key.now, c.in-Some.field-0-1.now) first in
    λ counters. subst (λ (s : Stored). IsNextDue (record { counters = counters; bag = bag_of s }) c.in-Some.key.now.due) c.self.view_is
    (first_next stored c.self.invariant counters c.in-Some.key.now c.in-Some.field-0-1.now rest.0 rest.1 (recursion_from_All (IsLeBy due_cmp c.in-Some.key.now) (keys_of stored.timers) later))
