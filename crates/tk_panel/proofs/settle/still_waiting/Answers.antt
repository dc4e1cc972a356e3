use Rattle.std.proofs.Common.{◌≡◌, true, refl, sym, ap, ◌∙◌}
use Rattle.std.specs.Prelude.{None, Some, is_some}
use Rattle.std.specs.Option.{option_copied}
use Rattle.tk_after.specs.Shared.{own_of}
use Rattle.tk_panel.proofs.Rounds.{first_waits, none_waits}
use Rattle.tk_panel.proofs.settle.still_waiting.Goals as goal

pub returns-then-is_some : goal.returns-then-is_some
returns-then-is_some c =
    let entries = (own_of c.args.slot c.args.tables.now.timers).entries in
    let seen = elim c.entry.result as (λ r. is_some r ≡ true → is_some (option_copied r) ≡ true) [ None ↦ λ h. h | Some entry ↦ λ h. refl ] in
    first_waits c.loop-id.round entries c.in-Some.id (sym c.next.ensures ∙ c.in-Some.is)
    (ap is_some (sym c.entry.ensures) ∙ seen (sym c.is_some.ensures ∙ c.if-is_some.true))
    ∙ c.loop-id.invariant

pub returns : goal.returns
returns c =
    none_waits c.loop-id.round (own_of c.args.slot c.args.tables.now.timers).entries (sym c.next.ensures ∙ c.in_default.is) ∙ c.loop-id.invariant
