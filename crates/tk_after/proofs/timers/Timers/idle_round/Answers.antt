use Rattle.std.proofs.Common.{◌≡◌, ℕ, List, ap, ◌∙◌, sym, subst}
use Rattle.std.specs.Prelude.{IfOk}
use Rattle.tk_after.specs.Timers.{idle_ids}
use Rattle.tk_after.specs.Shared.{Held, entries_of}
use Rattle.tk_after.proofs.Told.{idle_told}
use Rattle.tk_after.proofs.timers.Timers.idle_round.Goals as goal

pub returns-then-has_idle : goal.returns-then-has_idle
returns-then-has_idle c =
    let told = idle_told c.self.inside.scripts c.self.inside.index c.self.inside.counters.entries c.args.owner c.self.invariant ∙ ap (λ (held : Held). idle_ids (entries_of c.args.owner held)) c.self.view_is in
    subst (λ (numbers : List ℕ). IfOk c.idle_ids.result (λ list. list.items ≡ numbers)) told c.idle_ids.ensures

pub returns-else-has_idle : goal.returns-else-has_idle
returns-else-has_idle c = c.no_ids.ensures ∙ sym (c.has_idle.ensures c.if-has_idle.false c.args.owner) ∙ ap (λ (held : Held). idle_ids (entries_of c.args.owner held)) c.self.view_is
