use Rattle.std.proofs.Common.{◌≡◌, ℕ, List, ap, ◌∙◌, subst}
use Rattle.std.specs.Prelude.{IfOk}
use Rattle.tk_after.specs.Timers.{ids}
use Rattle.tk_after.specs.Shared.{Held, entries_of}
use Rattle.tk_after.proofs.Told.{ids_told}
use Rattle.tk_after.proofs.timers.Timers.info.Goals as goal

pub returns-clause-list : goal.returns-clause-list
returns-clause-list c =
    let told = ids_told c.self.inside.scripts c.self.inside.index c.self.inside.counters.entries c.args.owner c.self.invariant ∙ ap (λ (held : Held). ids (entries_of c.args.owner held)) c.self.view_is in
    subst (λ (numbers : List ℕ). IfOk c.ids.result (λ list. list.items ≡ numbers)) told c.ids.ensures
