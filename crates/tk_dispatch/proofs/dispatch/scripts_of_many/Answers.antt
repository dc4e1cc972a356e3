use Rattle.std.proofs.Common.{◌≡◌, IfOk, ap, ◌∙◌, subst}
use Rattle.tk_dispatch.specs.Dispatch.{scripts_of}
use Rattle.tk_patterns.specs.Shared as bindings_of
use Rattle.tk_tree.specs.Shared as windows_of
use Rattle.tk_virtual.specs.Virtual.{meanings_of}
use Rattle.tk_dispatch.proofs.ManyTags.{scripts_matching}
use Rattle.tk_dispatch.proofs.dispatch.scripts_of_many.Goals as goal

pub returns : goal.returns
returns c =
    let choice = c.args.choice.now in
    subst (λ scripts. IfOk c.scripts_of.result (λ chosen. chosen ≡ scripts))
    (ap (λ pairs. scripts_of (windows_of.own_of choice.owner choice.windows.now) (meanings_of pairs) (bindings_of.own_of choice.owner choice.bindings.now) choice.history.now choice.event.now c.args.tags.now) c.in_ok-virtuals.ensures
    ∙ scripts_matching (windows_of.own_of choice.owner choice.windows.now) choice.virtuals.now (bindings_of.own_of choice.owner choice.bindings.now) choice.history.now choice.event.now c.args.tags.now) c.scripts_of.ensures
