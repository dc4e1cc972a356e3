use Rattle.std.proofs.Common.{◌≡◌, ℕ, List, Option, Ok, IfSome, option_map, sym, ◌∙◌, subst}
use Rattle.tk_dispatch.specs.Dispatch.{script_of}
use Rattle.tk_patterns.specs.Shared as bindings_of
use Rattle.tk_tree.specs.Shared as windows_of
use Rattle.tk_virtual.specs.Virtual.{meanings_of}
use Rattle.tk_dispatch.proofs.dispatch.next_script.Goals as goal

pub returns-in-Some-clause-script : goal.returns-in-Some-clause-script
returns-in-Some-clause-script c =
    let choice = c.args.choice.now in
    let runs = script_of (windows_of.own_of choice.owner choice.windows.now) (meanings_of choice.virtuals.now) (bindings_of.own_of choice.owner choice.bindings.now) choice.history.now choice.event.now in
    c.to_run.ensures
    ∙ sym (subst (λ (kept : Option (Option (List ℕ))). IfSome kept (λ script. runs c.args.tag.now ≡ option_map Ok script)) c.in-Some.is (c.in_ok-script.ensures runs c.requires.chosen))
