use Rattle.std.proofs.Common.{IsSome, sym, ap, ◌∙◌, subst}
use Rattle.std.specs.Option.{option_copied_mut}
use Rattle.tk_tree.specs.Changing.{changed}
use Rattle.tk_tree.specs.Own.{window_at, with_change}
use Rattle.tk_tree.specs.Shared.{own_of}
use Rattle.tk_tree.proofs.Changed.{made}
use Rattle.tk_tree.proofs.Looks.{key_held, key_there}
use Rattle.tk_tree.proofs.windows.Windows.change.Goals as goal

pub unreachable-requires : goal.unreachable-requires
unreachable-requires c =
    key_there c.self.inside.index c.self.inside.slab.slots c.self.inside.counters.entries c.self.invariant c.args.win.owner c.args.win.number (subst (λ held. IsSome (window_at c.args.win.number (own_of c.args.win.owner held))) (sym c.self.view_is) c.requires) (sym c.key.ensures ∙ c.in_default.is)

pub unreachable-requires-in-None : goal.unreachable-requires-in-None
unreachable-requires-in-None c =
    key_held c.self.inside.index c.self.inside.slab.slots c.self.inside.counters.entries c.self.invariant c.args.win.owner c.args.win.number c.in-Some.key (sym c.key.ensures ∙ c.in-Some.is) (sym c.get_mut.ensures.value ∙ ap option_copied_mut c.in-None.is)

pub invariant_of-self : goal.invariant_of-self
invariant_of-self c =
    let done = made c.self.inside.index c.self.inside.slab.slots c.self.inside.counters.entries c.args.win.owner c.args.win.number c.in-Some.key c.in-Some-get_mut.node.now c.args.change c.change_window.new.window c.self.invariant (sym c.key.ensures ∙ c.in-Some.is) (sym c.get_mut.ensures.value ∙ ap option_copied_mut c.in-Some-get_mut.is) c.change_window.ensures in
    done.kept

pub returns-clause-own : goal.returns-clause-own
returns-clause-own c =
    let done = made c.self.inside.index c.self.inside.slab.slots c.self.inside.counters.entries c.args.win.owner c.args.win.number c.in-Some.key c.in-Some-get_mut.node.now c.args.change c.change_window.new.window c.self.invariant (sym c.key.ensures ∙ c.in-Some.is) (sym c.get_mut.ensures.value ∙ ap option_copied_mut c.in-Some-get_mut.is) c.change_window.ensures in
    done.own ∙ ap (λ held. with_change c.args.win.number (changed c.args.change) (own_of c.args.win.owner held)) c.self.view_is

pub returns-clause-others : goal.returns-clause-others
returns-clause-others c =
    let done = made c.self.inside.index c.self.inside.slab.slots c.self.inside.counters.entries c.args.win.owner c.args.win.number c.in-Some.key c.in-Some-get_mut.node.now c.args.change c.change_window.new.window c.self.invariant (sym c.key.ensures ∙ c.in-Some.is) (sym c.get_mut.ensures.value ∙ ap option_copied_mut c.in-Some-get_mut.is) c.change_window.ensures in
    λ other differ. done.others other differ ∙ ap (own_of other) c.self.view_is
