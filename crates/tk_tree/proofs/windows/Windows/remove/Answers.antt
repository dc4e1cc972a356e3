use Rattle.std.proofs.Common.{◌≡◌, IsSome, sym, ap, ◌∙◌, subst, []}
use Rattle.tk_tree.specs.Own.{window_at, without_window, child_numbers}
use Rattle.tk_tree.specs.Shared.{own_of}
use Rattle.tk_tree.proofs.Changed.{gone}
use Rattle.tk_tree.proofs.Looks.{key_held, key_there}
use Rattle.tk_tree.proofs.Rising.{kept_rising}
use Rattle.tk_tree.proofs.windows.Windows.remove.Goals as goal

pub remove-requires : goal.remove-requires
remove-requires c = kept_rising c.self.inside.index c.self.inside.slab.slots c.self.inside.counters.entries c.args.win.owner c.self.invariant

pub unreachable-requires : goal.unreachable-requires
unreachable-requires c =
    key_there c.self.inside.index c.self.inside.slab.slots c.self.inside.counters.entries c.self.invariant c.args.win.owner c.args.win.number (subst (λ held. IsSome (window_at c.args.win.number (own_of c.args.win.owner held))) (sym c.self.view_is) c.requires.there) (sym c.key.ensures ∙ c.in_default.is)

pub unreachable-requires-in_default-try_remove : goal.unreachable-requires-in_default-try_remove
unreachable-requires-in_default-try_remove c =
    key_held c.self.inside.index c.self.inside.slab.slots c.self.inside.counters.entries c.self.invariant c.args.win.owner c.args.win.number c.in-Some.key (sym c.key.ensures ∙ c.in-Some.is) (sym c.try_remove.ensures.value ∙ c.in_default-try_remove.is)

pub invariant_of-self : goal.invariant_of-self
invariant_of-self c =
    let done = gone c.self.inside.index c.remove.new.self c.self.inside.slab.slots c.try_remove.new.self.slots c.self.inside.counters.entries c.count_less.new.counters.entries c.args.win.owner c.args.win.number c.in-Some.key c.in-Some-try_remove.node c.as_str.result.now c.self.invariant (sym c.key.ensures ∙ c.in-Some.is) (sym c.try_remove.ensures.value ∙ c.in-Some-try_remove.is) c.in-Some-try_remove.ensures.slots c.as_str.ensures.bytes c.remove.ensures (subst (λ held. child_numbers c.args.win.number (own_of c.args.win.owner held).windows ≡ []) (sym c.self.view_is) c.requires.leaf) c.count_less.ensures in
    done.kept

pub returns-clause-own : goal.returns-clause-own
returns-clause-own c =
    let done = gone c.self.inside.index c.remove.new.self c.self.inside.slab.slots c.try_remove.new.self.slots c.self.inside.counters.entries c.count_less.new.counters.entries c.args.win.owner c.args.win.number c.in-Some.key c.in-Some-try_remove.node c.as_str.result.now c.self.invariant (sym c.key.ensures ∙ c.in-Some.is) (sym c.try_remove.ensures.value ∙ c.in-Some-try_remove.is) c.in-Some-try_remove.ensures.slots c.as_str.ensures.bytes c.remove.ensures (subst (λ held. child_numbers c.args.win.number (own_of c.args.win.owner held).windows ≡ []) (sym c.self.view_is) c.requires.leaf) c.count_less.ensures in
    done.own ∙ ap (λ held. without_window c.args.win.number (own_of c.args.win.owner held)) c.self.view_is

pub returns-clause-others : goal.returns-clause-others
returns-clause-others c =
    let done = gone c.self.inside.index c.remove.new.self c.self.inside.slab.slots c.try_remove.new.self.slots c.self.inside.counters.entries c.count_less.new.counters.entries c.args.win.owner c.args.win.number c.in-Some.key c.in-Some-try_remove.node c.as_str.result.now c.self.invariant (sym c.key.ensures ∙ c.in-Some.is) (sym c.try_remove.ensures.value ∙ c.in-Some-try_remove.is) c.in-Some-try_remove.ensures.slots c.as_str.ensures.bytes c.remove.ensures (subst (λ held. child_numbers c.args.win.number (own_of c.args.win.owner held).windows ≡ []) (sym c.self.view_is) c.requires.leaf) c.count_less.ensures in
    λ other differ. done.others other differ ∙ ap (own_of other) c.self.view_is
