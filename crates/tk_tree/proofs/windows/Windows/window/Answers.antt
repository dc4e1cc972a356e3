use Rattle.std.proofs.Common.{sym, ap, ◌∙◌}
use Rattle.std.specs.Option.{option_copied}
use Rattle.tk_tree.specs.Own.{window_at}
use Rattle.tk_tree.specs.Shared.{own_of}
use Rattle.tk_tree.proofs.Looks.{key_none, key_some, key_held}
use Rattle.tk_tree.proofs.windows.Windows.window.Goals as goal

pub returns-in_err-key : goal.returns-in_err-key
returns-in_err-key c =
    ap option_copied c.from_residual.ensures
    ∙ sym (key_none c.self.inside.index c.self.inside.slab.slots c.self.inside.counters.entries c.self.invariant c.args.win.owner c.args.win.number (sym c.in_err-key.ensures))
    ∙ ap (λ held. window_at c.args.win.number (own_of c.args.win.owner held)) c.self.view_is

pub returns-in_err-node : goal.returns-in_err-node
returns-in_err-node c =
    absurd (key_held c.self.inside.index c.self.inside.slab.slots c.self.inside.counters.entries c.self.invariant c.args.win.owner c.args.win.number c.in_ok-key.key (sym c.in_ok-key.ensures) (sym c.in_err-node.ensures))

pub returns : goal.returns
returns c =
    sym (key_some c.self.inside.index c.self.inside.slab.slots c.self.inside.counters.entries c.self.invariant c.args.win.owner c.args.win.number c.in_ok-key.key c.in_ok-node.node.now (sym c.in_ok-key.ensures) (sym c.in_ok-node.ensures))
    ∙ ap (λ held. window_at c.args.win.number (own_of c.args.win.owner held)) c.self.view_is
