use Rattle.std.proofs.Common.{◌≡◌, ◌<◌, Some, sym, ap, ◌∙◌, subst}
use Rattle.std.specs.Option.{option_copied}
use Rattle.tk_tree.specs.declared.window.Window.{Window}
use Rattle.tk_tree.specs.Own.{window_at, at_path}
use Rattle.tk_tree.specs.Shared.{own_of}
use Rattle.tk_tree.specs.Window.{number_of}
use Rattle.tk_tree.proofs.Looks.{number_is, mapped_none, path_window, window_given, lent_given}
use Rattle.tk_tree.proofs.windows.Windows.window_of.Goals as goal
use Rattle.tk_base.specs.Counters.{next_of}

pub returns-in_err-number-clause-window : goal.returns-in_err-number-clause-window
returns-in_err-number-clause-window c =
    let none = mapped_none number_of _ (c.in_err-number.ensures ∙ number_is c.self.inside.index c.self.inside.slab.slots c.self.inside.counters.entries c.self.invariant c.args.owner c.args.path.now) in
    ap option_copied c.from_residual.ensures ∙ sym none ∙ ap (λ held. at_path c.args.path.now (own_of c.args.owner held)) c.self.view_is

pub returns-clause-window : goal.returns-clause-window
returns-clause-window c =
    c.window.ensures
    ∙ subst (λ held. window_at c.in_ok-number.number (own_of c.args.owner held) ≡ at_path c.args.path.now (own_of c.args.owner held)) c.self.view_is (path_window c.self.inside.index c.self.inside.slab.slots c.self.inside.counters.entries c.self.invariant c.args.owner c.args.path.now c.in_ok-number.number (sym c.in_ok-number.ensures))

pub returns-clause-given : goal.returns-clause-given
returns-clause-given c =
    lent_given (next_of c.args.owner c.args.self.now.counters) c.window.result (own_of c.args.owner c.args.self.now) c.in_ok-number.number c.window.ensures
    (subst (λ held. (window : Window) → window_at c.in_ok-number.number (own_of c.args.owner held) ≡ Some window → window.number < (own_of c.args.owner held).next_number) c.self.view_is (window_given c.self.inside.index c.self.inside.slab.slots c.self.inside.counters.entries c.self.invariant c.args.owner c.in_ok-number.number))
