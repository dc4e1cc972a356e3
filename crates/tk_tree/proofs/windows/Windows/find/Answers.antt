use Rattle.std.proofs.Common.{ℕ, IsSome, option_map, sym, ap, ◌∙◌, ◌≡◌, subst}
use Rattle.tk_tree.specs.Own.{window_at, at_path}
use Rattle.tk_tree.specs.Shared.{own_of}
use Rattle.tk_tree.specs.Window.{number_of}
use Rattle.tk_tree.proofs.Looks.{number_is, mapped_none, mapped_some, path_window, path_there}
use Rattle.tk_tree.proofs.windows.Windows.find.Goals as goal

pub returns-in_err-number-clause-win : goal.returns-in_err-number-clause-win
returns-in_err-number-clause-win c =
    let none = mapped_none number_of _ (c.in_err-number.ensures ∙ number_is c.self.inside.index c.self.inside.slab.slots c.self.inside.counters.entries c.self.invariant c.args.owner c.args.path.now) in
    c.from_residual.ensures ∙ sym (ap (option_map (λ window. record { owner = c.args.owner; number = window.number })) none)
    ∙ ap (λ held. option_map (λ window. record { owner = c.args.owner; number = window.number }) (at_path c.args.path.now (own_of c.args.owner held))) c.self.view_is

pub returns-clause-win : goal.returns-clause-win
returns-clause-win c =
    mapped_some number_of (λ (n : ℕ). record { owner = c.args.owner; number = n }) c.in_ok-number.number _ (c.in_ok-number.ensures ∙ number_is c.self.inside.index c.self.inside.slab.slots c.self.inside.counters.entries c.self.invariant c.args.owner c.args.path.now)
    ∙ ap (λ held. option_map (λ window. record { owner = c.args.owner; number = window.number }) (at_path c.args.path.now (own_of c.args.owner held))) c.self.view_is

pub returns-clause-there : goal.returns-clause-there
returns-clause-there c =
    subst (λ held. IsSome (window_at c.in_ok-number.number (own_of c.args.owner held))) c.self.view_is
    (path_there c.self.inside.index c.self.inside.slab.slots c.self.inside.counters.entries c.self.invariant c.args.owner c.args.path.now c.in_ok-number.number (sym c.in_ok-number.ensures))

pub returns-clause-window : goal.returns-clause-window
returns-clause-window c =
    subst (λ held. window_at c.in_ok-number.number (own_of c.args.owner held) ≡ at_path c.args.path.now (own_of c.args.owner held)) c.self.view_is
    (path_window c.self.inside.index c.self.inside.slab.slots c.self.inside.counters.entries c.self.invariant c.args.owner c.args.path.now c.in_ok-number.number (sym c.in_ok-number.ensures))
