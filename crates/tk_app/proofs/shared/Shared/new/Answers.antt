use Rattle.std.proofs.Common.{◌≡◌, length, arith, sym, ap, ◌∙◌}
use Rattle.tk_panel.specs.Fresh.{nothing}
use Rattle.tk_app.proofs.shared.Shared.new.Goals as goal

pub invariant_of-result : goal.invariant_of-result
invariant_of-result g c =
    let none : length c.new-2.result.items ≡ 0 = ap length c.new-2.ensures.items in
    (omega (arith, none), λ slot past few. c.in_ok-new.ensures.nothing slot ∙ ap nothing (sym c.in_ok-new.ensures.moment))
