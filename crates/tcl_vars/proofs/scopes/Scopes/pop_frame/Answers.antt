-- The store without its last frame is sound.
use Rattle.std.proofs.Common.{◌++◌, length, option_to_list, ap, ◌∙◌, arith}
use Rattle.tcl_vars.proofs.CountLemmas.{IsSound-rest}
use Rattle.tcl_vars.proofs.scopes.Scopes.pop_frame.Goals as goal

pub invariant_of-self : goal.invariant_of-self
invariant_of-self c =
    rw c.variable_count.ensures
    (IsSound-rest c.self.inside.frames.items c.pop.new.self.items c.unwrap-frame.result c.self.inside.count c.self.invariant
    (c.pop.ensures.items ∙ ap (λ o. c.pop.new.self.items ++ option_to_list o) c.unwrap-frame.ensures)
    (omega (arith, ap length c.self.view_is, c.requires)))
