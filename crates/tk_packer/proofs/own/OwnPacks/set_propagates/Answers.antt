use Rattle.std.proofs.Common.{List, ℕ, true, false, ap, ◌∙◌}
use Rattle.tk_packer.specs.Packs.{Packing, with_propagation}
use Rattle.tk_packer.specs.Tables.{gathered}
use Rattle.tk_packer.proofs.Orders.{rising_less, rising_more}
use Rattle.tk_packer.proofs.own.OwnPacks.set_propagates.Goals as goal

pub returns-then-propagates-clause-ok : goal.returns-then-propagates-clause-ok
returns-then-propagates-clause-ok c =
    let inside = c.self.inside in
    let own : List ℕ → Packing = λ rigid. record { packs = gathered inside.masters.entries; rigid = rigid } in
    rw c.if-propagates.true
    (ap own (rising_less c.args.number inside.rigid.keys c.remove.new.self.keys c.remove.ensures.updates.0)
    ∙ ap (with_propagation c.args.number true) c.self.view_is)

pub returns-in_ok-insert-clause-ok : goal.returns-in_ok-insert-clause-ok
returns-in_ok-insert-clause-ok c =
    let inside = c.self.inside in
    let own : List ℕ → Packing = λ rigid. record { packs = gathered inside.masters.entries; rigid = rigid } in
    rw c.if-propagates.false
    (ap own (rising_more c.args.number inside.rigid.keys c.insert.new.self.keys c.in_ok-insert.ensures.updates.0)
    ∙ ap (with_propagation c.args.number false) c.self.view_is)
