use Rattle.std.proofs.Common.{ℕ, List, ap, ◌∙◌}
use Rattle.std.specs.Prelude.{nat_eq}
use Rattle.std.specs.Map.{lookup}
use Rattle.tk_packer.specs.declared.packed.Packed.{Packed}
use Rattle.tk_packer.specs.Packs.{Packing, without, without_window}
use Rattle.tk_packer.specs.Tables.{slaves_at, taken_out, gathered, rising}
use Rattle.tk_packer.proofs.ChangeLemmas.{forget_steps}
use Rattle.tk_packer.proofs.Orders.{rising_less}
use Rattle.tk_packer.proofs.own.OwnPacks.remove.Goals as goal

pub invariant_of-self : goal.invariant_of-self
invariant_of-self c =
    let number = c.args.number in
    (forget_steps number (λ other. lookup (nat_eq other) c.self.inside.windows.entries) (λ other. lookup (nat_eq other) c.remove-before.new.self.entries)
    c.self.inside.masters.entries c.drop_slave.new.masters.entries c.self.invariant c.remove-before.ensures.updates.0
    (λ master. c.drop_slave.ensures master ∙ ap (λ before. taken_out before number master (slaves_at master c.self.inside.masters.entries)) c.remove-before.ensures.value)).tied

pub returns : goal.returns
returns c =
    let number = c.args.number in
    let steps = forget_steps number (λ other. lookup (nat_eq other) c.self.inside.windows.entries) (λ other. lookup (nat_eq other) c.remove-before.new.self.entries)
    c.self.inside.masters.entries c.drop_slave.new.masters.entries c.self.invariant c.remove-before.ensures.updates.0
    (λ master. c.drop_slave.ensures master ∙ ap (λ before. taken_out before number master (slaves_at master c.self.inside.masters.entries)) c.remove-before.ensures.value) in
    let own : List Packed → List ℕ → Packing = λ packs rigid. record { packs = packs; rigid = rigid } in
    ap (λ packs. own packs (rising c.remove.new.self.keys)) steps.packs_are
    ∙ ap (own (without number (gathered c.self.inside.masters.entries))) (rising_less number c.self.inside.rigid.keys c.remove.new.self.keys c.remove.ensures.updates.0)
    ∙ ap (without_window number) c.self.view_is
