use Rattle.std.proofs.Common.{List, ap, ◌∙◌}
use Rattle.std.specs.Prelude.{nat_eq}
use Rattle.std.specs.Map.{lookup}
use Rattle.tk_packer.specs.declared.packed.Packed.{Packed}
use Rattle.tk_packer.specs.Packs.{Packing, without_packed}
use Rattle.tk_packer.specs.Tables.{slaves_at, taken_out, rising}
use Rattle.tk_packer.proofs.ChangeLemmas.{forget_steps}
use Rattle.tk_packer.proofs.own.OwnPacks.forget.Goals as goal

pub invariant_of-self : goal.invariant_of-self
invariant_of-self c =
    let number = c.args.number in
    (forget_steps number (λ other. lookup (nat_eq other) c.self.inside.windows.entries) (λ other. lookup (nat_eq other) c.remove-before.new.self.entries)
    c.self.inside.masters.entries c.drop_slave.new.masters.entries c.self.invariant c.remove-before.ensures.updates.0
    (λ master. c.drop_slave.ensures master ∙ ap (λ before. taken_out before number master (slaves_at master c.self.inside.masters.entries)) c.remove-before.ensures.value)).tied

pub returns : goal.returns
returns c =
    let number = c.args.number in
    let steps = forget_steps number (λ other. lookup (nat_eq other) c.self.inside.windows.entries) (λ other. lookup (nat_eq other) c.remove-before.new.self.entries)
    c.self.inside.masters.entries c.drop_slave.new.masters.entries c.self.invariant c.remove-before.ensures.updates.0
    (λ master. c.drop_slave.ensures master ∙ ap (λ before. taken_out before number master (slaves_at master c.self.inside.masters.entries)) c.remove-before.ensures.value) in
    let own : List Packed → Packing = λ packs. record { packs = packs; rigid = rising c.self.inside.rigid.keys } in
    ap own steps.packs_are ∙ ap (without_packed number) c.self.view_is
