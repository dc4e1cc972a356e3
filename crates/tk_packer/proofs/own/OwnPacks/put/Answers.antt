use Rattle.std.proofs.Common.{List, ap, ◌∙◌}
use Rattle.std.specs.Prelude.{nat_eq}
use Rattle.std.specs.Map.{lookup}
use Rattle.tk_packer.specs.declared.packed.Packed.{Packed}
use Rattle.tk_packer.specs.Packs.{Packing, with_packed}
use Rattle.tk_packer.specs.Tables.{slaves_at, taken_out, put_in, rising}
use Rattle.tk_packer.proofs.ChangeLemmas.{after_error, gathered_same, put_steps}
use Rattle.tk_packer.proofs.own.OwnPacks.put.Goals as goal

pub returns-in_err-open-clause-err : goal.returns-in_err-open-clause-err
returns-in_err-open-clause-err c =
    let own : List Packed → Packing = λ packs. record { packs = packs; rigid = rising c.self.inside.rigid.keys } in
    after_error c.from_residual.result _ (ap own (gathered_same c.self.inside.masters.entries c.open.new.masters.entries c.open.ensures.same) ∙ c.self.view_is)

pub returns-in-Err-clause-err : goal.returns-in-Err-clause-err
returns-in-Err-clause-err c =
    let own : List Packed → Packing = λ packs. record { packs = packs; rigid = rising c.self.inside.rigid.keys } in
    ap own (gathered_same c.self.inside.masters.entries c.close.new.masters.entries (λ master. c.close.ensures master ∙ c.open.ensures.same master)) ∙ c.self.view_is

pub invariant_of-self-in-Ok : goal.invariant_of-self-in-Ok
invariant_of-self-in-Ok c =
    let packed = c.args.packed in
    (put_steps c.args.place packed (λ other. lookup (nat_eq other) c.self.inside.windows.entries) (λ other. lookup (nat_eq other) c.insert.new.self.entries)
    c.self.inside.masters.entries c.move_slave.new.masters.entries c.self.invariant c.in-Ok.ensures.updates.0
    (λ master. c.move_slave.ensures master
    ∙ ap (λ slaves. put_in c.args.place packed master (taken_out c.in-Ok.before packed.number master slaves)) (c.open.ensures.same master)
    ∙ ap (λ before. put_in c.args.place packed master (taken_out before packed.number master (slaves_at master c.self.inside.masters.entries))) c.in-Ok.ensures.old)).tied

pub returns-in-Ok-clause-ok : goal.returns-in-Ok-clause-ok
returns-in-Ok-clause-ok c =
    let packed = c.args.packed in
    let steps = put_steps c.args.place packed (λ other. lookup (nat_eq other) c.self.inside.windows.entries) (λ other. lookup (nat_eq other) c.insert.new.self.entries)
    c.self.inside.masters.entries c.move_slave.new.masters.entries c.self.invariant c.in-Ok.ensures.updates.0
    (λ master. c.move_slave.ensures master
    ∙ ap (λ slaves. put_in c.args.place packed master (taken_out c.in-Ok.before packed.number master slaves)) (c.open.ensures.same master)
    ∙ ap (λ before. put_in c.args.place packed master (taken_out before packed.number master (slaves_at master c.self.inside.masters.entries))) c.in-Ok.ensures.old) in
    let own : List Packed → Packing = λ packs. record { packs = packs; rigid = rising c.self.inside.rigid.keys } in
    ap own steps.packs_are ∙ ap (with_packed c.args.place packed) c.self.view_is
