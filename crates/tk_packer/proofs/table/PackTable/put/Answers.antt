use Rattle.std.proofs.Common.{ap, ◌∙◌}
use Rattle.tk_packer.specs.declared.packed.Packed.{Packed}
use Rattle.tk_packer.specs.Packs.{slaves_of}
use Rattle.tk_packer.specs.Shared.{own_of}
use Rattle.tk_packer.proofs.ChangeLemmas.{slaves_of-packed_at, slaves_of-packed_at_other, slaves_of-without}
use Rattle.tk_packer.proofs.table.PackTable.put.Goals as goal

pub returns-clause-slaves : goal.returns-clause-slaves
returns-clause-slaves c =
    let new : Packed = record { master = c.args.master; number = c.args.win.number; request = c.args.request } in
    ap (λ own. slaves_of c.args.master own.packs) c.in_ok-insert.ensures.own
    ∙ slaves_of-packed_at c.args.place new (own_of c.args.win.owner c.args.self.now).packs

pub returns-clause-masters : goal.returns-clause-masters
returns-clause-masters c = λ other differ.
    let new : Packed = record { master = c.args.master; number = c.args.win.number; request = c.args.request } in
    let packs = (own_of c.args.win.owner c.args.self.now).packs in
    ap (λ own. slaves_of other own.packs) c.in_ok-insert.ensures.own
    ∙ slaves_of-packed_at_other other c.args.place new packs differ
    ∙ slaves_of-without other c.args.win.number packs
