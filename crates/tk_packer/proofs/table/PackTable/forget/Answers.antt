use Rattle.std.proofs.Common.{ap, ◌∙◌}
use Rattle.tk_packer.specs.Packs.{slaves_of}
use Rattle.tk_packer.specs.Shared.{own_of}
use Rattle.tk_packer.proofs.ChangeLemmas.{slaves_of-without}
use Rattle.tk_packer.proofs.table.PackTable.forget.Goals as goal

pub returns-clause-masters : goal.returns-clause-masters
returns-clause-masters c = λ master.
    ap (λ own. slaves_of master own.packs) c.take_out.ensures.own
    ∙ slaves_of-without master c.args.win.number (own_of c.args.win.owner c.args.self.now).packs
