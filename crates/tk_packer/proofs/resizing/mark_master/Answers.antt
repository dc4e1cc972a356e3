use Rattle.std.proofs.Common.{◌∙◌, sym}
use Rattle.tk_packer.proofs.Gets.{none_some}
use Rattle.tk_packer.proofs.resizing.mark_master.Goals as goal

pub returns-in-None-clause-waits : goal.returns-in-None-clause-waits
returns-in-None-clause-waits c = λ slot is. absurd (none_some slot (sym c.in-None.is ∙ c.slot_at.ensures.found slot is))
