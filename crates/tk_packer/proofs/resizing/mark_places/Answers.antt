use Rattle.std.proofs.Common.{inr}
use Rattle.tk_packer.proofs.resizing.mark_places.Goals as goal

pub returns-then-lies_alike-clause-waits : goal.returns-then-lies_alike-clause-waits
returns-then-lies_alike-clause-waits c = inr (c.lies_alike.ensures c.if-lies_alike.true)
