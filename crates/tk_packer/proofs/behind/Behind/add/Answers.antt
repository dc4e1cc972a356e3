use Rattle.tk_packer.proofs.Tallies.{added}
use Rattle.tk_packer.proofs.behind.Behind.add.Goals as goal

pub returns : goal.returns
returns c = λ later were. added _ _ _ _ _ _ _ later c.with-tally.ensures c.in_ok-push.ensures.items c.in_ok-push_narrow.ensures were
