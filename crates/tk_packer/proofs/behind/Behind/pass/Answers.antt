use Rattle.std.proofs.Common.{arith}
use Rattle.tk_packer.proofs.Tallies.{passed, none_earlier}
use Rattle.tk_packer.proofs.behind.Behind.pass.Goals as goal

pub returns-in_default : goal.returns-in_default
returns-in_default c = λ ask later were. none_earlier _ _ _ ask later were (omega (arith, c.in_default.ensures.cases.0))

pub returns : goal.returns
returns c = λ ask later were. passed _ _ _ _ _ _ ask later c.in-Some.ensures.items c.pop_narrow.ensures were
