use Rattle.std.proofs.Common.{arith}
use Rattle.std.proofs.lemmas.Grind.{common_steps}
use Rattle.tk_patterns.proofs.CopyLemmas.{length_all_copies}
use Rattle.tk_patterns.proofs.copies.count_of.Goals as goal

pub returns : goal.returns
returns c = grind (arith, common_steps, length_all_copies c.args.patterns.now)
