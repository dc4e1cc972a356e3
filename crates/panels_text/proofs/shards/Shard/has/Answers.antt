use Rattle.std.proofs.Common.{◌%◌, arith}
use Rattle.std.proofs.lemmas.Bool.Decides.{nat_tests}
use Rattle.panels_text.proofs.shards.Shard.has.Goals as goal

pub returns-else-self-eq0-clause-somewhere : goal.returns-else-self-eq0-clause-somewhere
returns-else-self-eq0-clause-somewhere c = λ some. (c.args.number % c.args.self.count, omega arith, grind (arith, nat_tests))
