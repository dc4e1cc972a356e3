use Rattle.panels_bench.proofs.StandLemmas.{stands-find}
use Rattle.panels_bench.proofs.spots.find.Goals as goal

pub returns : goal.returns
returns c = stands-find c.args.wanted.now c.args.text.now c.find.result c.find.ensures.cases
