use Rattle.std.proofs.Common.{ap}
use Rattle.panels_bench.specs.Gestures.{keys, ways}
use Rattle.panels_text.specs.Words.{words_of}
use Rattle.panels_bench.proofs.doing.known_keys.Goals as goal

pub returns : goal.returns
unfolding keys ways
returns c = ap words_of c.as_slice.ensures
