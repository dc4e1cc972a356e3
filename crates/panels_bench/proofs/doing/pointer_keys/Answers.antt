use Rattle.std.proofs.Common.{ap}
use Rattle.panels_bench.specs.Gestures.{pointer_keys}
use Rattle.panels_text.specs.Words.{words_of}
use Rattle.panels_bench.proofs.doing.pointer_keys.Goals as goal

pub returns : goal.returns
unfolding pointer_keys
returns c = ap words_of c.as_slice.ensures
