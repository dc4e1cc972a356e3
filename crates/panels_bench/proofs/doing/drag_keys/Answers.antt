use Rattle.std.proofs.Common.{ap}
use Rattle.panels_bench.specs.Gestures.{drag_keys}
use Rattle.panels_text.specs.Words.{words_of}
use Rattle.panels_bench.proofs.doing.drag_keys.Goals as goal

pub returns : goal.returns
unfolding drag_keys
returns c = ap words_of c.as_slice.ensures
