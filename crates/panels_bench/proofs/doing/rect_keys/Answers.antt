use Rattle.std.proofs.Common.{ap}
use Rattle.panels_bench.specs.Gestures.{rect_keys}
use Rattle.panels_text.specs.Words.{words_of}
use Rattle.panels_bench.proofs.doing.rect_keys.Goals as goal

pub returns : goal.returns
unfolding rect_keys
returns c = ap words_of c.as_slice.ensures
