use Rattle.std.proofs.Common.{ap}
use Rattle.panels_bench.specs.Sights.{keys, panel_keys, window_keys}
use Rattle.panels_text.specs.Words.{words_of}
use Rattle.panels_bench.proofs.seeing.known_keys.Goals as goal

pub returns : goal.returns
unfolding keys panel_keys window_keys
returns c = ap words_of c.as_slice.ensures
