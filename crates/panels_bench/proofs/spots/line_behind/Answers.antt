use Rattle.std.proofs.Common.{◌+◌, ap, arith, ◌∙◌}
use Rattle.panels_bench.proofs.StandLemmas.{line_within}
use Rattle.panels_text.specs.Places.{line_at}
use Rattle.panels_bench.proofs.spots.line_behind.Goals as goal

pub returns : goal.returns
returns c = c.line_at.ensures ∙ (ap (line_at c.args.text.now) c.saturating_add.ensures ∙ line_within c.args.text.now 18446744073709551615 (c.args.at + c.args.byte) (omega arith))
