use Rattle.std.proofs.Common.{rules}
use Rattle.tcl_text.proofs.GlobPieces.{passes_boundary, passes_front, passes_cut}
use Rattle.tcl_text.proofs.glob.plain_front.Goals as goal

pub split_at-requires : goal.split_at-requires
split_at-requires c = passes_boundary c.args.pattern.now c.behind_plain-rest.result.now c.behind_plain-rest.ensures (search rules)

pub returns-clause-plain : goal.returns-clause-plain
returns-clause-plain c = passes_front c.args.pattern.now c.behind_plain-rest.result.now c.split_at.result.0.now c.behind_plain-rest.ensures c.utf8.pattern (search rules) c.split_at.ensures.front

pub returns-clause-cut : goal.returns-clause-cut
returns-clause-cut c = passes_cut c.args.pattern.now c.behind_plain-rest.result.now c.split_at.result.0.now c.split_at.result.1.now c.behind_plain-rest.ensures c.utf8.pattern (search rules) c.split_at.ensures.front c.split_at.ensures.back
