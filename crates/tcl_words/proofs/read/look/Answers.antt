use Rattle.std.proofs.Common.{ap, sym, get_or}
use Rattle.tcl_words.proofs.Steps.{stands_at}
use Rattle.tcl_words.proofs.read.look.Goals as goal

pub returns-clause-stands : goal.returns-clause-stands
returns-clause-stands c =
    stands_at c.args.source.now c.args.at (get_or c.as_bytes-bytes.result.now c.args.at 0) c.kind_at.result c.utf8.source c.requires.within c.requires.short
    (ap (λ t. get_or t c.args.at 0) (sym c.as_bytes-bytes.ensures.value)) c.kind_at.ensures.ascii c.kind_at.ensures.expansion c.kind_at.ensures.continuation
