use Rattle.std.proofs.lemmas.Result.{err_from_is_err_and}
use Rattle.panels.specs.Played.{plan_of}
use Rattle.panels.proofs.Refused.{memory_unsaid}
use Rattle.panels.proofs.playing.sections_with.Goals as goal

pub returns-in_err-output-clause-refused : goal.returns-in_err-output-clause-refused
returns-in_err-output-clause-refused c =
    let p = err_from_is_err_and c.from_residual-in_err-output.result c.from_residual-in_err-output.ensures.1 in
    rw (p.1, p.2) (memory_unsaid (plan_of c.args.bench.now c.args.events.now) _ c.in_err-output.ensures.memory)
