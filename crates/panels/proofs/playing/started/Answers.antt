use Rattle.std.proofs.lemmas.Result.{err_from_is_err_and}
use Rattle.panels.proofs.playing.started.Goals as goal

pub returns-in_err-host-clause-memory : goal.returns-in_err-host-clause-memory
returns-in_err-host-clause-memory g c =
    let p = err_from_is_err_and c.from_residual.result c.from_residual.ensures.1 in rw (p.1, p.2) tt
