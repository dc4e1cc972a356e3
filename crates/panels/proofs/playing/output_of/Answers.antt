use Rattle.std.proofs.lemmas.Result.{err_from_is_err_and}
use Rattle.panels.proofs.playing.output_of.Goals as goal

pub returns-in_err-aliases-clause-memory : goal.returns-in_err-aliases-clause-memory
returns-in_err-aliases-clause-memory c =
    let p = err_from_is_err_and c.from_residual.result c.from_residual.ensures.1 in rw (p.1, p.2) tt
