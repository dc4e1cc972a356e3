use Rattle.std.proofs.lemmas.Result.{err_from_is_err_and}
use Rattle.tk_host.proofs.Cut.{cut_by_line, cut_short_by}
use Rattle.tk_host.proofs.host.Host.line.Goals as goal

pub returns-in_err-may_take-clause-refused : goal.returns-in_err-may_take-clause-refused
returns-in_err-may_take-clause-refused g c =
    let p = err_from_is_err_and c.from_residual.result c.from_residual.ensures.1 in rw (p.1, p.2) c.in_err-may_take.ensures.answer

pub tested_line-requires : goal.tested_line-requires
tested_line-requires g c = record { begun = c.requires; tested = c.in_ok-may_take.ensures.answer }

pub returns-in_err-tested_line-clause-refused : goal.returns-in_err-tested_line-clause-refused
returns-in_err-tested_line-clause-refused g c =
    let p = err_from_is_err_and c.from_residual-in_err-tested_line.result c.from_residual-in_err-tested_line.ensures.1 in rw (p.1, p.2) c.in_ok-may_take.ensures.answer

pub returns-in_err-tested_line-clause-cut : goal.returns-in_err-tested_line-clause-cut
returns-in_err-tested_line-clause-cut g c = λ calls held. (let told = c.in_err-tested_line.ensures.cut calls held in cut_by_line _ _ c.args.self.now _ told.0 told.1)

pub returns-in_err-may_take-clause-cut : goal.returns-in_err-may_take-clause-cut
returns-in_err-may_take-clause-cut g c = λ calls held.
    let p = err_from_is_err_and c.from_residual.result c.from_residual.ensures.1 in rw (p.1, p.2) tt

pub returns-in_err-tested_line-clause-cut_short : goal.returns-in_err-tested_line-clause-cut_short
returns-in_err-tested_line-clause-cut_short g c = λ first earlier known. cut_short_by _ _ c.args.self.now _ (c.in_err-tested_line.ensures.cut_short first earlier known)

pub returns-in_err-may_take-clause-cut_short : goal.returns-in_err-may_take-clause-cut_short
returns-in_err-may_take-clause-cut_short g c = λ first earlier known.
    let p = err_from_is_err_and c.from_residual.result c.from_residual.ensures.1 in rw (p.1, p.2) tt
