use Rattle.std.proofs.Common.{subst}
use Rattle.std.proofs.lemmas.Result.{err_from_is_err_and}
use Rattle.tk_route.specs.Refusals.{IsFirst, Refuses, line_faults}
use Rattle.tk_route.specs.Values.{Values}
use Rattle.tk_route.proofs.router.Router.line.Goals as goal

pub returns-in_err-test_line-clause-refused : goal.returns-in_err-test_line-clause-refused
returns-in_err-test_line-clause-refused c =
    let p = err_from_is_err_and c.from_residual.result c.from_residual.ensures.1 in
    let fault = c.in_err-test_line.field-0.0 in
    let inside = c.self.inside in
    rw (p.1, p.2)
    (subst (λ (v : Values). IsFirst (Refuses v.rects v.moment c.args.moment c.args.line) line_faults fault) c.self.view_is
    (subst (λ rects. IsFirst (Refuses rects inside.moment c.args.moment c.args.line) line_faults fault) c.as_slice.ensures c.in_err-test_line.ensures))
