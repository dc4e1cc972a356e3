use Rattle.std.proofs.Common.{List, length, ap, arith}
use Rattle.tk_session.specs.declared.session.AppBlock.{AppBlock}
use Rattle.tkhost.proofs.Serving.{all_serve}
use Rattle.tkhost.proofs.services.services_of.Goals as goal

pub returns-clause-serve : goal.returns-clause-serve
returns-clause-serve g c =
    all_serve c.args.session.now.apps c.loop-app.app-index c.loop-app.lists.items c.loop-app.invariant
    (omega (arith, c.loop-app-test.false, ap (λ (apps : List AppBlock). length apps) c.apps-app-items.ensures.apps))
