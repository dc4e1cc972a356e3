use Rattle.tk_host.proofs.UsedBySettle.{all_within}
use Rattle.tk_route.specs.Routes.{routed}
use Rattle.tk_session.specs.Session.{newest_first, rects_of}
use Rattle.tkhost.specs.Play.{specs_of}
use Rattle.tkhost.proofs.laws.session_within.Goals as goal

pub returns : goal.returns
returns g c = λ update is_update settle meets plan lists.
    all_within g.M.AliasMeaning.answer update is_update settle meets (specs_of plan.apps lists) (routed (rects_of plan.apps) (newest_first plan.events)) plan.end
