use Rattle.std.proofs.Common.{map}
use Rattle.tkhost.specs.Play.{services_in}
use Rattle.panels_film.specs.Films.{begun}
use Rattle.panels_film.proofs.bindings.ran_in.Goals as goal

pub returns : goal.returns
returns c = c.ran_of.ensures (begun c.args.session.now (map services_in c.args.session.now.apps)) (rw c.in_ok-live.ensures at c.live_panels.ensures)
