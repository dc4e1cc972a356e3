use Rattle.std.proofs.Common.{map}
use Rattle.tkhost.specs.Play.{services_in}
use Rattle.panels_film.specs.Films.{begun}
use Rattle.panels_film.proofs.film.frame_at.Goals as goal

pub returns-clause-shown : goal.returns-clause-shown
returns-clause-shown c = c.frame_of.ensures.shown (begun c.args.session.now (map services_in c.args.session.now.apps)) (rw c.in_ok-live.ensures at c.live_panels.ensures)
