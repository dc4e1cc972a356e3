use Rattle.std.proofs.Common.{◌≡◌, take, map}
use Rattle.tkhost.specs.Play.{services_in}
use Rattle.tkhost.proofs.services.services_of.Given as goal

abbrev pub invariant-loop-app : goal.invariant-loop-app
invariant-loop-app g l = l.lists.items ≡ map services_in (take l.app-index l.session.apps)
