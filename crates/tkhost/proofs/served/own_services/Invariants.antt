use Rattle.std.proofs.Common.{◌≡◌, take, map}
use Rattle.tkhost.specs.Play.{services_in}
use Rattle.tkhost.proofs.served.own_services.Given as goal

abbrev pub invariant-loop-app : goal.invariant-loop-app
invariant-loop-app l = l.lists.items ≡ map services_in (take l.app-index l.session.apps)
