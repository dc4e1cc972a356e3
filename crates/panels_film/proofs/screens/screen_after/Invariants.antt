use Rattle.std.proofs.Common.{◌≡◌, drop}
use Rattle.panels_film.specs.Screens.{after, at_first, known}
use Rattle.panels_film.proofs.screens.screen_after.Given as goal

abbrev pub invariant-loop-event : goal.invariant-loop-event
invariant-loop-event l = after (drop l.event-index l.events) (known l.screen) ≡ after l.events (at_first l.panels)
