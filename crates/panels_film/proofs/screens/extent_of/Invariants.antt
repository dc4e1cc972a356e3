use Rattle.std.proofs.Common.{◌≡◌, drop}
use Rattle.panels_film.specs.Screens.{holding, holding_lines, pixel}
use Rattle.panels_film.proofs.screens.extent_of.Given as goal

abbrev pub invariant-loop-event : goal.invariant-loop-event
invariant-loop-event l = holding_lines (drop l.event-index l.events) l.extent ≡ holding_lines l.events (holding l.panels pixel)
