use Rattle.std.proofs.Common.{◌≡◌, drop}
use Rattle.panels_film.specs.Screens.{holding, pixel}
use Rattle.panels_film.proofs.screens.first_extent.Given as goal

abbrev pub invariant-loop-panel : goal.invariant-loop-panel
invariant-loop-panel l = holding (drop l.panel-index l.panels) l.extent ≡ holding l.panels pixel
