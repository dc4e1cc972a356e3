use Rattle.std.proofs.Common.{◌≡◌, take}
use Rattle.panels_film.specs.Bindings.{none_known}
use Rattle.panels_film.proofs.bindings.none_known.Given as goal

abbrev pub invariant-panels : goal.invariant-panels
invariant-panels l = l.known.items ≡ none_known (take l._panel-index l.panels)
