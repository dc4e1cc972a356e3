use Rattle.std.proofs.Common.{◌≡◌, codes, drop, map}
use Rattle.panels.specs.Shapes.{shown}
use Rattle.panels_film.specs.Getters.{highest}
use Rattle.panels_film.proofs.pointed.highest.Given as goal

abbrev pub invariant-loop-window : goal.invariant-loop-window
invariant-loop-window l = highest l.x l.y l.path (map shown (drop l.window-index l.windows)) ≡ highest l.x l.y (codes ".") (map shown l.windows)
