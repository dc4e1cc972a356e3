use Rattle.std.proofs.Common.{◌≡◌, ◌++◌, drop, map}
use Rattle.panels.specs.Shapes.{Drawn, shown}
use Rattle.panels_film.specs.Looks.{look_of, told}
use Rattle.panels_film.proofs.looks.looks_at.Given as goal

-- those that were told, and those that are left, are all
abbrev pub invariant-loop-window : goal.invariant-loop-window
invariant-loop-window g l =
    map told l.looks.items ++ map (λ (window : Drawn). look_of l.slot l.live.held window.path) (map shown (drop l.window-index l.windows))
    ≡ map (λ (window : Drawn). look_of l.slot l.live.held window.path) (map shown l.windows)
