use Rattle.std.proofs.Common.{take}
use Rattle.std.specs.Prelude.{All}
use Rattle.panels_film.specs.Pages.{IsPictured}
use Rattle.panels_film.proofs.pages.push_frames.Given as goal

-- the pictures of those up to the index stand in it
abbrev pub invariant-loop-frame : goal.invariant-loop-frame
invariant-loop-frame l = All (IsPictured l.panels l.events l.page.items) (take l.frame-index l.frames)
