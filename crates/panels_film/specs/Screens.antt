-- Meaning. What is known of a screen by the lines that came.
use Rattle.std.specs.Prelude.{◌+◌, max, List, [], ◌∷◌}
use Rattle.tk_base.specs.declared.rect.Rect.{Rect}
use Rattle.tk_route.specs.declared.line.HostLine.{HostLine}
use Rattle.tk_route.specs.declared.line.HostLine.TheVariants.{Rect as Placed}
use Rattle.tk_session.specs.declared.session.AppBlock.{AppBlock}
use Rattle.tk_session.specs.declared.session.EventLine.{EventLine}
use Rattle.panels_film.specs.declared.screens.Extent.{Extent}
pub use Rattle.panels.specs.Screens.{Known, at_first, came, known, taken}

-- behind lines, one after another
abbrev pub after : List EventLine → Known → Known
after [] before = before
after (event ∷ events) before = after events (taken event.line before)

-- ---- its size

-- a width and a height that hold a rectangle too
abbrev pub grown : Rect → Extent → Extent
grown rect extent = record { width = max extent.width (rect.x + rect.width); height = max extent.height (rect.y + rect.height) }

-- .. and what a line places
abbrev pub placed : HostLine → Extent → Extent
placed (Placed slot rect) extent = grown rect extent
placed line extent = extent

abbrev pub pixel : Extent
pixel = record { width = 1; height = 1 }

abbrev pub holding : List AppBlock → Extent → Extent
holding [] extent = extent
holding (panel ∷ panels) extent = holding panels (grown panel.rect extent)

abbrev pub holding_lines : List EventLine → Extent → Extent
holding_lines [] extent = extent
holding_lines (event ∷ events) extent = holding_lines events (placed event.line extent)
