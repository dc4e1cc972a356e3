-- Meaning. What is known of a screen by the lines that came.
use Rattle.std.specs.Prelude.{ℕ, List, Option, Some, None}
use Rattle.tk_base.specs.declared.rect.Rect.{Rect}
use Rattle.tk_route.specs.Lines.{focus_by, rects_by}
use Rattle.tk_route.specs.declared.line.HostLine.{HostLine}
use Rattle.tk_route.specs.declared.line.HostLine.TheVariants.{Move}
use Rattle.tk_session.specs.Session.{rects_of}
use Rattle.tk_session.specs.declared.session.AppBlock.{AppBlock}
use Rattle.panels.specs.declared.screen.Screen.{Screen}
use Rattle.panels.specs.declared.screen.Spot.{Spot}

-- the panels' rectangles by their slots, which of them has the keyboard, and where the pointer is
pub record Known : Type 0 where
  pub rects : List Rect
  pub keys : Option ℕ
  pub pointer : Option Spot

abbrev pub known : Screen → Known
known screen = record { rects = screen.rects.items; keys = screen.keys; pointer = screen.pointer }

-- where the pointer is: where the latest move led it
abbrev pub came : HostLine → Option Spot → Option Spot
came (Move x y) before = Some (record { x = x; y = y })
came line before = before

-- behind a line
abbrev pub taken : HostLine → Known → Known
taken line before = record { rects = rects_by line before.rects; keys = focus_by line before.keys; pointer = came line before.pointer }

-- before the first line: the panels are where they say, and nothing else is known
abbrev pub at_first : List AppBlock → Known
at_first panels = record { rects = rects_of panels; keys = None; pointer = None }
