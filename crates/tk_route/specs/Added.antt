-- Meaning. What an application adds to a screen that nobody leads anything to.
use Rattle.std.specs.Prelude.{◌≡◌, ◌≢◌, ℕ, zero, suc, false, List, [], ◌∷◌, map, Some}
use Rattle.tk_base.specs.declared.rect.Rect.{Rect}
use Rattle.tk_route.specs.Lines.{Line, at}
use Rattle.tk_route.specs.Screen.{holds}
use Rattle.tk_route.specs.declared.line.HostLine.{HostLine}
use Rattle.tk_route.specs.declared.line.HostLine.TheVariants.{Move, Focus, Rect as Placed}

-- the line leaves alone who has this slot and this rectangle: it doesn't lead the pointer into the rectangle, and doesn't name the slot
abbrev pub PassesBy : ℕ → Rect → HostLine → Type 0
PassesBy slot rect (Move x y) = holds rect (record { x = x; y = y }) ≡ false
PassesBy slot rect (Focus (Some other)) = other ≢ slot
PassesBy slot rect (Placed other moved) = other ≢ slot
PassesBy slot rect line = Unit {0}

abbrev pub AllPassBy : ℕ → Rect → List Line → Type 0
AllPassBy slot rect [] = Unit {0}
AllPassBy slot rect (line ∷ earlier) = PassesBy slot rect line.line × AllPassBy slot rect earlier

-- ---- an application that comes in before others

-- the slot of another application once one has come in at a place: those from the place on move up by one
abbrev pub up : ℕ → ℕ → ℕ
up zero slot = suc slot
up (suc place) zero = zero
up (suc place) (suc slot) = suc (up place slot)

-- a line once an application has come in at a place, and a list of them
abbrev pub line_up : ℕ → HostLine → HostLine
line_up place (Focus (Some slot)) = Focus (Some (up place slot))
line_up place (Placed slot rect) = Placed (up place slot) rect
line_up place line = line

abbrev pub lines_up : ℕ → List Line → List Line
lines_up place lines = map (λ line. at line.moment (line_up place line.line)) lines

-- the line doesn't lead the pointer into the rectangle
abbrev pub Misses : Rect → HostLine → Type 0
Misses rect (Move x y) = holds rect (record { x = x; y = y }) ≡ false
Misses rect line = Unit {0}

abbrev pub AllMiss : Rect → List Line → Type 0
AllMiss rect [] = Unit {0}
AllMiss rect (line ∷ earlier) = Misses rect line.line × AllMiss rect earlier
