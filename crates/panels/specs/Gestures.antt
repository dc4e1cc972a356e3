-- Meaning. What a person does, as lines of a session.
use Rattle.std.specs.Prelude.{ℕ, zero, suc, ◌+◌, ◌-◌, ◌/◌, min, Bool, false, not, ◌&&◌, ◌==◌, nat_le, if◌then◌else◌, List, [], ◌∷◌, ◌++◌, Option, Some, None, Result, Ok, Err, slice_get}
use Rattle.std.specs.Option.{unwrap_or}
use Rattle.tk_base.specs.declared.rect.Rect.{Rect}
use Rattle.tk_route.specs.declared.line.HostLine.{HostLine}
use Rattle.tk_route.specs.declared.line.HostLine.TheVariants.{Move, Press, Release, Focus}
use Rattle.panels.specs.declared.bench.Gesture.{Gesture}
use Rattle.panels.specs.declared.bench.Gesture.TheVariants.{Pointer, Keys, Lines}
use Rattle.panels.specs.declared.bench.Pointing.{Pointing}
use Rattle.panels.specs.declared.bench.Touch.{Touch}
use Rattle.panels.specs.declared.bench.Touch.TheVariants as touches
use Rattle.panels.specs.declared.gesture.Outcome.{Outcome}
use Rattle.panels.specs.declared.gesture.Outcome.TheVariants as outcomes
use Rattle.panels.specs.declared.screen.Spot.{Spot}
use Rattle.panels.specs.declared.pane.Landing.{Landing}
use Rattle.panels.specs.declared.pane.Landing.TheVariants.{At, Missed}
use Rattle.panels.specs.declared.pane.Miss.{Miss}
use Rattle.panels.specs.declared.pane.Miss.TheVariants.{NoKeyboard}
use Rattle.panels.specs.declared.pane.Point.{Point}
use Rattle.panels.specs.Panes.{landing_at, windows_in}

-- what a button does where the pointer has come to
abbrev pub touched : Touch → ℕ → List HostLine
touched touches.Move button = []
touched touches.Press button = Press button ∷ []
touched touches.Release button = Release button ∷ []
touched touches.Click button = Press button ∷ Release button ∷ []
touched touches.DoubleClick button = Press button ∷ Release button ∷ Press button ∷ Release button ∷ []

-- the rectangle of the panel in a slot; one pixel where there is none
abbrev pub rect_at : List Rect → ℕ → Rect
rect_at rects slot = unwrap_or (slice_get rects slot) (record { x = 0; y = 0; width = 1; height = 1 })

-- a point of a panel on the screen, no farther than the pointer goes
abbrev pub placed : Rect → Point → Spot
placed rect point = record { x = min (rect.x + point.x) 65535; y = min (rect.y + point.y) 65535 }

abbrev pub moved : Spot → HostLine
moved spot = Move spot.x spot.y

-- where a move comes from one place on the way to another, where so many are left with it: it goes its share of what is left of the way
abbrev pub nearer : ℕ → ℕ → ℕ → ℕ
nearer from to left = if nat_le from to then from + (to - from) / left else from - (from - to) / left

abbrev pub spot_nearer : Spot → Spot → ℕ → Spot
spot_nearer from to left = record { x = nearer from.x to.x left; y = nearer from.y to.y left }

-- the moves from one place to another but the last, where there are so many with it
abbrev pub passing : Spot → Spot → ℕ → List HostLine
passing from to zero = []
passing from to (suc zero) = []
passing from to (suc (suc left)) = moved (spot_nearer from to (suc (suc left))) ∷ passing (spot_nearer from to (suc (suc left))) to (suc left)

-- so many moves bring the pointer to a place: only the last where it has come nowhere yet
abbrev pub way_to : Spot → ℕ → Option Spot → List HostLine
way_to to moves None = moved to ∷ []
way_to to moves (Some from) = passing from to moves ++ moved to ∷ []

abbrev pub has_keys : ℕ → Option ℕ → Bool
has_keys slot None = false
has_keys slot (Some other) = other == slot

-- a panel is given the keyboard, where it is to have it and hasn't
abbrev pub focusing : Bool → ℕ → Option ℕ → List HostLine
focusing takes slot keys = if takes && not (has_keys slot keys) then Focus (Some slot) ∷ [] else []

abbrev pub pointed : Pointing → List Rect → Option ℕ → Option Spot → Point → List HostLine
pointed pointing rects keys pointer point =
    way_to (placed (rect_at rects pointing.target.slot) point) pointing.moves pointer
    ++ (focusing pointing.takes_keys pointing.target.slot keys ++ touched pointing.touch pointing.button)

-- the lines of what becomes of a gesture, or why it hits nothing
abbrev pub told_by : Outcome → Result (List HostLine) Miss
told_by (outcomes.Lines lines) = Ok lines.items
told_by (outcomes.Missed miss) = Err miss

abbrev pub landed : Pointing → List Rect → Option ℕ → Option Spot → Landing → Result (List HostLine) Miss
landed pointing rects keys pointer (At point) = Ok (pointed pointing rects keys pointer point)
landed pointing rects keys pointer (Missed miss) = Err miss

abbrev pub outcome_at : Pointing → List Rect → Option ℕ → Option Spot → List (List ℕ) → Result (List HostLine) Miss
outcome_at pointing rects keys pointer windows = landed pointing rects keys pointer (landing_at pointing.target windows)

abbrev pub if_keyed : Option ℕ → List HostLine → Result (List HostLine) Miss
if_keyed None lines = Err NoKeyboard
if_keyed (Some slot) lines = Ok lines

-- What becomes of a gesture where the panels have these rectangles, this one the keyboard, the pointer is here, and the panel that it is for has this section.
abbrev pub outcome_of : Gesture → List Rect → Option ℕ → Option Spot → List ℕ → Result (List HostLine) Miss
outcome_of (Pointer pointing) rects keys pointer section = outcome_at pointing rects keys pointer (windows_in section)
outcome_of (Keys lines) rects keys pointer section = if_keyed keys lines.items
outcome_of (Lines lines) rects keys pointer section = Ok lines.items
