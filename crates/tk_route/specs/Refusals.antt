-- Meaning. Which lines are refused, and with which fault.
use Rattle.std.specs.Prelude.{◌≡◌, ℕ, ◌<◌, ◌≤◌, ◌⊎◌, Bool, true, false, IsTrue, nat_le, List, [], ◌∷◌, length, Some}
use Rattle.tk_base.specs.Limits.{last_moment}
use Rattle.tk_base.specs.Rect.{last_place}
use Rattle.tk_base.specs.declared.rect.Rect.{Rect}
use Rattle.tk_route.specs.Limits.{most_applications}
use Rattle.tk_route.specs.Screen.{IsOnScreen, are_apart, shares_with_another}
use Rattle.tk_route.specs.declared.fault.LineFault.{LineFault}
use Rattle.tk_route.specs.declared.fault.LineFault.TheVariants.{Overlap, TimeBack, BadLine, NoApp, TooManyApps, RectOverlap}
use Rattle.tk_route.specs.declared.line.HostLine.{HostLine}
use Rattle.tk_route.specs.declared.line.HostLine.TheVariants.{Move, Press, Release, Focus, Rect as Placed}

-- ---- the order of faults

-- the first of these faults that applies is this one
abbrev pub IsFirst : (LineFault → Type 0) → List LineFault → LineFault → Type 0
IsFirst Applies [] found = ⊥
IsFirst Applies (fault ∷ faults) found = (Applies fault × (found ≡ fault)) ⊎ (¬ Applies fault × IsFirst Applies faults found)

abbrev pub NoneApplies : (LineFault → Type 0) → List LineFault → Type 0
NoneApplies Applies [] = Unit {0}
NoneApplies Applies (fault ∷ faults) = ¬ Applies fault × NoneApplies Applies faults

-- ---- rectangles

-- which rectangles are refused: those that share a pixel, before those that are too many
abbrev pub RefusesRects : List Rect → LineFault → Type 0
RefusesRects rects Overlap = are_apart rects ≡ false
RefusesRects rects TooManyApps = (are_apart rects ≡ true) × (most_applications < length rects)
RefusesRects rects fault = ⊥

-- ---- lines

-- the line's numbers lie in the ranges of a session
abbrev pub IsInRange : HostLine → Type 0
IsInRange (Move x y) = (x ≤ last_place) × (y ≤ last_place)
IsInRange (Press button) = (1 ≤ button) × (button ≤ 5)
IsInRange (Release button) = (1 ≤ button) × (button ≤ 5)
IsInRange (Placed slot rect) = IsOnScreen rect
IsInRange line = Unit {0}

-- the line names a slot that has no application
abbrev pub names_nobody : List Rect → HostLine → Bool
names_nobody rects (Focus (Some slot)) = nat_le (length rects) slot
names_nobody rects (Placed slot rect) = nat_le (length rects) slot
names_nobody rects line = false

abbrev pub NamesNobody : List Rect → HostLine → Type 0
NamesNobody rects line = IsTrue (names_nobody rects line)

-- the line's rectangle shares a pixel with another's
abbrev pub covers : List Rect → HostLine → Bool
covers rects (Placed slot rect) = shares_with_another rects slot rect
covers rects line = false

abbrev pub Covers : List Rect → HostLine → Type 0
Covers rects line = IsTrue (covers rects line)

-- what applies to a line at a moment, where another moment is reached and the applications have these rectangles
abbrev pub Refuses : List Rect → ℕ → ℕ → HostLine → LineFault → Type 0
Refuses rects reached moment line BadLine = ¬ ((moment ≤ last_moment) × IsInRange line)
Refuses rects reached moment line TimeBack = moment < reached
Refuses rects reached moment line NoApp = NamesNobody rects line
Refuses rects reached moment line RectOverlap = Covers rects line
Refuses rects reached moment line fault = ⊥

-- the order in which they are looked at: what the line says by itself, and what it says beside the lines before it
abbrev pub faults_beside : List LineFault
faults_beside = TimeBack ∷ NoApp ∷ RectOverlap ∷ []

abbrev pub line_faults : List LineFault
line_faults = BadLine ∷ faults_beside
