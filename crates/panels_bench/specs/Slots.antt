-- Meaning. Which panel a line of a session or a finding is of.
use Rattle.std.specs.Prelude.{ℕ, ◌+◌, ◌-◌, nat_le, if◌then◌else◌, List, [], ◌∷◌, length, Option, Some, None, slice_get}
use Rattle.panels.specs.declared.bench.Act.{Act}
use Rattle.panels.specs.declared.bench.Act.TheVariants.{Do, See}
use Rattle.panels.specs.declared.bench.Bench.{Bench}
use Rattle.panels.specs.declared.bench.Entry.{Entry}
use Rattle.panels.specs.declared.bench.Gesture.{Gesture}
use Rattle.panels.specs.declared.bench.Gesture.TheVariants.{Pointer, Keys, Lines}
use Rattle.panels.specs.declared.finding.Finding.{Finding}
use Rattle.panels_text.specs.Places.{count_breaks}
use Rattle.tk_session.specs.declared.session.AppBlock.{AppBlock}

-- how many lines of a session a panel takes: its own, one for each alias, that which counts its script's, and those
abbrev pub line_count : AppBlock → ℕ
line_count panel = length panel.aliases + 3 + count_breaks panel.script

-- the slot of the panel that has the line of this number among those of the panels: as many as there are panels where none has it
abbrev pub slot_among : ℕ → List AppBlock → ℕ
slot_among number [] = 0
slot_among number (panel ∷ panels) = if nat_le number (line_count panel) then 0 else slot_among (number - line_count panel) panels + 1

-- the same of a line of the session, whose first line is none of a panel
abbrev pub slot_at : List AppBlock → ℕ → ℕ
slot_at panels line = slot_among (line - 1) panels

abbrev pub slot_of_gesture : Gesture → Option ℕ
slot_of_gesture (Pointer pointing) = Some pointing.target.slot
slot_of_gesture (Keys lines) = None
slot_of_gesture (Lines lines) = None

abbrev pub slot_of_act : Act → Option ℕ
slot_of_act (Do gesture) = slot_of_gesture gesture
slot_of_act (See slot looks) = Some slot

abbrev pub slot_in : Option Entry → Option ℕ
slot_in None = None
slot_in (Some entry) = slot_of_act entry.act

-- the slot of the panel that a finding's entry is for, if it is for one
abbrev pub slot_of_finding : Bench → Finding → Option ℕ
slot_of_finding bench finding = slot_in (slice_get bench.entries.items finding.entry)
