-- Meaning. Names of panels, and lines of a session in its own words.
use Rattle.std.specs.Prelude.{ℕ, List, [], ◌∷◌, ◌++◌, slice_get, Option, Some, None}
use Rattle.tk_route.specs.declared.line.HostLine.{HostLine}
use Rattle.tk_session.specs.Writing.{fields_with}
use Rattle.tk_session.specs.declared.session.AppBlock.{AppBlock}

abbrev pub name_in : Option AppBlock → List ℕ
name_in None = []
name_in (Some panel) = panel.name

-- the name of the panel in a slot: empty where there is none
abbrev pub name_at : List AppBlock → ℕ → List ℕ
name_at panels slot = name_in (slice_get panels slot)

-- the fields of a line behind its moment
abbrev pub line_fields : List AppBlock → HostLine → List (List ℕ)
line_fields panels line = fields_with (name_at panels) line

-- fields with a blank between two
abbrev pub spaced : List (List ℕ) → List ℕ
spaced [] = []
spaced (field ∷ []) = field
spaced (field ∷ other ∷ fields) = field ++ 32 ∷ spaced (other ∷ fields)

-- a line without its moment: its fields with a blank between two
abbrev pub line_words : List AppBlock → HostLine → List ℕ
line_words panels line = spaced (line_fields panels line)
