-- Meaning. What a panel shows beside other neighbours.
use Rattle.std.specs.Prelude.{◌≡◌, ℕ, if◌then◌else◌, List, [], ◌∷◌, ◌++◌, map, codes, Some, slice_get}
use Rattle.std.specs.Option.{unwrap_or}
use Rattle.std.specs.Str.{bytes_eq}
use Rattle.tk_session.specs.declared.session.AppBlock.{AppBlock}
use Rattle.tk_session.specs.declared.session.EventLine.{EventLine}
use Rattle.tkhost.specs.Sections.{program_sections}
use Rattle.panels.specs.Beside.{beside}
use Rattle.panels.specs.Verdict.{sections_in}
use Rattle.panels.specs.declared.bench.Bench.{Bench}
use Rattle.panels.specs.declared.isolation.Neighbours.{Neighbours}
use Rattle.panels.specs.declared.isolation.Neighbours.TheVariants.{Blank, Endless}
use Rattle.panels.specs.declared.playing.Played.{Played}
use Rattle.panels_film.specs.Scenes.{section_in}
use Rattle.panels_text.specs.Differences.{differences}

-- a name that a panel hasn't
abbrev pub other_name : List ℕ → List ℕ
other_name name = if bytes_eq name (codes "neighbour") then codes "neighbour2" else codes "neighbour"

-- a neighbour for a panel that has none, in the farthest pixel of the screen
abbrev pub far_neighbour : AppBlock → AppBlock
far_neighbour panel =
    record { name = other_name panel.name; rect = record { x = 32767; y = 32767; width = 1; height = 1 }; budget = record { total = 0; refill = 0 }; aliases = []; script = [] }

abbrev pub accompanied : List AppBlock → List AppBlock
accompanied [] = []
accompanied (panel ∷ []) = panel ∷ far_neighbour panel ∷ []
accompanied (panel ∷ other ∷ others) = panel ∷ other ∷ others

-- the section of the panel in a slot, where the others are such neighbours and the lines are these
abbrev pub section_beside : Neighbours → Bench → List EventLine → ℕ → List ℕ
section_beside neighbours bench events slot =
    unwrap_or (slice_get (sections_in (program_sections (record { apps = beside neighbours (Some slot) (accompanied bench.panels.items); events = events; end = bench.end }))) slot) []

-- it shows the same alone and beside neighbours that never end
pub record IsUndisturbed (bench : Bench) (played : Played) (slot : ℕ) : Type 0 where
  pub alone_is : section_in played.sections.items slot ≡ section_beside Blank bench played.events.items slot
  pub beside_is : section_in played.sections.items slot ≡ section_beside Endless bench played.events.items slot

-- what it shows otherwise somewhere, in words
abbrev pub there_words : List ℕ → List ℕ → List ℕ
there_words there difference = there ++ (codes " it shows something else: " ++ difference)

abbrev pub different : List ℕ → List ℕ → List ℕ → List (List ℕ)
different there own other = if bytes_eq own other then [] else map (there_words there) (differences own other)

-- what a panel shows otherwise alone, and then beside neighbours that never end
abbrev pub disturbances : Bench → Played → ℕ → List (List ℕ)
disturbances bench played slot =
    different (codes "alone") (section_in played.sections.items slot) (section_beside Blank bench played.events.items slot)
    ++ different (codes "beside endless neighbours") (section_in played.sections.items slot) (section_beside Endless bench played.events.items slot)
