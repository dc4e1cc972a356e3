-- Steps. A part of a text, by where it stands.
use Rattle.std.specs.Prelude.{ℕ, ◌≤◌, List, length}
use Rattle.std.specs.List.{slice_range}
use Rattle.std.specs.Str.{IsCharBoundary}
use Rattle.tcl_words.specs.Places.{Stretch}

abbrev pub part_at : List ℕ → Stretch → List ℕ
part_at whole place = slice_range whole place.start place.end

-- the text can be cut there
pub record IsPart (whole : List ℕ) (place : Stretch) : Type 0 where
  pub ordered : place.start ≤ place.end
  pub within : place.end ≤ length whole
  pub begins : IsCharBoundary whole place.start
  pub ends : IsCharBoundary whole place.end
