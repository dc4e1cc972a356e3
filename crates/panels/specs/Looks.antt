-- Meaning. What a panel tells, and what isn't as it has to be.
use Rattle.std.specs.Prelude.{ℕ, ◌+◌, Bool, true, false, not, ◌&&◌, ◌==◌, nat_le, nat_lt, min, if◌then◌else◌, List, [], ◌∷◌, length, codes, Option, Some, None, slice_get}
use Rattle.std.specs.List.{list_any}
use Rattle.std.specs.Str.{bytes_eq}
use Rattle.std.specs.String.{string_bytes}
use Rattle.tk_base.specs.declared.rect.Rect.{Rect}
use Rattle.panels.specs.declared.bench.Fact.{Fact}
use Rattle.panels.specs.declared.bench.Fact.TheVariants.{There, Text, Class, Place, Mapped}
use Rattle.panels.specs.declared.bench.Look.{Look}
use Rattle.panels.specs.declared.bench.Look.TheVariants.{Asked, Window, Says, HasError, State, LeastSteps, Waiting}
use Rattle.panels.specs.declared.finding.Finding.{Finding}
use Rattle.panels.specs.declared.finding.Found.{Found}
use Rattle.panels.specs.declared.finding.Found.TheVariants.{Unseen}
use Rattle.panels.specs.Asked.{Told, is_alike, told_by}
use Rattle.panels.specs.Panes.{index_of, is_mapped, windows_in}
use Rattle.panels.specs.Words.{after, front, lines_with, number_at, word}

-- the place of a window in its parent
abbrev pub is_place : Rect → List ℕ → Bool
is_place place line =
    number_at 3 line == place.x && (number_at 4 line == place.y && (number_at 5 line == place.width && number_at 6 line == place.height))

abbrev pub is_same : Bool → Bool → Bool
is_same true wanted = wanted
is_same false wanted = not wanted

-- what the line of a window tells: none where it isn't there
abbrev pub is_fact_of : Fact → List ℕ → Bool
is_fact_of (There wanted) line = wanted
is_fact_of (Text text) line = bytes_eq (after 8 line) (string_bytes text)
is_fact_of (Class class) line = bytes_eq (word 2 line) (string_bytes class)
is_fact_of (Place place) line = is_place place line
is_fact_of (Mapped wanted) line = is_same (is_mapped line) wanted

abbrev pub is_absent : Fact → Bool
is_absent (There wanted) = not wanted
is_absent (Text text) = false
is_absent (Class class) = false
is_absent (Place place) = false
is_absent (Mapped wanted) = false

abbrev pub is_fact : Fact → Option (List ℕ) → Bool
is_fact fact None = is_absent fact
is_fact fact (Some line) = is_fact_of fact line

abbrev pub line_at : Option ℕ → List (List ℕ) → Option (List ℕ)
line_at None lines = None
line_at (Some index) lines = slice_get lines index

-- the line of the window with a path
abbrev pub window_line : List ℕ → List ℕ → Option (List ℕ)
window_line path section = line_at (index_of path (windows_in section)) (windows_in section)

-- a line of a transcript has this text behind its moment
abbrev pub is_told : List ℕ → List (List ℕ) → Bool
is_told text lines = list_any (λ line. bytes_eq (after 2 line) text) lines

-- how many timers and idle scripts wait
abbrev pub waiting_in : List ℕ → ℕ
waiting_in section = min (length (lines_with (codes "timer") section) + length (lines_with (codes "idle") section)) 18446744073709551615

-- `app NAME STATE STEPS_LEFT`
abbrev pub head_of : List ℕ → List ℕ
head_of section = front 10 section

-- whether a panel with this section tells what it is to, where it answers this to the look
abbrev pub is_seen : Look → Told → List ℕ → Bool
is_seen (Asked question wanted) answer section = is_alike (told_by wanted) answer
is_seen (Window path fact) answer section = is_fact fact (window_line (string_bytes path) section)
is_seen (Says text) answer section = is_told (string_bytes text) (lines_with (codes "out") section)
is_seen (HasError wanted) answer section = is_same (nat_lt 0 (length (lines_with (codes "err") section))) wanted
is_seen (State state) answer section = bytes_eq (word 2 (head_of section)) (string_bytes state)
is_seen (LeastSteps least) answer section = nat_le least (number_at 3 (head_of section))
is_seen (Waiting wanted) answer section = waiting_in section == wanted

-- what is told of a finding: its entry, what it is, and the panel's section and its answer at that moment
pub record ToldFinding : Type 0 where
  pub entry : ℕ
  pub found : Found
  pub section : List ℕ
  pub answer : Told

abbrev pub told : Finding → ToldFinding
told finding = record { entry = finding.entry; found = finding.found; section = finding.section.items; answer = told_by finding.answer }

module _ (answer_to : Look → Told) where
  -- the looks from a number on that a panel with this section doesn't tell, which answers so
  abbrev pub unseen_from : ℕ → ℕ → List Look → List ℕ → List ToldFinding
  unseen_from entry number [] section = []
  unseen_from entry number (look ∷ looks) section =
      if is_seen look (answer_to look) section then unseen_from entry (number + 1) looks section
      else record { entry = entry; found = Unseen number; section = section; answer = answer_to look } ∷ unseen_from entry (number + 1) looks section
