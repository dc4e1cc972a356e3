-- Meaning. What the tables of `[[do]]` and `[[see]]` say that happens on a bench.
use Rattle.std.specs.Prelude.{◌≡◌, ℕ, ◌+◌, ◌≤◌, Bool, ◌&&◌, ◌||◌, nat_le, if◌then◌else◌, List, [], ◌∷◌, ◌++◌, map, codes, slice_get, is_some, Option, Some, None, option_map, IfSome}
use Rattle.std.specs.List.Sorted.{IsPermutation, IsSortedByKey, IsStableByKey}
use Rattle.std.specs.Ordering.{nat_cmp}
use Rattle.tk_session.specs.Reading.{◌>>=◌}
use Rattle.tk_session.specs.declared.session.AppBlock.{AppBlock}
use Rattle.toml.specs.Data.{Members, get_member}
use Rattle.toml.specs.View.{table_view}
use Rattle.panels.specs.declared.bench.Act.{Act}
use Rattle.panels.specs.declared.bench.Act.TheVariants.{Do, See}
use Rattle.panels.specs.declared.bench.Entry.{Entry}
use Rattle.panels_bench.specs.Gestures.{Deed, deed, deeds_in}
use Rattle.panels_bench.specs.Sights.{Sight, sight, sights_in}
use Rattle.panels_bench.specs.Values.{number_if, onto}
use Rattle.panels_bench.specs.declared.reading.Placed.{Placed}
use Rattle.panels_text.specs.Tables.{IsEntry, line, number_in, tables_of, value_of, values_of}
use Rattle.panels_text.specs.declared.table.Part.{Part}

-- ---- moments

-- the largest moment, in milliseconds
abbrev pub most_moment : ℕ
most_moment = 1000000000000

-- the moment of an entry: by `time`, or by `after` from that of the entry above; that of the end where neither is said, and none where both are
abbrev pub moment_of : ℕ → ℕ → Option ℕ → Option ℕ → Option ℕ
moment_of before end None None = Some end
moment_of before end (Some time) None = Some time
moment_of before end None (Some after) = Some (before + after)
moment_of before end (Some time) (Some after) = None

abbrev pub number_at : Part → List ℕ → Option ℕ
number_at part key = number_in most_moment (value_of part key)

-- no moment is before that of the entry above, and none behind the end
abbrev pub IsMoment : Part → ℕ → ℕ → ℕ → Type 0
IsMoment part before end moment =
    (moment_of before end (number_at part (codes "time")) (number_at part (codes "after")) ≡ Some moment) × (before ≤ moment) × (moment ≤ end)

abbrev pub if_between : ℕ → ℕ → ℕ → Option ℕ
if_between before end moment = if nat_le before moment && nat_le moment end then Some moment else None

-- the moment of a table, where its values are numbers and it is none of those: else there is none
abbrev pub moment_in : ℕ → ℕ → Members → Option ℕ
moment_in before end members = do
  time ← number_if most_moment (get_member (codes "time") members)
  after ← number_if most_moment (get_member (codes "after") members)
  moment ← moment_of before end time after
  if_between before end moment

-- of what is done it has to be said
abbrev pub has_moment : Members → Bool
has_moment members = is_some (get_member (codes "time") members) || is_some (get_member (codes "after") members)

abbrev pub moment_of_deed : ℕ → ℕ → Members → Option ℕ
moment_of_deed before end members = if has_moment members then moment_in before end members else None

-- ---- what happens

pub data Happens : Type 0 where
  Does : Deed → Happens
  Sees : ℕ → List Sight → Happens

abbrev pub happens : Act → Happens
happens (Do gesture) = Does (deed gesture)
happens (See slot looks) = Sees slot (map sight looks.items)

-- what happens, and when, and in which line of the bench it stands
pub record Happening : Type 0 where
  pub line : ℕ
  pub moment : ℕ
  pub act : Happens

abbrev pub happening : Placed → Happening
happening placed = record { line = placed.line; moment = placed.entry.moment; act = happens placed.entry.act }

abbrev pub does : ℕ → ℕ → Deed → Happening
does line moment deed = record { line = line; moment = moment; act = Does deed }

abbrev pub sees : ℕ → ℕ → ℕ × List Sight → Happening
sees line moment seen = record { line = line; moment = moment; act = Sees seen.0 seen.1 }

module _ (panels : List AppBlock) where
  -- what is done at a moment by a table
  abbrev pub deeds_of : ℕ → Part → Option (List Happening)
  deeds_of moment part = option_map (λ deeds. map (does (line part []) moment) deeds) (deeds_in panels (table_view part.table.now))

  -- what is seen at a moment by one
  abbrev pub sights_of : ℕ → Part → Option (List Happening)
  sights_of moment part = option_map (λ seen. sees (line part []) moment seen ∷ []) (sights_in panels (table_view part.table.now))

  -- what is done, table by table, up to an end and from a moment on
  abbrev pub deeds_from : ℕ → ℕ → List Part → Option (List Happening)
  deeds_from end before [] = Some []
  deeds_from end before (part ∷ parts) = moment_of_deed before end (table_view part.table.now) >>= λ moment. onto (deeds_of moment part) (deeds_from end moment parts)

  -- what is seen
  abbrev pub sights_from : ℕ → ℕ → List Part → Option (List Happening)
  sights_from end before [] = Some []
  sights_from end before (part ∷ parts) = moment_in before end (table_view part.table.now) >>= λ moment. onto (sights_of moment part) (sights_from end moment parts)

-- ---- the entries of a bench

-- in the order of the moments, and at the same moment in their own
pub record IsInOrder (placed sorted : List Placed) : Type 0 where
  pub all : IsPermutation placed sorted
  pub ascending : IsSortedByKey (λ (own : Placed). own.entry.moment) nat_cmp sorted
  pub stable : IsStableByKey (λ (own : Placed). own.entry.moment) nat_cmp placed sorted

-- the tables of an array, each with its number
pub record AreTables (root : Part) (array : List ℕ) (parts : List Part) : Type 0 where
  pub tables : tables_of (values_of (value_of root array)) ≡ Some (map (λ part. table_view part.table.now) parts)
  pub places : (index : ℕ) → IfSome (slice_get parts index) (IsEntry root array index)

-- what is done, and then what is seen, in the order of the moments: the line of each, and what it is
pub record AreEntries (root : Part) (panels : List AppBlock) (end : ℕ) (lines : List ℕ) (entries : List Entry) : Type 0 where
  pub deeds : List Part
  pub sights : List Part
  pub placed : List Placed
  pub sorted : List Placed
  pub done : AreTables root (codes "do") deeds
  pub seen : AreTables root (codes "see") sights
  pub said : onto (deeds_from panels end 0 deeds) (sights_from panels end 0 sights) ≡ Some (map happening placed)
  pub order : IsInOrder placed sorted
  pub numbers : lines ≡ map (λ (own : Placed). own.line) sorted
  pub acts : entries ≡ map (λ (own : Placed). own.entry) sorted
