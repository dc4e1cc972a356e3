-- Meaning. When a bench isn't played, and in which entry. Memory may be refused anywhere.
use Rattle.std.specs.Prelude.{◌≡◌, ℕ, ◌+◌, ◌⊎◌, List, [], ◌∷◌, Option, None, Some, Result, Ok, Err}
use Rattle.tk_route.specs.Refusals.{IsFirst, NoneApplies}
use Rattle.tk_route.specs.declared.fault.HostFault.{HostFault}
use Rattle.tk_route.specs.declared.fault.HostFault.TheVariants as hosts
use Rattle.tk_route.specs.declared.fault.LineFault.{LineFault}
use Rattle.tk_route.specs.declared.line.HostLine.{HostLine}
use Rattle.tk_app.specs.Seen.{Meaning}
use Rattle.tk_host.specs.Held.{held_after}
use Rattle.tk_host.specs.Refusals.{RefusesLine, RefusesMoment, line_faults, moment_faults}
use Rattle.tk_session.specs.Session.{HasFault, IsSession, Plan}
use Rattle.tk_session.specs.Writing.{text_of}
use Rattle.tk_session.specs.declared.writing.WritingFault.{WritingFault}
use Rattle.tk_session.specs.declared.writing.WritingFault.TheVariants as writing
use Rattle.panels.specs.declared.bench.Act.{Act}
use Rattle.panels.specs.declared.bench.Act.TheVariants.{Do, See}
use Rattle.panels.specs.declared.bench.Bench.{Bench}
use Rattle.panels.specs.declared.bench.Entry.{Entry}
use Rattle.panels.specs.declared.pane.Miss.{Miss}
use Rattle.panels.specs.declared.playing.BenchFault.{BenchFault}
use Rattle.panels.specs.declared.playing.BenchFault.TheVariants.{NoSession, Refused, Unserved, NoMemory}
use Rattle.panels.specs.Course.{Way, advanced, begun, course_of, entered, handed, section_at, slot_of}
use Rattle.panels.specs.Gestures.{outcome_of}
use Rattle.panels.specs.Played.{plan_of}

-- ---- memory

-- memory was refused: to this panel, or it isn't known to which
abbrev pub unserved : Option ℕ → BenchFault
unserved None = NoMemory
unserved (Some slot) = Unserved slot

abbrev pub IsWantOfMemory : BenchFault → Type 0
IsWantOfMemory (NoSession why) = ⊥
IsWantOfMemory (Refused entry fault) = ⊥
IsWantOfMemory (Unserved slot) = Unit {0}
IsWantOfMemory NoMemory = Unit {0}

-- ---- sessions

-- its text is a session that says it
abbrev pub IsSayable : Plan → Type 0
IsSayable plan = IsSession (text_of plan) plan

-- why a session isn't written: the first faulty line of its text, or that its text says another one
abbrev pub IsUnsaid : Plan → WritingFault → Type 0
IsUnsaid plan (writing.Refused fault line) = HasFault (text_of plan) fault line
IsUnsaid plan writing.Unlike = ¬ IsSayable plan
IsUnsaid plan writing.NoMemory = Unit {0}

-- nothing is refused but that this isn't a session
abbrev pub UnsaidBy : Plan → BenchFault → Type 0
UnsaidBy plan (NoSession why) = IsUnsaid plan why
UnsaidBy plan (Refused entry fault) = ⊥
UnsaidBy plan (Unserved slot) = Unit {0}
UnsaidBy plan NoMemory = Unit {0}

-- ---- entries

-- what the host refuses in an entry, and which panel asked for memory, where it is want of memory
abbrev pub fault_in : ℕ → Option ℕ → HostFault → BenchFault
fault_in entry asker (hosts.Refused fault) = Refused entry fault
fault_in entry asker hosts.NoMemory = unserved asker

-- nothing is refused but this of an entry
abbrev pub OfEntry : (LineFault → Type 0) → ℕ → BenchFault → Type 0
OfEntry Refuses entry (NoSession why) = ⊥
OfEntry Refuses entry (Refused number fault) = (number ≡ entry) × Refuses fault
OfEntry Refuses entry (Unserved slot) = Unit {0}
OfEntry Refuses entry NoMemory = Unit {0}

module _ {M : Type 0} (answer : M → Meaning) where
  -- the host takes lines of one moment, one after another
  abbrev pub TakesLines : ℕ → List HostLine → Way M → Type 0
  TakesLines moment [] way = Unit {0}
  TakesLines moment (line ∷ lines) way =
      NoneApplies (RefusesLine (held_after answer way.calls) moment line) line_faults × TakesLines moment lines (handed (record { moment = moment; line = line }) way)

  -- it takes them up to one that it refuses with this fault
  abbrev pub RefusesLines : ℕ → List HostLine → Way M → LineFault → Type 0
  RefusesLines moment [] way fault = ⊥
  RefusesLines moment (line ∷ lines) way fault =
      IsFirst (RefusesLine (held_after answer way.calls) moment line) line_faults fault
      ⊎ NoneApplies (RefusesLine (held_after answer way.calls) moment line) line_faults × RefusesLines moment lines (handed (record { moment = moment; line = line }) way) fault

  -- the same of the lines of a gesture
  abbrev pub TakesOutcome : ℕ → Result (List HostLine) Miss → Way M → Type 0
  TakesOutcome moment (Ok lines) way = TakesLines moment lines way
  TakesOutcome moment (Err miss) way = Unit {0}

  abbrev pub RefusesOutcome : ℕ → Result (List HostLine) Miss → Way M → LineFault → Type 0
  RefusesOutcome moment (Ok lines) way fault = RefusesLines moment lines way fault
  RefusesOutcome moment (Err miss) way fault = ⊥

  -- what comes of a gesture in a panel that shows this now
  abbrev pub TakesAct : ℕ → Act → Way M → Type 0
  TakesAct moment (Do gesture) way = TakesOutcome moment (outcome_of gesture way.rects way.keys way.pointer (section_at answer way.calls (slot_of gesture))) way
  TakesAct moment (See slot looks) way = Unit {0}

  abbrev pub RefusesAct : ℕ → Act → Way M → LineFault → Type 0
  RefusesAct moment (Do gesture) way fault = RefusesOutcome moment (outcome_of gesture way.rects way.keys way.pointer (section_at answer way.calls (slot_of gesture))) way fault
  RefusesAct moment (See slot looks) way fault = ⊥

  -- an entry: its moment, and then what it says
  abbrev pub TakesEntry : Entry → Way M → Type 0
  TakesEntry entry way =
      NoneApplies (RefusesMoment (held_after answer way.calls) entry.moment) moment_faults × TakesAct entry.moment entry.act (advanced entry.moment way)

  abbrev pub RefusesEntry : Entry → Way M → LineFault → Type 0
  RefusesEntry entry way fault =
      IsFirst (RefusesMoment (held_after answer way.calls) entry.moment) moment_faults fault
      ⊎ NoneApplies (RefusesMoment (held_after answer way.calls) entry.moment) moment_faults × RefusesAct entry.moment entry.act (advanced entry.moment way) fault

  -- the entries from a number on
  abbrev pub TakesAll : ℕ → List Entry → Way M → Type 0
  TakesAll number [] way = Unit {0}
  TakesAll number (entry ∷ entries) way = TakesEntry entry way × TakesAll (number + 1) entries (entered answer number entry way)

  -- they are taken up to the one of this number, which is refused with this fault
  abbrev pub RefusesAt : ℕ → List Entry → Way M → ℕ → LineFault → Type 0
  RefusesAt number [] way at fault = ⊥
  RefusesAt number (entry ∷ entries) way at fault =
      (at ≡ number) × RefusesEntry entry way fault ⊎ TakesEntry entry way × RefusesAt (number + 1) entries (entered answer number entry way) at fault

  abbrev pub RefusedAmong : ℕ → List Entry → Way M → BenchFault → Type 0
  RefusedAmong number entries way (NoSession why) = ⊥
  RefusedAmong number entries way (Refused at fault) = RefusesAt number entries way at fault
  RefusedAmong number entries way (Unserved slot) = Unit {0}
  RefusedAmong number entries way NoMemory = Unit {0}

  -- Why a bench isn't played, in this order: its panels are no session; the first entry that the host refuses; its panels and the lines that its gestures
  -- became are no session with its end.
  abbrev pub IsRefused : Bench → List (List (List ℕ × M)) → BenchFault → Type 0
  IsRefused bench lists (NoSession why) =
      IsUnsaid (plan_of bench []) why
      ⊎ IsSayable (plan_of bench []) × TakesAll 0 bench.entries.items (begun bench.panels.items lists) × IsUnsaid (plan_of bench (course_of answer bench lists).events) why
  IsRefused bench lists (Refused entry fault) = IsSayable (plan_of bench []) × RefusesAt 0 bench.entries.items (begun bench.panels.items lists) entry fault
  IsRefused bench lists (Unserved slot) = Unit {0}
  IsRefused bench lists NoMemory = Unit {0}
