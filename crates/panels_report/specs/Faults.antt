-- Meaning. Why a bench isn't played.
use Rattle.std.specs.Prelude.{ℕ, List, codes, Option, None, Some, slice_get, unwrap_or}
use Rattle.tk_route.specs.declared.fault.LineFault.{LineFault}
use Rattle.tk_route.specs.declared.fault.LineFault.TheVariants as lines
use Rattle.tk_session.specs.declared.session.AppBlock.{AppBlock}
use Rattle.tk_session.specs.declared.writing.WritingFault.{WritingFault}
use Rattle.tk_session.specs.declared.writing.WritingFault.TheVariants as writing
use Rattle.panels.specs.declared.playing.BenchFault.{BenchFault}
use Rattle.panels.specs.declared.playing.BenchFault.TheVariants.{NoSession, Refused, Unserved, NoMemory}
use Rattle.panels_bench.specs.Slots.{slot_at}
use Rattle.panels_bench.specs.declared.reading.Read.{Read}
use Rattle.panels_bench.specs.declared.sides.Side.{Side}
use Rattle.panels_text.specs.Places.{IsFault, IsNoMemory, IsUnserved, fault_text}
use Rattle.panels_text.specs.declared.failure.Failure.{Failure}

abbrev pub IsMemoryOf : WritingFault → Type 0
IsMemoryOf (writing.Refused fault line) = ⊥
IsMemoryOf writing.Unlike = ⊥
IsMemoryOf writing.NoMemory = Unit {0}

-- memory was refused, and it isn't known to which panel
abbrev pub IsMemory : BenchFault → Type 0
IsMemory (NoSession why) = IsMemoryOf why
IsMemory (Refused entry fault) = ⊥
IsMemory (Unserved slot) = ⊥
IsMemory NoMemory = Unit {0}

-- why panels are no session, in words
abbrev pub words_of : LineFault → List ℕ
words_of lines.Overlap = codes "its rectangle shares a pixel with that of a panel above"
words_of lines.TimeBack = codes "its moment is before that of a line above"
words_of lines.BadLine =
    codes "a value is none that a session has: a name is a letter and then letters, digits and _, 32 at most; an alias's name is 1 to 64 printing characters and begins neither with . nor with ::; there are 64 aliases at most; a size is 1 or more"
words_of lines.NoApp = codes "no panel has this name"
words_of lines.TooManyApps = codes "it is the seventeenth panel: a bench has sixteen at most"
words_of lines.NameTaken = codes "its name, or that of one of its aliases, is taken"
words_of lines.Started = codes "the host refuses it"
words_of lines.Ended = codes "the host refuses it"
words_of lines.Broken = codes "the host refuses it"
words_of lines.RectOverlap = codes "the new rectangle shares a pixel with another panel"

-- the line of a bench that says a panel: 0 where there is none
abbrev pub side_line : Option Side → ℕ
side_line None = 0
side_line (Some side) = side.line

-- .. that says the panel with a line of its session
abbrev pub panel_line : Read → ℕ → ℕ
panel_line read line = side_line (slice_get read.sides.items (slot_at read.bench.panels.items line))

-- the line of a bench that says an entry
abbrev pub entry_line : Read → ℕ → ℕ
entry_line read entry = unwrap_or (slice_get read.lines.items entry) 0

-- memory was refused to the panel in a slot: its name is told
abbrev pub IsUnservedBy : Option AppBlock → Failure → Type 0
IsUnservedBy None failure = IsNoMemory failure
IsUnservedBy (Some panel) failure = IsUnserved panel.name failure

abbrev pub IsUnservedIn : List AppBlock → ℕ → Failure → Type 0
IsUnservedIn panels slot failure = IsUnservedBy (slice_get panels slot) failure

-- what is told of a session that isn't written: of its first faulty line the panel's, and what is wrong there
abbrev pub IsToldOf : List ℕ → Read → WritingFault → Failure → Type 0
IsToldOf file read (writing.Refused fault line) = IsFault (fault_text file (panel_line read line) (words_of fault))
IsToldOf file read writing.Unlike = IsFault (fault_text file 0 (codes "the configuration of an alias has a line feed, which a session hasn't"))
IsToldOf file read writing.NoMemory = IsNoMemory

-- what is told of a bench that isn't played: its file, the line that says the panel or the entry, and what is wrong there
abbrev pub IsTold : List ℕ → Read → BenchFault → Failure → Type 0
IsTold file read (NoSession why) = IsToldOf file read why
IsTold file read (Refused entry fault) = IsFault (fault_text file (entry_line read entry) (words_of fault))
IsTold file read (Unserved slot) = IsUnservedIn read.bench.panels.items slot
IsTold file read NoMemory = IsNoMemory
