-- Meaning. The blocks of a session that comes line by line.
use Rattle.std.specs.Prelude.{◌≡◌, ℕ, ◌-◌, ◌==◌, nat_lt, MatchBool, List, [], ◌∷◌, ◌++◌, length, codes, Option, None, Some, option_and_then}
use Rattle.std.specs.Str.{bytes_eq}
use Rattle.std.specs.String.{string_bytes}
use Rattle.panels_film.specs.Numbers.{number_in}
use Rattle.panels_text.specs.Texts.{behind}
use Rattle.tk_route.specs.declared.fault.LineFault.{LineFault}
use Rattle.tk_session.specs.Session.{HasFault, IsSession, Plan}
use Rattle.panels_report.specs.declared.blocks.Blocks.{Blocks}
use Rattle.panels_report.specs.declared.blocks.Taken.{Taken}
use Rattle.panels_report.specs.declared.blocks.Taken.TheVariants.{Silent, Accepted, Refused, Begun}

-- what came so far: whole blocks, the heading in front of them; the lines of a block before its script; those of its script, and how many of these are to come
pub record Parts : Type 0 where
  pub front : List ℕ
  pub block : List ℕ
  pub script : List ℕ
  pub wanted : ℕ

abbrev pub parts : Blocks → Parts
parts blocks = record { front = string_bytes blocks.front; block = string_bytes blocks.block; script = string_bytes blocks.script; wanted = blocks.wanted }

abbrev pub none : Parts
none = record { front = []; block = []; script = []; wanted = 0 }

-- ---- the session that a line would belong to, were it the last that says anything

-- behind the heading
abbrev pub closing : List ℕ → List ℕ
closing line = line ++ codes "\nevents\n0 end\n"

-- behind the first lines of a block, whose script is empty
abbrev pub opened : List ℕ → Parts → List ℕ
opened line parts = parts.front ++ (parts.block ++ (line ++ codes "\nscript 0\nevents\n0 end\n"))

-- behind a whole block
abbrev pub ended : Parts → List ℕ
ended parts = (parts.front ++ (parts.block ++ parts.script)) ++ codes "events\n0 end\n"

-- behind the blocks
abbrev pub begun : Parts → List ℕ
begun parts = parts.front ++ (parts.block ++ codes "events\n0 end\n")

-- ---- what comes of a line

-- where the text that it makes is a session, it is accepted, else refused, and one of these stays
abbrev pub IsTaken : List ℕ → Parts → Parts → Parts → Taken → Type 0
IsTaken text accepted refused after Silent = ⊥
IsTaken text accepted refused after Accepted = ((plan : Plan) × IsSession text plan) × (after ≡ accepted)
IsTaken text accepted refused after (Refused words) = ((fault : LineFault) × (line : ℕ) × HasFault text fault line) × (after ≡ refused)
IsTaken text accepted refused after (Begun session) = ⊥

abbrev pub with_front : List ℕ → Parts → Parts
with_front line parts = record parts { front = parts.front ++ line ++ 10 ∷ [] }

abbrev pub with_head : List ℕ → Parts → Parts
with_head line parts = record parts { block = parts.block ++ line ++ 10 ∷ [] }

-- the block is one of the whole ones
abbrev pub with_block : Parts → Parts
with_block parts = record { front = parts.front ++ (parts.block ++ parts.script); block = []; script = []; wanted = parts.wanted }

-- it is gone
abbrev pub without_block : Parts → Parts
without_block parts = record { front = parts.front; block = []; script = []; wanted = parts.wanted }

-- the blocks are a session, which begins; or they are none
abbrev pub IsBeginning : List ℕ → Taken → Type 0
IsBeginning text Silent = ⊥
IsBeginning text Accepted = (plan : Plan) × IsSession text plan
IsBeginning text (Refused words) = (fault : LineFault) × (line : ℕ) × HasFault text fault line
IsBeginning text (Begun session) = IsSession text session

-- a line that is refused leaves the whole blocks, and one behind which the panels begin changes nothing
abbrev pub MayStay : Parts → Parts → Taken → Type 0
MayStay before after Silent = after.front ≡ before.front
MayStay before after Accepted = Unit {0}
MayStay before after (Refused words) = after.front ≡ before.front
MayStay before after (Begun session) = (after ≡ before) × IsSession (begun before) session

-- ---- a line by what came before it

-- how many lines of a script a line counts
abbrev pub count_in : List ℕ → Option ℕ
count_in line = option_and_then number_in (behind (codes "script ") line)

-- a line of a script, behind which so many more come
abbrev pub with_script : List ℕ → ℕ → Parts → Parts
with_script line wanted parts = record { front = parts.front; block = parts.block; script = parts.script ++ line ++ 10 ∷ []; wanted = wanted }

-- nothing is told of a line, which is kept
abbrev pub IsKept : Parts → Parts → Taken → Type 0
IsKept expected after Silent = after ≡ expected
IsKept expected after Accepted = ⊥
IsKept expected after (Refused words) = ⊥
IsKept expected after (Begun session) = ⊥

-- the block ends with the last line of its script
abbrev pub IsScript : ℕ → Parts → Parts → Taken → Type 0
IsScript left parts after taken = MatchBool (left == 0) (IsTaken (ended parts) (with_block parts) (without_block parts) after taken) (IsKept parts after taken)

-- a line in front of a block's script counts its lines, and stands with them; where there is no block, it is none that may stand there
abbrev pub IsCount : List ℕ → ℕ → Parts → Parts → Taken → Type 0
IsCount line count before after taken =
    MatchBool (length before.block == 0)
    (IsTaken (opened line before) (with_head line before) before after taken)
    (IsScript count (with_script line count before) after taken)

abbrev pub IsLine : List ℕ → Option ℕ → Parts → Parts → Taken → Type 0
IsLine line None before after taken = IsTaken (opened line before) (with_head line before) before after taken
IsLine line (Some count) before after taken = IsCount line count before after taken

-- What comes of a line: of a script, where lines of one are to come; else of the heading, where it hasn't come; else the session of the blocks begins, or it
-- is a line of a block.
abbrev pub Takes : List ℕ → Parts → Parts → Taken → Type 0
Takes line before after taken =
    MatchBool (nat_lt 0 before.wanted)
    (IsScript (before.wanted - 1) (with_script line (before.wanted - 1) before) after taken)
    (MatchBool (length before.front == 0)
    (IsTaken (closing line) (with_front line before) before after taken)
    (MatchBool (bytes_eq line (codes "events"))
    ((after ≡ before) × IsBeginning (begun before) taken)
    (IsLine line (count_in line) before after taken)))
