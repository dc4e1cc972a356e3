-- Meaning. Which bindings run: panels are played again, and their scripts note it in their transcripts.
use Rattle.std.specs.Prelude.{◌≡◌, ℕ, ◌+◌, ◌⊎◌, ◌==◌, nat_lt, if◌then◌else◌, List, [], ◌∷◌, ◌++◌, length, map, drop, Option, None, Some, option_map, option_and_then}
use Rattle.std.specs.List.{after_first, before_first, filter_map, position_or_len}
use Rattle.std.specs.Option.{unwrap_or}
use Rattle.std.specs.String.{string_bytes}
use Rattle.tcl_text.specs.Limits.{most_bytes}
use Rattle.tk_alias.specs.Services.{answer_of}
use Rattle.tk_alias.specs.declared.service.Service.{Service}
use Rattle.tk_app.specs.Seen.{Meaning}
use Rattle.tk_host.specs.Held.{Call}
use Rattle.tk_route.specs.declared.fault.LineFault.{LineFault}
use Rattle.tk_session.specs.Session.{HasFault, IsSession, Plan}
use Rattle.tk_session.specs.Writing.{text_of as session_text}
use Rattle.tk_session.specs.declared.session.AppBlock.{AppBlock}
use Rattle.tk_session.specs.declared.session.EventLine.{EventLine}
use Rattle.tkhost.specs.Play.{services_in}
use Rattle.panels.specs.Course.{section_at}
use Rattle.panels_film.specs.Films.{begun, handed, reached}
use Rattle.panels_film.specs.Numbers.{number_in}
use Rattle.panels_film.specs.declared.bindings.TheConstants.{NOTE, NOTING}
use Rattle.panels_film.specs.declared.bindings.Ran.{Ran}
use Rattle.panels_text.specs.Texts.{behind as behind_front, lines_of, text_of}

-- ---- panels that note

-- what notes stands in front of a script that has room for it
abbrev pub noting_script : List ℕ → List ℕ
noting_script script = if nat_lt most_bytes (length (NOTING.now ++ script)) then script else NOTING.now ++ script

-- the panel has steps for the notes
abbrev pub noting : AppBlock → AppBlock
noting panel = record panel { budget = record { total = 10000000; refill = 0 }; script = noting_script panel.script }

abbrev pub noting_plan : Plan → Plan
noting_plan session = record { apps = map noting session.apps; events = session.events; end = session.end }

-- ---- transcripts

-- what stands before and behind the first blank of a text
abbrev pub cut : List ℕ → Option (List ℕ × List ℕ)
cut text = if nat_lt (position_or_len (λ byte. byte == 32) text) (length text) then Some (before_first (λ byte. byte == 32) text, after_first (λ byte. byte == 32) text) else None

-- what a note tells: its moment, and the binding
pub record Noted : Type 0 where
  pub moment : ℕ
  pub words : List ℕ

abbrev pub noted : ℕ → List ℕ → Noted
noted moment words = record { moment = moment; words = words }

-- a line of a transcript that is a note: behind its first word a moment, and behind that a text with a note's beginning
abbrev pub note_at : List ℕ → List ℕ → Option Noted
note_at moment text = option_map (noted (unwrap_or (number_in moment) 0)) (behind_front NOTE.now text)

abbrev pub note_in : List ℕ → Option Noted
note_in line = option_and_then (λ (parts : List ℕ × List ℕ). option_and_then (λ (rest : List ℕ × List ℕ). note_at rest.0 rest.1) (cut parts.1)) (cut line)

-- the notes of a text, and of a section
abbrev pub notes_among : List ℕ → List Noted
notes_among text = filter_map note_in (lines_of text)

abbrev pub notes_in : List ℕ → List Noted
notes_in section = notes_among (text_of section)

-- ---- bindings

-- a binding that ran: of the panel in a slot, at a moment, after so many lines
pub record Told : Type 0 where
  pub slot : ℕ
  pub moment : ℕ
  pub count : ℕ
  pub words : List ℕ

abbrev pub told : Ran → Told
told ran = record { slot = ran.slot; moment = ran.moment; count = ran.count; words = string_bytes ran.words }

abbrev pub ran_by : ℕ → ℕ → Noted → Told
ran_by slot count noted = record { slot = slot; moment = noted.moment; count = count; words = noted.words }

-- what the panels from a slot on have noted by these sections, since each had noted so many; and how many each has noted
module _ (section_of : ℕ → List ℕ) (count : ℕ) where
  abbrev pub ran_since : ℕ → List ℕ → List Told
  ran_since slot [] = []
  ran_since slot (known ∷ others) = map (ran_by slot count) (drop known (notes_in (section_of slot))) ++ ran_since (slot + 1) others

abbrev pub known_by : (ℕ → List ℕ) → ℕ → List ℕ → List ℕ
known_by section_of slot [] = []
known_by section_of slot (known ∷ others) = length (notes_in (section_of slot)) ∷ known_by section_of (slot + 1) others

module _ {M : Type 0} (answer : M → Meaning) where
  -- what ran on the way to a line and at it, where so many lines had come before it, and behind it
  abbrev pub ran_at : List (Call M) → ℕ → ℕ → List ℕ → EventLine → List Told
  ran_at calls before behind known event =
      ran_since (section_at answer (reached calls event.moment)) before 0 known
      ++ ran_since (section_at answer (handed calls event)) behind 0 (known_by (section_at answer (reached calls event.moment)) 0 known)

  abbrev pub known_at : List (Call M) → List ℕ → EventLine → List ℕ
  known_at calls known event = known_by (section_at answer (handed calls event)) 0 (known_by (section_at answer (reached calls event.moment)) 0 known)

  -- at lines one after another, and from the last of them on up to the end
  abbrev pub ran_from : List (Call M) → ℕ → List ℕ → List EventLine → ℕ → List Told
  ran_from calls count known [] end = ran_since (section_at answer (reached calls end)) count 0 known
  ran_from calls count known (event ∷ events) end = ran_at calls count (count + 1) known event ++ ran_from (handed calls event) (count + 1) (known_at calls known event) events end

-- none of these has noted anything
abbrev pub none_known : List AppBlock → List ℕ
none_known panels = map (λ (panel : AppBlock). 0) panels

-- the text of a plan has a fault, or says another one
abbrev pub IsNone : Plan → Type 0
IsNone plan = ((fault : LineFault) × (line : ℕ) × HasFault (session_text plan) fault line) ⊎ (¬ IsSession (session_text plan) plan)

abbrev pub ran_of : Plan → List Told
ran_of plan =
    ran_from (λ (service : Service). answer_of service.kind service.config) (begun plan (map services_in plan.apps)) 0 (none_known plan.apps) plan.events plan.end

-- what ran in a session: what its panels noted as they were played once more, or nothing, where panels that note are no session
abbrev pub IsRan : Plan → List Told → Type 0
IsRan session ran = let plan = noting_plan session in (IsSession (session_text plan) plan × (ran ≡ ran_of plan)) ⊎ (IsNone plan × (ran ≡ []))
