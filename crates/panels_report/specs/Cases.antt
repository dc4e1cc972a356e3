-- Meaning. The cases of a bench that was played, and their problems in words.
use Rattle.std.specs.Prelude.{◌≡◌, ℕ, ◌+◌, Bool, true, false, ◌==◌, List, [], ◌∷◌, ◌++◌, map, filter, codes, Option, None, Some, Vec, slice_get}
use Rattle.std.specs.String.{string_bytes}
use Rattle.tk_base.specs.declared.budget.Budget.{Budget}
use Rattle.tk_session.specs.declared.session.AppBlock.{AppBlock}
use Rattle.panels.specs.declared.bench.Bench.{Bench}
use Rattle.panels.specs.declared.finding.Finding.{Finding}
use Rattle.panels.specs.declared.playing.Played.{Played}
use Rattle.panels_bench.specs.Messages.{told as told_finding}
use Rattle.panels_bench.specs.Slots.{slot_of_finding}
use Rattle.panels_bench.specs.declared.reading.Read.{Read}
use Rattle.panels_bench.specs.declared.sides.Side.{Side}
use Rattle.panels_film.specs.Scenes.{section_in}
use Rattle.panels_text.specs.Lines.{name_at}
use Rattle.panels_text.specs.Texts.{text_of}
use Rattle.panels_text.specs.declared.cases.Case.{Case}
use Rattle.panels_report.specs.Ends.{error_words, has_run_out, spent_words, unwanted_error}
use Rattle.panels_report.specs.Expected.{unexpected}

-- a case: the bench's file, the panel, and what isn't as it has to be
pub record Told : Type 0 where
  pub bench : List ℕ
  pub panel : List ℕ
  pub problems : List (List ℕ)

abbrev pub told : Case → Told
told case = record { bench = string_bytes case.bench; panel = string_bytes case.panel; problems = map string_bytes case.problems.items }

abbrev pub case_of : List ℕ → List ℕ → List (List ℕ) → Told
case_of file name problems = record { bench = file; panel = name; problems = problems }

-- ---- how a panel ended

-- a problem, and below it where it comes from, where that is known
abbrev pub placed : List ℕ → Option (List ℕ) → List ℕ
placed words None = words
placed words (Some place) = words ++ (codes "\n      " ++ place)

-- an error is told, where there is one, with a place or none
abbrev pub IsError : Option (List ℕ) → List (List ℕ) → Type 0
IsError None problems = problems ≡ []
IsError (Some line) problems = (place : Option (List ℕ)) × (problems ≡ placed (error_words line) place ∷ [])

-- and that steps ran out, where they did
abbrev pub IsSpent : Budget → Bool → List (List ℕ) → Type 0
IsSpent budget false problems = problems ≡ []
IsSpent budget true problems = (place : Option (List ℕ)) × (problems ≡ placed (spent_words budget) place ∷ [])

abbrev pub AreEnds : Side → Budget → List ℕ → List (List ℕ) → Type 0
AreEnds side budget section problems =
    (errors : List (List ℕ)) × (spent : List (List ℕ)) × IsError (unwanted_error side section) errors × IsSpent budget (has_run_out side section) spent
    × (problems ≡ errors ++ spent)

-- ---- what was found

abbrev pub is_slot : Option ℕ → Option ℕ → Bool
is_slot None None = true
is_slot None (Some other) = false
is_slot (Some slot) None = false
is_slot (Some slot) (Some other) = slot == other

-- the findings of the panel in a slot, or of none
abbrev pub findings_of : Bench → Option ℕ → List Finding → List Finding
findings_of bench slot findings = filter (λ finding. is_slot (slot_of_finding bench finding) slot) findings

-- each in words
abbrev pub found_words : Read → Played → Option ℕ → List (List ℕ)
found_words read played slot = map (told_finding read.bench read.lines.items) (findings_of read.bench slot played.findings.items)

-- ---- cases

-- the text of an expected file that is there
abbrev pub text_in : {Z : Type 0} → Option (Option (Vec ℕ Z)) → Option (List ℕ)
text_in None = None
text_in (Some None) = None
text_in (Some (Some text)) = Some text.items

-- the problems of a panel: how it ended, what was found of it, and what differs from its expected file
abbrev pub AreProblems : Read → Played → ℕ → Side → Option (List ℕ) → Option AppBlock → List (List ℕ) → Type 0
AreProblems read played slot side wanted None problems = problems ≡ []
AreProblems read played slot side wanted (Some panel) problems =
    let section = section_in played.sections.items slot in
    (ends : List (List ℕ)) × AreEnds side panel.budget (text_of section) ends × (problems ≡ ends ++ (found_words read played (Some slot) ++ unexpected side wanted section))

abbrev pub IsCase : List ℕ → Read → Played → ℕ → Side → Option (List ℕ) → Told → Type 0
IsCase file read played slot side wanted case =
    (case.bench ≡ file) × (case.panel ≡ name_at read.bench.panels.items slot) × AreProblems read played slot side wanted (slice_get read.bench.panels.items slot) case.problems

-- one case more for what is of no panel, where there is such
abbrev pub last_case : List ℕ → List (List ℕ) → List Told
last_case file [] = []
last_case file (problem ∷ problems) = case_of file [] (problem ∷ problems) ∷ []

-- a case for each panel from a slot on, and behind them one for what is of none
module _ {Z : Type 0} (file : List ℕ) (read : Read) (played : Played) (wanted : List (Option (Vec ℕ Z))) where
  abbrev pub AreCases : ℕ → List Side → List Told → Type 0
  AreCases slot [] cases = cases ≡ last_case file (found_words read played None)
  AreCases slot (side ∷ sides) [] = ⊥
  AreCases slot (side ∷ sides) (case ∷ cases) = IsCase file read played slot side (text_in (slice_get wanted slot)) case × AreCases (slot + 1) sides cases
