-- Meaning. What runs a script that another one has.
use Rattle.std.specs.Prelude.{ℕ, ◌+◌, ◌-◌, Bool, false, not, ◌&&◌, nat_lt, if◌then◌else◌, List, [], ◌∷◌, ◌++◌, codes, Option, Some, None, option_and_then}
use Rattle.std.specs.Fmt.{decimal}
use Rattle.std.specs.Str.{bytes_eq}
use Rattle.std.specs.String.{string_bytes}
use Rattle.panels_text.specs.Roles.{Texts, word_at}
use Rattle.panels_text.specs.Scripts.{Said, calls_of, without_plus}
use Rattle.panels_text.specs.declared.runner.Runner.{Runner}

-- what runs a script: the line that says so, its words, and whether it is a timer or an idle script
pub record Runs : Type 0 where
  pub line : ℕ
  pub words : List ℕ
  pub is_timer : Bool

abbrev pub runs : Runner → Runs
runs runner = record { line = runner.line; words = string_bytes runner.words; is_timer = runner.is_timer }

-- a word that is this script, with a plus in front or none
abbrev pub is_body : List ℕ → Option (List ℕ) → Bool
is_body body None = false
is_body body (Some word) = bytes_eq (without_plus word) body

-- the number of the first word behind the first that is this script, where they are counted from this number on
abbrev pub index_of : ℕ → List ℕ → Texts → Option ℕ
index_of number body [] = None
index_of number body (word ∷ words) = if nat_lt 0 number && is_body body word then Some number else index_of (number + 1) body words

abbrev pub in_line : ℕ → List ℕ
in_line line = codes ", in line " ++ decimal line

-- what a command of this name runs as a word behind another, in words
abbrev pub told_as : List ℕ → List ℕ → List ℕ → List ℕ → ℕ → Option (List ℕ)
told_as name before window sequence line =
    if bytes_eq before (codes "-command") then Some (codes "the -command of " ++ (window ++ in_line line))
    else if bytes_eq name (codes "bind") then Some (codes "the binding " ++ (sequence ++ (codes " of " ++ (window ++ in_line line))))
    else if bytes_eq name (codes "after") then Some (codes "a timer or an idle script, made in line " ++ decimal line)
    else None

abbrev pub runs_by : ℕ → Bool → Option (List ℕ) → Option Runs
runs_by line is_timer None = None
runs_by line is_timer (Some words) = Some (record { line = line; words = words; is_timer = is_timer })

-- what runs the word of this number of a command
abbrev pub runs_at : Said → ℕ → Option Runs
runs_at call index =
    runs_by call.line (bytes_eq (word_at call.words 0) (codes "after"))
    (told_as (word_at call.words 0) (word_at call.words (index - 1)) (word_at call.words 1) (word_at call.words 2) call.line)

-- what runs a script by a command
abbrev pub runs_in : List ℕ → Said → Option Runs
runs_in body call = option_and_then (runs_at call) (index_of 0 body call.words)

abbrev pub is_wanted : Bool → Runs → Bool
is_wanted by_timer runner = if by_timer then runner.is_timer else not runner.is_timer

abbrev pub has_wanted : Bool → Option Runs → Bool
has_wanted by_timer None = false
has_wanted by_timer (Some runner) = is_wanted by_timer runner

abbrev pub or_found : Option Runs → Option Runs → Option Runs
or_found None found = found
or_found (Some next) found = Some next

-- one that is wanted stays, and another gives way to the next
abbrev pub better : Bool → Option Runs → Option Runs → Option Runs
better by_timer found next = if has_wanted by_timer found then found else or_found next found

-- the first of commands that runs it by a timer, or not by one, as is wanted; else the last that runs it
abbrev pub runner_in : List ℕ → Bool → Option Runs → List Said → Option Runs
runner_in body by_timer found [] = found
runner_in body by_timer found (call ∷ calls) = runner_in body by_timer (better by_timer found (runs_in body call)) calls

-- what runs a script that stands in another by literal words
abbrev pub runner_of : List ℕ → List ℕ → Bool → Option Runs
runner_of script body by_timer = runner_in body by_timer None (calls_of script)
