-- Meaning. Where a panel stood in its script, in words.
use Rattle.std.specs.Prelude.{◌≡◌, ◌≢◌, ℕ, ◌+◌, ◌≤◌, Bool, if◌then◌else◌, List, [], ◌∷◌, ◌++◌, length, reverse, codes, Option, Some, None, String}
use Rattle.std.specs.Fmt.{decimal}
use Rattle.std.specs.Str.{bytes_eq}
use Rattle.std.specs.String.{string_bytes}
use Rattle.std.specs.declared.alloc.Global.{Global}
use Rattle.panels.specs.declared.ending.Stand.{Stand}
use Rattle.panels_text.specs.Places.{line_at}
use Rattle.panels_text.specs.Runners.{Runs, runner_of}
use Rattle.panels_text.specs.declared.runner.Runner.{Runner}

-- where a text stands in another: at a byte, or nowhere
abbrev pub StandsAt : List ℕ → List ℕ → Option ℕ → Type 0
StandsAt text own (Some at) = (front : List ℕ) × (rest : List ℕ) × (text ≡ front ++ (own ++ rest)) × (length front ≡ at)
StandsAt text own None = (front : List ℕ) (rest : List ℕ) → text ≢ front ++ (own ++ rest)

-- a command behind its place: the line of the panel's script in which it begins, where its own script stands in that
abbrev pub placed : List ℕ → List ℕ → Option ℕ → ℕ → List ℕ → List ℕ
placed label script (Some at) start row = label ++ (codes ":" ++ (decimal (line_at script (at + start)) ++ (codes ": " ++ row)))
placed label script None start row = label ++ (codes ", in a script that it makes: " ++ row)

abbrev pub words_or : Option Runs → List ℕ → List ℕ
words_or None others = others
words_or (Some runner) others = runner.words

-- what ran the scripts in which a panel stood, the outermost first: the panel's script itself, or what there runs the first of them that it runs
abbrev pub run_by : List ℕ → Bool → List Stand → List ℕ
run_by script by_timer [] = codes "a binding, a timer or a command"
run_by script by_timer (stand ∷ stands) =
    if bytes_eq (string_bytes stand.script) script then codes "the panel's script"
    else words_or (runner_of script (string_bytes stand.script) by_timer) (run_by script by_timer stands)

-- what ran them, where there is a runner
abbrev pub words_by : Option Runner → List ℕ
words_by None = codes "the panel's script"
words_by (Some runner) = string_bytes runner.words

-- the innermost command behind its place, or one behind it in the same script
pub record IsTold (label script : List ℕ) (stand : Stand) (place : Option ℕ) (words : List ℕ) : Type 0 where
  pub start : ℕ
  pub row : List ℕ
  pub behind : stand.start ≤ start
  pub is : words ≡ placed label script place start row

-- then come procedures, and what ran them
pub record IsPlaced (label script : List ℕ) (stand : Stand) (by text : List ℕ) : Type 0 where
  pub place : Option ℕ
  pub words : List ℕ
  pub callers : List ℕ
  pub stands : StandsAt script (string_bytes stand.script) place
  pub told : IsTold label script stand place words
  pub is : text ≡ words ++ (callers ++ (codes "\n      run by " ++ by))

-- where the panel stood, by its commands, of which the innermost is the first: nowhere without one
abbrev pub ArePlaceWords : List ℕ → List ℕ → Bool → List Stand → Option (String Global) → Type 0
ArePlaceWords label script by_timer [] words = words ≡ None
ArePlaceWords label script by_timer (stand ∷ stands) None = ⊥
ArePlaceWords label script by_timer (stand ∷ stands) (Some text) = IsPlaced label script stand (run_by script by_timer (reverse (stand ∷ stands))) (string_bytes text)
