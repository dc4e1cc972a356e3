-- Meaning. The bytes that an application ends with.
use Rattle.std.specs.Prelude.{ℕ, List, ◌++◌, codes, flat_map}
use Rattle.tk_panel.specs.declared.transcript.Line.{Line}
use Rattle.tk_panel.specs.Transcript.{stream_name}
use Rattle.tk_screen.specs.Fields.{escaped, field}
use Rattle.tk_screen.specs.Timers.{timer_lines}
use Rattle.tk_screen.specs.Tree.{tree_lines}
use Rattle.tk_app.specs.declared.state.AppState.{AppState}
use Rattle.tk_app.specs.declared.state.AppState.TheVariants.{Running, Exhausted, Closed}
use Rattle.tk_app.specs.Application.{Application}

abbrev pub state_name : AppState → List ℕ
state_name Running = codes "running"
state_name Exhausted = codes "exhausted"
state_name Closed = codes "closed"

-- `out T TEXT` or `err T TEXT`
abbrev pub transcript_line : Line → List ℕ
transcript_line line = stream_name line.stream ++ field line.moment ++ codes " " ++ escaped line.text ++ codes "\n"

-- `app NAME STATE STEPS_LEFT`
abbrev pub head_line : List ℕ → AppState → ℕ → List ℕ
head_line name state steps = codes "app " ++ name ++ codes " " ++ state_name state ++ field steps ++ codes "\n"

-- what an application wrote, its windows, and what it has waiting in the order of the numbers
unfoldable pub section : {M : Type 0} → Application M → List ℕ
section application =
    head_line application.name application.state application.steps ++ flat_map transcript_line application.transcript ++ codes "tree\n"
    ++ tree_lines application.windowing application.store ++ codes "timers\n" ++ timer_lines application.timers.entries ++ codes "done\n"
