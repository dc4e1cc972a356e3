use Rattle.std.proofs.Common.{◌≡◌, ◌++◌, drop, string_bytes}
use Rattle.std.specs.Option.{option_copied}
use Rattle.panels_film.specs.Traces.{trace, trace_from}
use Rattle.panels_film.proofs.traces.trace.Given as goal

abbrev pub invariant-loop-frame : goal.invariant-loop-frame
invariant-loop-frame l =
    string_bytes l.text ++ trace_from l.story (option_copied l.before) (drop l.frame-index l.frames) ≡ trace l.story l.frames
