use Rattle.std.proofs.Common.{◌≡◌, ◌-◌, ◌++◌, string_bytes}
use Rattle.std.specs.Option.{option_copied}
use Rattle.panels_film.specs.Traces.{lines_text, numbers_text}
use Rattle.panels_film.proofs.traces.push_lines.Given as goal

abbrev pub invariant-loop-number : goal.invariant-loop-number
invariant-loop-number l =
    string_bytes l.text ++ numbers_text l.story (option_copied l.span.before) l.span.last l.number (l.behind - l.number)
    ≡ string_bytes l.fn.text ++ lines_text l.story (option_copied l.span.before) l.span.last l.first l.behind
