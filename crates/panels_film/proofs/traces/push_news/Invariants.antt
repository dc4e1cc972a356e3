use Rattle.std.proofs.Common.{◌≡◌, ◌++◌, drop, string_bytes}
use Rattle.std.specs.Option.{option_copied}
use Rattle.panels_film.specs.Traces.{news_from}
use Rattle.panels_film.proofs.traces.push_news.Given as goal

abbrev pub invariant-loop-slot : goal.invariant-loop-slot
invariant-loop-slot l =
    string_bytes l.text ++ news_from l.panels l.frame.moment (option_copied l.before) l.slot (drop l.slot l.frame.sections.items)
    ≡ string_bytes l.fn.text ++ news_from l.panels l.frame.moment (option_copied l.before) 0 l.frame.sections.items
