use Rattle.std.proofs.Common.{◌≡◌, ◌++◌, drop, string_bytes}
use Rattle.std.specs.Option.{option_copied}
use Rattle.std.specs.Prelude.{filter, flat_map}
use Rattle.panels_film.specs.Traces.{binding_line, bindings_text, is_in}
use Rattle.panels_film.proofs.traces.push_bindings.Given as goal

-- what was told, and what is left to tell, are all
abbrev pub invariant-loop-ran : goal.invariant-loop-ran
invariant-loop-ran l =
    string_bytes l.text ++ flat_map (binding_line l.story.panels.now) (filter (is_in (option_copied l.span.before) l.span.last l.count) (drop l.ran-index l.story.ran.now))
    ≡ string_bytes l.fn.text ++ bindings_text l.story (option_copied l.span.before) l.span.last l.count
