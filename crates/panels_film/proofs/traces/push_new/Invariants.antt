use Rattle.std.proofs.Common.{◌≡◌, ◌++◌, drop, map, string_bytes}
use Rattle.std.specs.Prelude.{flat_map}
use Rattle.panels_film.specs.Traces.{new_line, new_lines}
use Rattle.panels_film.proofs.traces.push_new.Given as goal

abbrev pub invariant-loop-line : goal.invariant-loop-line
invariant-loop-line l =
    string_bytes l.text ++ flat_map (new_line l.moment l.name) (map (λ line. line.now) (drop l.line-index l.line-items))
    ≡ string_bytes l.fn.text ++ new_lines l.moment l.name l.section l.before
