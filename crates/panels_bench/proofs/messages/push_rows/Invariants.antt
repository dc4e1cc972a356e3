use Rattle.std.proofs.Common.{◌≡◌, ◌++◌, drop, map, string_bytes}
use Rattle.panels_bench.specs.Messages.{rows_among}
use Rattle.panels_bench.proofs.messages.push_rows.Given as goal

-- what was added, and what is left, is all
abbrev pub invariant-loop-line : goal.invariant-loop-line
invariant-loop-line l =
    string_bytes l.text ++ rows_among l.first l.second (map (λ line. line.now) (drop l.line-index l.lines))
    ≡ string_bytes l.initial.text ++ rows_among l.first l.second (map (λ line. line.now) l.lines)
