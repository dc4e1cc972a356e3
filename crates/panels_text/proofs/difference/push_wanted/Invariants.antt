use Rattle.std.proofs.Common.{◌≡◌, ◌++◌, drop, map, string_bytes}
use Rattle.panels_text.specs.Differences.{difference_words, paired}
use Rattle.panels_text.proofs.difference.push_wanted.Given as goal

-- those that were told, and those that are left beside what is left of the others, are all
abbrev pub invariant-loop-line : goal.invariant-loop-line
invariant-loop-line l =
    map string_bytes l.found.items ++ map difference_words (paired (map (λ line. line.now) (drop l.line-index l.lines)) (map (λ line. line.now) l.others.items))
    ≡ map string_bytes l.initial.found.items ++ map difference_words (paired (map (λ line. line.now) l.lines) (map (λ line. line.now) l.initial.others.items))
