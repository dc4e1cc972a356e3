use Rattle.std.proofs.Common.{◌≡◌, ◌++◌, drop, map, string_bytes}
use Rattle.panels_text.specs.Texts.{behind_each}
use Rattle.panels_text.proofs.texts.joined.Given as goal

-- what stands there, and what is left, is all
abbrev pub invariant-loop-other : goal.invariant-loop-other
invariant-loop-other l =
    string_bytes l.text ++ behind_each l.separator (map (λ other. other.now) (drop l.other-index l.others))
    ≡ string_bytes l.initial.text ++ behind_each l.separator (map (λ other. other.now) l.others)
