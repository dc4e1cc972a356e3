use Rattle.std.proofs.Common.{◌≡◌, ◌++◌, reverse}
use Rattle.std.specs.Prelude.{replicate}
use Rattle.panels_text.proofs.indents.push_opened.Given as goal

-- so many were put on
abbrev pub invariant-loop-number : goal.invariant-loop-number
invariant-loop-number l = reverse l.opened.items ≡ replicate l._number l.brace ++ reverse l.initial.opened.items
