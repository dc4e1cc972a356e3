use Rattle.std.proofs.Common.{◌≡◌, ◌-◌, drop, reverse, take}
use Rattle.std.specs.Prelude.{find, nat_lt}
use Rattle.panels_text.proofs.indents.close.Given as goal

-- none of those that were taken off stands farther right, and what is left decides
abbrev pub invariant-loop-number : goal.invariant-loop-number
invariant-loop-number l = record {
  found : find (λ brace. nat_lt l.indent brace.indent) (take (l.count - l._number) (reverse l.opened.items)) ≡ find (λ brace. nat_lt l.indent brace.indent) (take l.count (reverse l.initial.opened.items));
  left : drop (l.count - l._number) (reverse l.opened.items) ≡ drop l.count (reverse l.initial.opened.items);
}
