use Rattle.std.proofs.Common.{◌≡◌, ◌+◌, length, drop}
use Rattle.panels_text.specs.Places.{key_line}
use Rattle.panels_text.specs.Texts.{lines_of}
use Rattle.panels_text.proofs.place.key_line.Given as goal

-- as many lines of the table were read, and the line of the key is that in what is left
abbrev pub invariant-loop-line : goal.invariant-loop-line
invariant-loop-line l = record {
  number : l.number ≡ l.head + length l.yielded;
  same : key_line l.head (l.number + 1) l.key (drop (length l.yielded) (drop l.head (lines_of l.bench))) ≡ key_line l.head (l.head + 1) l.key (drop l.head (lines_of l.bench));
}
