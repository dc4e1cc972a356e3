use Rattle.std.proofs.Common.{◌≡◌, ◌+◌, length, drop}
use Rattle.std.specs.Prelude.{slice_get}
use Rattle.panels_text.specs.Places.{heads_from}
use Rattle.panels_text.specs.Texts.{lines_of}
use Rattle.panels_text.proofs.place.head_at.Given as goal

-- as many lines were read, and the head that is looked for is the one of what is left
abbrev pub invariant-loop-line : goal.invariant-loop-line
invariant-loop-line l = record {
  number : l.number ≡ length l.yielded;
  same : slice_get (heads_from (l.number + 1) l.array (drop l.number (lines_of l.bench))) l.left ≡ slice_get (heads_from 1 l.array (lines_of l.bench)) l.initial.left;
}
