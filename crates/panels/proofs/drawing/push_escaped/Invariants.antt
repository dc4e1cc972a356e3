use Rattle.std.proofs.Common.{◌≡◌, ◌++◌, drop}
use Rattle.panels.specs.Picture.{escaped}
use Rattle.panels.proofs.drawing.push_escaped.Given as goal

abbrev pub invariant-loop-byte : goal.invariant-loop-byte
invariant-loop-byte l = l.text.items ++ escaped (drop l.byte-index l.words) ≡ l.fn.text.items ++ escaped l.words
