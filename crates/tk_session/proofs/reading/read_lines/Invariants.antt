use Rattle.std.proofs.Common.{◌≡◌, ◌+◌, ◌≤◌, length}
use Rattle.tk_session.specs.Session.{lines_of}
use Rattle.tk_session.specs.Reading.{run}
use Rattle.tk_session.specs.declared.stage.Stage.TheVariants.{Heading}
use Rattle.tk_session.proofs.reading.read_lines.Given as goal

abbrev pub decreases-loop-rest : goal.decreases-loop-rest
decreases-loop-rest l = length l.rest

abbrev pub invariant-loop-rest : goal.invariant-loop-rest
invariant-loop-rest l = record {
  told : run l.stage l.number (lines_of l.rest) ≡ run Heading 0 (lines_of l.bytes);
  counted : l.number + length l.rest ≤ length l.bytes;
}
