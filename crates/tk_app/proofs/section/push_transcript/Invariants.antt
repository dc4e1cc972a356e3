use Rattle.std.proofs.Common.{◌≡◌, ◌++◌, take}
use Rattle.std.specs.Prelude.{flat_map}
use Rattle.tk_app.specs.Section.{transcript_line}
use Rattle.tk_app.proofs.section.push_transcript.Given as goal

-- what was read is written
abbrev pub invariant-loop-line : goal.invariant-loop-line
invariant-loop-line l = l.out.items ≡ l.fn.out.items ++ flat_map transcript_line (take l.line-index l.lines)
