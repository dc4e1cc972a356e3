use Rattle.std.proofs.Common.{◌≡◌, ◌+◌, ◌≤◌, drop}
use Rattle.tk_session.specs.Writing.{line_count}
use Rattle.tk_session.proofs.writing.line_count.Given as goal

-- the lines so far and those of the rest are all
abbrev pub invariant-loop-byte : goal.invariant-loop-byte
invariant-loop-byte l = (l.count + line_count (drop l.byte-index l.script) ≡ line_count l.script + 1) × (l.count ≤ l.byte-index + 1)
