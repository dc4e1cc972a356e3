use Rattle.std.proofs.Common.{◌≡◌, ◌++◌, take}
use Rattle.tk_screen.specs.Fields.{escaped_path}
use Rattle.tk_screen.proofs.fields.push_path.Given as goal

-- what was read is written
abbrev pub invariant-loop-byte : goal.invariant-loop-byte
invariant-loop-byte l = l.out.items ≡ l.fn.out.items ++ escaped_path (take l.byte-index l.path)
