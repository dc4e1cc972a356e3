use Rattle.std.proofs.Common.{◌≡◌, ◌++◌, length}
use Rattle.tk_screen.specs.Fields.{escaped}
use Rattle.tk_screen.proofs.fields.push_escaped.Given as goal

-- what is written and what is left to be written make up the whole
abbrev pub invariant-loop-place : goal.invariant-loop-place
invariant-loop-place l = l.out.items ++ escaped l.rest ≡ l.fn.out.items ++ escaped l.text

abbrev pub decreases-loop-place : goal.decreases-loop-place
decreases-loop-place l = length l.rest
