use Rattle.std.proofs.Common.{◌≡◌, length}
use Rattle.tk_options.specs.Rows.{kind_in}
use Rattle.tk_options.proofs.rows.kind_in.Given as goal

-- those that were passed over have other commands
abbrev pub invariant-loop-rest : goal.invariant-loop-rest
invariant-loop-rest l = kind_in l.name l.rest ≡ kind_in l.name l.kinds

abbrev pub decreases-loop-rest : goal.decreases-loop-rest
decreases-loop-rest l = length l.rest
