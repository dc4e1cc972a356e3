use Rattle.std.proofs.Common.{length}
use Rattle.tk_patterns.specs.Marks.{RunsNone}
use Rattle.tk_patterns.proofs.own.OwnBindings.may_run.Given as goal

abbrev pub invariant-loop-tag : goal.invariant-loop-tag
invariant-loop-tag l = RunsNone l.rest l.event l.self → RunsNone l.tags l.event l.self

abbrev pub decreases-loop-tag : goal.decreases-loop-tag
decreases-loop-tag l = length l.rest
