use Rattle.std.proofs.Common.{◌≡◌, ◌++◌, drop}
use Rattle.tk_patterns.specs.Own.{sequences_of}
use Rattle.tk_patterns.proofs.own.sequences_of.Given as goal

abbrev pub invariant-loop-binding : goal.invariant-loop-binding
invariant-loop-binding l = l.list.items ++ sequences_of l.tag (drop l.binding-index l.bindings) ≡ sequences_of l.tag l.bindings
