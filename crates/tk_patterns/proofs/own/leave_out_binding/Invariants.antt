use Rattle.std.proofs.Common.{◌≡◌, ◌≤◌, not, length, map}
use Rattle.tk_patterns.specs.Filed.{numbers_of}
use Rattle.tk_patterns.specs.declared.binding.Binding.{Binding}
use Rattle.tk_patterns.specs.Filing.{filed_under}
use Rattle.tk_patterns.specs.Own.{is_of}
use Rattle.tk_patterns.proofs.KeptLemmas.{out_from}
use Rattle.tk_patterns.proofs.own.leave_out_binding.Given as goal

-- from the place on, they are out
abbrev pub invariant-loop-place : goal.invariant-loop-place
invariant-loop-place l = record {
  within : l.place ≤ length l.fn.bindings.items;
  left : l.bindings.items ≡ out_from (λ (b : Binding). not (is_of l.tag l.sequence b)) l.place l.fn.bindings.items;
  filed : numbers_of l.filed ≡ map filed_under l.bindings.items;
}

abbrev pub decreases-loop-place : goal.decreases-loop-place
decreases-loop-place l = l.place
