use Rattle.std.proofs.Common.{◌≡◌, length, map}
use Rattle.tk_options.specs.Rows.{binding}
use Rattle.tk_panel.specs.ClassBindings.{with_rows}
use Rattle.tk_patterns.specs.Own.{without_tag}
use Rattle.tk_patterns.specs.Shared.{LeavesOthers, own_of}
use Rattle.tk_panel.proofs.classes.bind_rows.Given as goal

abbrev pub invariant-loop-row : goal.invariant-loop-row
invariant-loop-row l = record {
  same : with_rows l.class (map (λ r. binding r.0.now r.1.now) l.rest) (own_of l.slot l.bindings) ≡ with_rows l.class (map (λ r. binding r.0.now r.1.now) l.rows) (own_of l.slot l.fn.bindings);
  others : LeavesOthers l.slot l.fn.bindings l.bindings;
  kept : without_tag l.class (own_of l.slot l.bindings) ≡ without_tag l.class (own_of l.slot l.fn.bindings);
}

abbrev pub decreases-loop-row : goal.decreases-loop-row
decreases-loop-row l = length l.rest
