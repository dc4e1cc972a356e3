use Rattle.std.proofs.Common.{arith}
use Rattle.tcl_text.proofs.GlobPlaces.{dead_by_bits}
use Rattle.tcl_text.proofs.glob_places.dead_of_few_parts.Goals as goal

pub returns-clause-none : goal.returns-clause-none
returns-clause-none c = λ place below behind m.
    dead_by_bits _ _ _ _ place c.mark_parts-count.ensures.below (omega arith) (λ i. let fits = c.type_inv.window i in omega arith) (c.first_allowed.ensures place (omega arith)) behind m
