use Rattle.std.proofs.Common.{not, ap, ◌∙◌}
use Rattle.tk_patterns.specs.Marks.{all_marked}
use Rattle.tk_patterns.specs.Own.{has_tag}
use Rattle.tk_patterns.proofs.MarkLemmas.{marked_less}
use Rattle.tk_patterns.proofs.own.OwnBindings.unbind_all.Goals as goal

pub invariant_of-self : goal.invariant_of-self
invariant_of-self c = (
  c.leave_out_tag.ensures.filed,
  ap (all_marked c.self.inside.marks) c.leave_out_tag.ensures.bindings
      ∙ marked_less c.self.inside.marks (λ binding. not (has_tag c.args.tag.now binding)) c.self.inside.bindings.items c.self.invariant.1,
)
