use Rattle.std.proofs.Common.{cond, filter, sym, ap, ◌∙◌}
use Rattle.std.specs.List.{list_any}
use Rattle.tk_virtual.specs.Classes.{is_of_class, listed_in}
use Rattle.tk_virtual.specs.Virtual.{without_name}
use Rattle.tk_virtual.proofs.ClassLemmas.{filed_without_name}
use Rattle.tk_virtual.proofs.pairs.VirtualPairs.delete_name.Goals as goal

pub invariant_of-self : goal.invariant_of-self
invariant_of-self c = (
  c.self.invariant.0,
  λ class. filed_without_name c.self.inside.pairs (λ class. listed_in class c.self.inside.classes.entries) (λ class. listed_in class c.delete_name_in.new.classes.entries) c.self.invariant.1 c.args.name.now
      (λ class. c.delete_name_in.ensures class
      ∙ ap (λ l. cond (list_any (is_of_class class) l) (without_name c.args.name.now (listed_in class c.self.inside.classes.entries)) (listed_in class c.self.inside.classes.entries)) c.named.ensures) class
      ∙ ap (filter (is_of_class class)) (sym c.delete_name.ensures),
)
