use Rattle.std.proofs.Common.{◌≡◌, ◌-◌, length, take, append-nil, filter, ap, ◌∙◌, subst}
use Rattle.tk_virtual.specs.Classes.{is_of_class, listed_in, sequence_class}
use Rattle.tk_virtual.proofs.ClassLemmas.{filed_last}
use Rattle.tk_virtual.proofs.pairs.VirtualPairs.take_last.Goals as goal

pub invariant_of-self : goal.invariant_of-self
invariant_of-self c = (
  c.self.invariant.0,
  λ class. c.self.invariant.1 class ∙ ap (filter (is_of_class class)) (c.in_default.ensures.last ∙ append-nil c.take_last.new.self),
)

pub invariant_of-self-2 : goal.invariant_of-self-2
invariant_of-self-2 c = (
  c.self.invariant.0,
  λ class. filed_last c.self.inside.pairs (λ class. listed_in class c.self.inside.classes.entries) (λ class. listed_in class c.take_last_in.new.classes.entries) c.self.invariant.1 c.take_last.new.self c.in-Some.pair c.in-Some.ensures.last
      (subst (λ n. listed_in n c.take_last_in.new.classes.entries ≡ take (length (listed_in n c.self.inside.classes.entries) - 1) (listed_in n c.self.inside.classes.entries)) (c.sequence_class.ensures ∙ ap sequence_class c.sequence.ensures) c.take_last_in.ensures.own)
      (λ other differ. c.take_last_in.ensures.others other (λ is. differ (is ∙ (c.sequence_class.ensures ∙ ap sequence_class c.sequence.ensures)))) class,
)
