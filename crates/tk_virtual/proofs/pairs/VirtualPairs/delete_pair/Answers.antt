use Rattle.std.proofs.Common.{◌≡◌, filter, sym, ap, ◌∙◌, subst}
use Rattle.tk_virtual.specs.Classes.{is_of_class, listed_in, sequence_class}
use Rattle.tk_virtual.specs.Virtual.{is_same, without_pair}
use Rattle.tk_virtual.proofs.ClassLemmas.{none_goes, filed_without}
use Rattle.tk_virtual.proofs.pairs.VirtualPairs.delete_pair.Goals as goal

pub invariant_of-self : goal.invariant_of-self
invariant_of-self c = (
  c.self.invariant.0,
  λ class. c.self.invariant.1 class
      ∙ ap (filter (is_of_class class)) (sym (c.delete_pair.ensures.others ∙ none_goes (is_same c.args.wanted.now) c.self.inside.pairs (sym c.delete_pair.ensures.taken ∙ c.in_default.is))),
)

pub invariant_of-self-2 : goal.invariant_of-self-2
invariant_of-self-2 c = (
  c.self.invariant.0,
  λ class. filed_without c.self.inside.pairs (λ class. listed_in class c.self.inside.classes.entries) (λ class. listed_in class c.take_out_in.new.classes.entries) c.self.invariant.1 c.args.wanted.now c.in-Some.pair
      (sym c.in-Some.ensures.taken) (sym c.delete_pair.ensures.pairs ∙ c.delete_pair.ensures.others)
      (subst (λ n. listed_in n c.take_out_in.new.classes.entries ≡ without_pair c.args.wanted.now (listed_in n c.self.inside.classes.entries)) (c.sequence_class-class.ensures ∙ ap sequence_class c.sequence.ensures) c.take_out_in.ensures.own)
      (λ other differ. c.take_out_in.ensures.others other (λ is. differ (is ∙ (c.sequence_class-class.ensures ∙ ap sequence_class c.sequence.ensures)))) class
      ∙ ap (filter (is_of_class class)) (sym c.delete_pair.ensures.pairs),
)
