use Rattle.std.proofs.Common.{◌≡◌, ap, ◌∙◌, subst}
use Rattle.tk_virtual.specs.Classes.{listed_in, sequence_class}
use Rattle.tk_virtual.specs.Virtual.{without_name}
use Rattle.tk_virtual.proofs.ClassLemmas.{one_class_more}
use Rattle.tk_virtual.proofs.classes.delete_name_in.Goals as goal

pub loop-pair-preserved : goal.loop-pair-preserved
loop-pair-preserved c = λ class.
    one_class_more c.args.name.now c.args.pairs.now (λ class. listed_in class c.loop-pair.classes.entries) (λ class. listed_in class c.take_out_name_in.new.classes.entries) c.loop-pair.pair-index c.pair-item.result c.loop-pair-test.true c.pair-item.is
    (subst (λ n. listed_in n c.take_out_name_in.new.classes.entries ≡ without_name c.args.name.now (listed_in n c.loop-pair.classes.entries)) (c.sequence_class.ensures ∙ ap sequence_class c.sequence.ensures) c.take_out_name_in.ensures.own)
    (λ other differ. c.take_out_name_in.ensures.others other (λ is. differ (is ∙ (c.sequence_class.ensures ∙ ap sequence_class c.sequence.ensures)))) class
    ∙ c.loop-pair.invariant class
