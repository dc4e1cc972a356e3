use Rattle.std.proofs.Common.{◌∙◌}
use Rattle.tk_virtual.specs.Classes.{listed_in}
use Rattle.tk_virtual.proofs.ClassLemmas.{these_class_more}
use Rattle.tk_virtual.proofs.classes.delete_pairs_in.Goals as goal

pub loop-pair-preserved : goal.loop-pair-preserved
loop-pair-preserved c = λ class.
    these_class_more c.args.name.now c.args.wanted.now.keys c.args.pairs.now (λ class. listed_in class c.loop-pair.classes.entries) (λ class. listed_in class c.take_out_pairs_in.new.classes.entries)
    c.loop-pair.pair-index c.pair-item.result c.loop-pair-test.true c.pair-item.is c.take_out_pairs_in.ensures.own c.take_out_pairs_in.ensures.others class
    ∙ c.loop-pair.invariant class
