use Rattle.std.proofs.Common.{length, drop, ap, arith}
use Rattle.std.proofs.lemmas.List.{drop_all}
use Rattle.panels_text.proofs.MeantLemmas.{few_step, takes_begin, takes_end, takes_step}
use Rattle.panels_text.proofs.meant.first_of.Goals as goal

pub loop-one-init : goal.loop-one-init
loop-one-init c = record {
  takes = takes_begin c.new-words.result.items c.args.found.now c.new-words.ensures.items;
  few = omega (arith, ap length c.new-words.ensures.items);
}

pub loop-one-preserved : goal.loop-one-preserved
loop-one-preserved c = record {
  takes = takes_step c.args.found.now _ _ c.loop-one.words.items _ _ c.loop-one-test.true c.in_ok-push_new.ensures c.loop-one.invariant.takes;
  few = few_step _ c.loop-one.words.items _ c.in_ok-push_new.ensures c.loop-one.invariant.few;
}

pub returns : goal.returns
returns c =
    takes_end c.loop-one.words.items (drop c.loop-one.one-index c.args.found.now) _ (drop_all c.loop-one.one-index c.args.found.now c.loop-one-test.false) c.loop-one.invariant.few c.loop-one.invariant.takes
