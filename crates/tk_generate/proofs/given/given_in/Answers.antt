use Rattle.tk_generate.proofs.Options.{option_more}
use Rattle.tk_generate.proofs.given.given_in.Goals as goal

pub loop-name-preserved : goal.loop-name-preserved
loop-name-preserved c =
    option_more c.loop-name.rest.now c.in-Some.behind.now c.in-Some-split_first.later.now c.in-Some.name.now c.in-Some-split_first.value.now c.in_ok-option.option c.loop-name.given c.in_ok-given.given _
    c.in-Some.ensures.cases.0 c.in-Some-split_first.ensures.cases.0 c.in_ok-option.ensures c.in_ok-given.ensures c.loop-name.invariant
