use Rattle.tkhost_c.proofs.HandleLemmas.{had_none, had_one}
use Rattle.tkhost_c.proofs.handles.tkhost_new.Goals as goal

pub returns-in-Some : goal.returns-in-Some
returns-in-Some c = had_one c.args.slice c.in-Some.ensures.kept c.put.ensures c.number_for.ensures

pub returns-in-None : goal.returns-in-None
returns-in-None c = had_none c.args.slice c.make.result c.in-None.ensures.kept c.take.ensures.none c.number_for-in-None.ensures c.make.ensures
