use Rattle.tkhost_c.specs.Doing.{Does}
use Rattle.tkhost_c.proofs.HandleLemmas.{on_kept}
use Rattle.tkhost_c.proofs.doing.done.Goals as goal

pub returns-in-Some : goal.returns-in-Some
returns-in-Some c = on_kept (Does c.args.deed.now) c.in-Some.ensures.kept c.put.ensures c.number_for.ensures c.deref_mut.ensures.value c.does-answer.ensures
