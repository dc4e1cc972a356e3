use Rattle.tkhost_c.specs.Calls.{Adds}
use Rattle.tkhost_c.proofs.HandleLemmas.{on_kept}
use Rattle.tkhost_c.proofs.adding.tkhost_add.Goals as goal

pub returns-in-Some : goal.returns-in-Some
returns-in-Some c = on_kept (Adds c.args.name.now (record { x = c.args.x; y = c.args.y; width = c.args.width; height = c.args.height }) c.args.script.now (record { total = c.args.total; refill = c.args.refill })) c.in-Some.ensures.kept c.put.ensures c.number_for.ensures c.deref_mut.ensures.value c.add-answer.ensures
