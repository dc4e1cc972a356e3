use Rattle.tkhost_c.specs.Calls.{Waits, kind_of}
use Rattle.tkhost_c.proofs.HandleLemmas.{on_kept}
use Rattle.tkhost_c.proofs.adding.tkhost_alias.Goals as goal

pub returns-in-Some : goal.returns-in-Some
returns-in-Some c = on_kept (Waits (kind_of c.args.kind) c.args.name.now c.args.config.now) c.in-Some.ensures.kept c.put.ensures c.number_for.ensures c.deref_mut.ensures.value c.wait-answer.ensures
