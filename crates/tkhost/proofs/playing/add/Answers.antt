use Rattle.std.proofs.lemmas.Result.{IfErr-weaker}
use Rattle.tk_host.specs.Refusals.{RefusesApp, add_faults}
use Rattle.tkhost.specs.Calls.{given_of}
use Rattle.tkhost.proofs.Adds.{only_memory}
use Rattle.tkhost.proofs.playing.add.Goals as goal

pub unless_memory-requires : goal.unless_memory-requires
unless_memory-requires g c =
    IfErr-weaker c.add_app.result _ _ (λ fault is. only_memory (RefusesApp c.args.host.now.held (given_of c.args.app.now c.args.aliases)) add_faults fault c.requires is)
    (rw (c.in_ok-name.ensures.ok, c.in_ok-script.ensures.ok) at c.add_app.ensures.refused)
