use Rattle.std.proofs.Common.{ap}
use Rattle.tcl_interp.specs.Interp.{context_of, rest_of}
use Rattle.tk_app.specs.Turns.{Program}
use Rattle.tk_app.proofs.Slices.{full_granted}
use Rattle.tk_app.proofs.runner.Runner.grant.Goals as goal

pub returns-in-Going : goal.returns-in-Going
returns-in-Going g c =
    let i = c.self.inside in
    record {
      ok = full_granted c.args.self.now i.progress i.state (rest_of i.interp) (context_of i.interp).levels c.in-Going.is c.self.invariant.0 (ap (λ (p : Program _). p.state) c.self.view_is)
          (ap (λ (p : Program _). p.work) c.self.view_is) c.requires.running c.requires.rests;
      err = tt;
    }
