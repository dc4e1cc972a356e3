-- the arms Test and Over should close by themselves (Over: Text::empty's clause)
use Rattle.std.proofs.Common.{◌≡◌, IfOk, sym, subst}
use Rattle.tcl_interp.specs.Rests.{moved_of, waits_of}
use Rattle.tcl_interp.specs.Turns.{halted}
use Rattle.tcl_interp.proofs.turns.stand_at.Goals as goal

pub returns-in-Body-clause-now : goal.returns-in-Body-clause-now
returns-in-Body-clause-now g c =
    subst (λ at. IfOk c.stand_in.result (λ now. moved_of now c.stand_in.new.frames.items ≡ halted c.args.room c.args.looping (waits_of c.args.frames.now.items) at)) (sym c.in-Body.is) c.stand_in.ensures.now

pub returns-in-Next-clause-now : goal.returns-in-Next-clause-now
returns-in-Next-clause-now g c =
    subst (λ at. IfOk c.stand_in-in-Next.result (λ now. moved_of now c.stand_in-in-Next.new.frames.items ≡ halted c.args.room c.args.looping (waits_of c.args.frames.now.items) at)) (sym c.in-Next.is) c.stand_in-in-Next.ensures.now
