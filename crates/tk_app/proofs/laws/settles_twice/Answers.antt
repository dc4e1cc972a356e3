use Rattle.tk_app.proofs.LaidOut.{settles_twice}
use Rattle.tk_app.proofs.SoundBySettle.{leaves_settled}
use Rattle.tk_app.proofs.laws.settles_twice.Goals as goal

pub returns : goal.returns
returns c = record { by_settle = leaves_settled; by_job = settles_twice }
