use Rattle.tk_app.proofs.LaidOut.{ends_laid_out}
use Rattle.tk_app.proofs.SoundBySettle.{leaves_laid_out}
use Rattle.tk_app.proofs.laws.ends_laid_out.Goals as goal

pub returns : goal.returns
returns c = record { by_settle = leaves_laid_out; by_job = ends_laid_out }
