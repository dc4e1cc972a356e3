use Rattle.tk_commands.proofs.Settled.{rests}
use Rattle.tk_commands.proofs.job_laws.rests.Goals as goal

pub returns : goal.returns
returns c = rests
