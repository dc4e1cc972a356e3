use Rattle.tk_commands.proofs.Meanings.{begins}
use Rattle.tk_commands.proofs.job_laws.begins.Goals as goal

pub returns : goal.returns
returns c = begins
