use Rattle.tk_commands.proofs.Meanings.{destroys}
use Rattle.tk_commands.proofs.job_laws.destroys.Goals as goal

pub returns : goal.returns
returns c = destroys
