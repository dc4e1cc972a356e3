use Rattle.tk_commands.proofs.Meanings.{settles}
use Rattle.tk_commands.proofs.job_laws.settles.Goals as goal

pub returns : goal.returns
returns c = settles
