use Rattle.tk_commands.proofs.Meanings.{dispatches}
use Rattle.tk_commands.proofs.job_laws.dispatches.Goals as goal

pub returns : goal.returns
returns c = dispatches
