use Rattle.tk_commands.proofs.Settled.{due_comes}
use Rattle.tk_commands.proofs.job_laws.due_comes.Goals as goal

pub returns : goal.returns
returns c = due_comes
