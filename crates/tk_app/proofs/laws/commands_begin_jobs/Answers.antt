use Rattle.tk_app.proofs.Begun.{destroy_begins, generate_begins, idle_tasks_are, invoke_runs, select_begins, update_begins, update_is}
use Rattle.tk_app.proofs.laws.commands_begin_jobs.Goals as goal

pub returns : goal.returns
returns c = record {
  update = update_begins;
  update_is = update_is;
  idle_tasks_are = idle_tasks_are;
  destroy = destroy_begins;
  generate = generate_begins;
  select = select_begins;
  invoke = invoke_runs;
}
