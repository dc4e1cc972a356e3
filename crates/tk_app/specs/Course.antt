-- Steps. How the jobs of an application go on: as those of its panel.
use Rattle.tcl_interp.specs.Course.{Course}
use Rattle.tk_panel.specs.declared.job.Job.{Job}
use Rattle.tk_panel.specs.Panel.{Panel}
use Rattle.tk_commands.specs.Course.{ended as panel_ended, job_started as panel_started, look as panel_look}
use Rattle.tk_app.specs.Seen.{Seen}

-- the same with something else in the panel, at the same moment
abbrev pub seen_with_panel : Panel → Seen → Seen
seen_with_panel panel seen = record seen { panel = record panel { moment = seen.panel.moment } }

-- what becomes of the panel, which is all that changes; the moment stays
abbrev pub of_panel : {T : Type 0} → Seen → Panel × T → Seen × T
of_panel seen there = (seen_with_panel there.0 seen, there.1)

abbrev pub course : Course Seen Job
course = record {
  look = λ seen store job. of_panel seen (panel_look seen.panel store job);
  start = λ seen store job. of_panel seen (panel_started seen.panel store job);
  ended = λ code text seen job. of_panel seen (panel_ended code text seen.panel job);
}
