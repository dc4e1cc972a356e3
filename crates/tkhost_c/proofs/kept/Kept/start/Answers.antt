use Rattle.tkhost_c.proofs.Runs.{started}
use Rattle.tkhost_c.proofs.kept.Kept.start.Goals as goal

pub returns-in-Ok : goal.returns-in-Ok
returns-in-Ok c =
    rw (← c.self.view_is)
    (started (record { host = c.self.inside.host; apps = c.self.inside.apps.items; waiting = c.self.inside.waiting }) c.start.new.self c.in-Ok.ensures.unless
    c.in-Ok.ensures.started c.in-Ok.ensures.history c.in-Ok.ensures.turns)
