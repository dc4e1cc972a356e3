use Rattle.tkhost_c.proofs.handles.tkhost_free.Goals as goal

pub returns : goal.returns
returns c = (c.free.result, c.number_for.ensures, c.free.ensures)
