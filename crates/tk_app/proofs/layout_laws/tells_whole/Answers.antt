use Rattle.tk_app.proofs.Told.{lays_out_whole, tells_whole}
use Rattle.tk_app.proofs.layout_laws.tells_whole.Goals as goal

pub returns : goal.returns
returns c = record { pointer = tells_whole; layout = lays_out_whole }
