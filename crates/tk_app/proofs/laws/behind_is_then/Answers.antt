use Rattle.tk_app.proofs.Behind.{dispatch_then, round_then, windows_then}
use Rattle.tk_app.proofs.laws.behind_is_then.Goals as goal

pub returns : goal.returns
returns c = record { dispatch = dispatch_then; round = round_then; windows = windows_then }
