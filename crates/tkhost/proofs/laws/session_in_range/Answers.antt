use Rattle.tkhost.proofs.Ranges.{session_comes_whole, session_in_range}
use Rattle.tkhost.proofs.laws.session_in_range.Goals as goal

pub returns : goal.returns
returns g c = record { events = session_in_range; whole = session_comes_whole g.M.AliasMeaning.answer }
