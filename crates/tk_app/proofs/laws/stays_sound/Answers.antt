use Rattle.tk_app.proofs.SoundBySettle.{stays_sound_by}
use Rattle.tk_app.proofs.laws.stays_sound.Goals as goal

pub returns : goal.returns
returns g c = stays_sound_by g.M.AliasMeaning.answer
