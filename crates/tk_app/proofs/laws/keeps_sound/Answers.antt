use Rattle.tk_app.proofs.ByUpdate.{keeps_sound, scripts_keep_sound}
use Rattle.tk_app.proofs.Items.{items_keep_sound}
use Rattle.tk_app.proofs.laws.keeps_sound.Goals as goal

pub returns : goal.returns
returns c = record { scripts = scripts_keep_sound; items = items_keep_sound; jobs = keeps_sound }
