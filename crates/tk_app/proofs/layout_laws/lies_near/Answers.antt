use Rattle.tk_app.proofs.Near.{corners_near, items_keep_near, near_stays, scripts_keep_near}
use Rattle.tk_app.proofs.layout_laws.lies_near.Goals as goal

pub returns : goal.returns
returns g c = record { scripts = scripts_keep_near; items = items_keep_near; stays = near_stays g.M.AliasMeaning.answer; corners = corners_near }
