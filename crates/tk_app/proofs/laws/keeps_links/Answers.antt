use Rattle.tk_app.proofs.Stores.{links_stay, scripts_stand, standing_leads}
use Rattle.tk_app.proofs.laws.keeps_links.Goals as goal

pub returns : goal.returns
returns g c = record { leads = standing_leads; scripts = scripts_stand; stays = links_stay g.M.AliasMeaning.answer }
