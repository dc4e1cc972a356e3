use Rattle.tk_app.proofs.InOrder.{items_keep_order, lies_in_order, scripts_keep_order, stays_in_order}
use Rattle.tk_app.proofs.layout_laws.lies_in_order.Goals as goal

pub returns : goal.returns
returns g c = record { layout = lies_in_order; scripts = scripts_keep_order; items = items_keep_order; stays = stays_in_order g.M.AliasMeaning.answer }
