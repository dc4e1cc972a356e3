use Rattle.tk_tree.specs.Own.{window_at}
use Rattle.tk_tree.specs.Shared.{own_of}
use Rattle.tk_screen.proofs.Placed.{placed_by}
use Rattle.tk_screen.proofs.placing.set_rect.Goals as goal

pub returns-clause-own : goal.returns-clause-own
returns-clause-own c =
    let own = own_of c.args.win.owner c.args.windows.now in
    placed_by c.args.win.number c.args.place c.place-mapped.result (window_at c.args.win.number own) own _ c.requires c.place-mapped.ensures c.set_place.ensures.own
