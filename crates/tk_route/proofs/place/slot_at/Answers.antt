use Rattle.std.proofs.Common.{arith, rules, tests}
use Rattle.std.proofs.lemmas.Iterator.{YieldsList-from_slice}
use Rattle.std.proofs.lemmas.Iterator.Search.{position_from_yields_List}
use Rattle.tk_route.proofs.ScreenLemmas.{BeginsOnScreen-slot_at}
use Rattle.tk_route.specs.Screen.{holds}
use Rattle.tk_route.proofs.place.slot_at.Goals as goal

pub returns-clause-slot : goal.returns-clause-slot
returns-clause-slot c =
    position_from_yields_List (λ rect. holds rect c.args.point) _ _ _ c.position.ensures.ran
    (YieldsList-from_slice c.args.rects.now c.iter.ensures.rest) (λ x b q k. search (rules, tests))

pub returns-clause-near : goal.returns-clause-near
returns-clause-near c = rw (returns-clause-slot c) (BeginsOnScreen-slot_at c.args.rects.now c.args.point (omega arith) (omega arith))
