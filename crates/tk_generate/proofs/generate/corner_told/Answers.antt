use Rattle.std.proofs.Common.{sym, ◌∙◌}
use Rattle.tk_generate.proofs.Places.{same_anywhere}
use Rattle.tk_generate.proofs.generate.corner_told.Goals as goal

pub returns-else-tells_place-clause-told : goal.returns-else-tells_place-clause-told
returns-else-tells_place-clause-told c = λ receiver moment.
    same_anywhere c.args.asked.now c.args.given.now receiver _ _ moment (sym c.tells_place.ensures ∙ c.if-tells_place.false)
