use Rattle.std.proofs.Common.{◌∙◌, sym}
use Rattle.tk_dispatch.proofs.queued.split.Goals as goal

pub returns-in-Some : goal.returns-in-Some
returns-in-Some c = c.without_place.ensures c.in-Some.place ∙ sym c.in-Some.ensures
