use Rattle.tk_route.proofs.ScreenLemmas.{same_as_shares_pixel}
use Rattle.tk_route.proofs.rects.shares_pixel.Goals as goal

pub returns : goal.returns
returns c = same_as_shares_pixel _ _ _ c.overlaps.ensures
