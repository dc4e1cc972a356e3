use Rattle.tk_route.proofs.ScreenLemmas.{SharePixel-shares_pixel, shares_pixel-true}
use Rattle.tk_route.proofs.laws.rectangles_share_pixels.Goals as goal

pub returns : goal.returns
returns c rect other = (SharePixel-shares_pixel rect other, shares_pixel-true rect other)
