use Rattle.std.proofs.Common.{refl}
use Rattle.tcl_text.proofs.GlobLemmas.{Stops-matched}
use Rattle.tcl_text.proofs.glob.matches_whole.Goals as goal

pub returns : goal.returns
returns c =
    (λ _. c.loop-star.invariant.3.0 (Stops-matched _ _ c.in_default-split_first_char.ensures.cut c.loop-star.invariant.2), λ _. refl)
