use Rattle.std.proofs.Common.{arith, subst}
use Rattle.std.proofs.lemmas.List.{take_all}
use Rattle.std.specs.Prelude.{All}
use Rattle.panels_film.specs.Pages.{IsPictured}
use Rattle.panels_film.proofs.Pictures.{one_pictured}
use Rattle.panels_film.proofs.pages.push_frames.Goals as goal

pub loop-frame-preserved : goal.loop-frame-preserved
loop-frame-preserved c =
    let at = c.loop-frame in
    one_pictured c.args.panels.now c.args.events.now c.args.frames.now at.frame-index c.frame-item.result at.page.items c.push_frame.new.page.items c.loop-frame-test.true c.frame-item.is at.invariant
    c.in_ok-push_frame.ensures

pub returns : goal.returns
returns c =
    let at = c.loop-frame in
    subst (All (IsPictured c.args.panels.now c.args.events.now at.page.items)) (take_all at.frame-index c.args.frames.now (omega (arith, c.loop-frame-test.false))) at.invariant
