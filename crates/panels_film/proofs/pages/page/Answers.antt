use Rattle.panels_film.proofs.Pictures.{all_longer}
use Rattle.panels_film.proofs.pages.page.Goals as goal

pub returns : goal.returns
returns c =
    rw c.in_ok-extend_from_slice.ensures.items
    (all_longer c.args.panels.now c.args.events.now c.args.film.now.frames.items c.push_frames.new.page.items _ (rw c.as_slice.ensures.value at c.in_ok-push_frames.ensures))
