use Rattle.std.proofs.Common.{◌≡◌, ◌≤◌, ◌-◌, All, List, length}
use Rattle.tk_host.specs.Held.{Call, held_after}
use Rattle.panels_film.specs.Films.{IsCounted}
use Rattle.panels_film.proofs.Filming.{Filmed}
use Rattle.panels_film.proofs.film.film_of.Given as goal

abbrev pub invariant-frames : goal.invariant-frames
invariant-frames g l = record {
  most : length l.frames.items ≤ l._number;
  counted : All (IsCounted l.session.events) l.frames.items;
  filmed : (calls : List (Call g.row.M.Denot)) → l.fn.live.held ≡ held_after g.M.AliasMeaning.answer calls
      → Filmed g.M.AliasMeaning.answer l.session (500 - l._number) l.count l.moment l.frames.items calls l.live.held;
}
