use Rattle.std.proofs.Common.{◌≡◌, take}
use Rattle.panels_film.proofs.copying.copies.Given as goal

abbrev pub invariant-loop-own : goal.invariant-loop-own
invariant-loop-own l = l.copies.items ≡ take l.own-index l.panels
