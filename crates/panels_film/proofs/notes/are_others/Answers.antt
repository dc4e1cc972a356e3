use Rattle.std.proofs.Common.{ℕ, Vec, Global, not, ap, ◌∙◌}
use Rattle.std.specs.Str.{bytes_eq}
use Rattle.panels_film.proofs.Histories.{pointwise-map}
use Rattle.panels_film.proofs.notes.are_others.Goals as goal

pub returns : goal.returns
returns c = ap not (c.eq.ensures ∙ pointwise-map (λ (section : Vec ℕ Global). section.items) bytes_eq c.args.before.now c.args.after.now)
