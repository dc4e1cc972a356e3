use Rattle.std.proofs.Common.{◌≡◌, ap, ◌∙◌}
use Rattle.panels_text.specs.Meant.{beside, replacements, rows_of}
use Rattle.panels_text.proofs.meant.otherwise.Goals as goal

pub returns : goal.returns
unfolding replacements
returns c = let same : rows_of c.as_slice.result.now ≡ replacements = ap rows_of c.as_slice.ensures in c.beside.ensures ∙ ap (beside c.args.word.now) same
