use Rattle.std.proofs.Common.{◌∙◌}
use Rattle.std.specs.Str.{chars}
use Rattle.tk_widgets.proofs.RoomLemmas.{within}
use Rattle.tk_widgets.proofs.columns.characters_within.Goals as goal

pub returns : goal.returns
returns c = c.walk.ensures ∙ within c.args.columns (chars c.args.text.now)
