use Rattle.std.proofs.Common.{◌≡◌, length}
use Rattle.tk_app.specs.Seen.{meanings, served_by}
use Rattle.tk_app.proofs.aliases.named.Given as goal

-- those that were passed over have other names
abbrev pub invariant-loop-rest : goal.invariant-loop-rest
invariant-loop-rest g l = served_by l.name (meanings g.M.AliasMeaning.answer l.rest) ≡ served_by l.name (meanings g.M.AliasMeaning.answer l.aliases)

abbrev pub decreases-loop-rest : goal.decreases-loop-rest
decreases-loop-rest g l = length l.rest
