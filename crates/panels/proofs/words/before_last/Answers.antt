use Rattle.std.proofs.Common.{sym}
use Rattle.panels.proofs.Lines.{away_none_last, before_last-none, before_last-some, found_last}
use Rattle.panels.proofs.words.before_last.Goals as goal

pub returns-in-Some : goal.returns-in-Some
returns-in-Some c = sym (before_last-some c.args.byte c.args.text.now c.in-Some.at (found_last c.args.byte c.args.text.now c.in-Some.at c.in-Some.ensures))

pub returns-in-None : goal.returns-in-None
returns-in-None c = sym (before_last-none c.args.byte c.args.text.now (away_none_last c.args.byte c.args.text.now c.in-None.ensures))
