use Rattle.std.proofs.Common.{sym}
use Rattle.panels.proofs.Lines.{away_none, found_first, front-none, front-some}
use Rattle.panels.proofs.words.front.Goals as goal

pub returns-in-Some : goal.returns-in-Some
returns-in-Some c =
    let text = c.args.text.now in
    let found = found_first c.args.byte text c.in-Some.at c.in-Some.ensures in
    sym (front-some c.args.byte text c.in-Some.at found.high found.here found.before)

pub returns-in-None : goal.returns-in-None
returns-in-None c = sym (front-none c.args.byte c.args.text.now (away_none c.args.byte c.args.text.now c.in-None.ensures))
