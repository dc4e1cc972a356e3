use Rattle.std.proofs.Common.{◌+◌, length, sym, add-one}
use Rattle.std.proofs.lemmas.List.{take_rest}
use Rattle.std.proofs.Math.Seq.{drop-length}
use Rattle.panels.proofs.Lines.{away_none, behind-none, behind-some, found_first}
use Rattle.panels.proofs.words.behind.Goals as goal

pub returns-in-Some : goal.returns-in-Some
returns-in-Some c =
    let text = c.args.text.now in
    let found = found_first c.args.byte text c.in-Some.at c.in-Some.ensures in
    rw (take_rest text (c.in-Some.at + 1), add-one) (sym (behind-some c.args.byte text c.in-Some.at found.high found.here found.before))

pub returns-in-None : goal.returns-in-None
returns-in-None c =
    let text = c.args.text.now in
    rw (take_rest text (length text), drop-length text) (sym (behind-none c.args.byte text (away_none c.args.byte text c.in-None.ensures)))
