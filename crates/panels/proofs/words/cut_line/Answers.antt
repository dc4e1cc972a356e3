use Rattle.std.proofs.Common.{◌+◌, length, add-one}
use Rattle.std.proofs.lemmas.List.{take_rest}
use Rattle.std.proofs.Math.Seq.{drop-length}
use Rattle.panels.proofs.Lines.{away_none, found_first, lines-none, lines-some}
use Rattle.panels.proofs.words.cut_line.Goals as goal

pub returns-in-Some-clause-lines : goal.returns-in-Some-clause-lines
returns-in-Some-clause-lines c =
    let text = c.args.text.now in
    let found = found_first 10 text c.in-Some.at c.in-Some.ensures in
    rw (take_rest text (c.in-Some.at + 1), add-one) (lines-some text c.in-Some.at found.high found.here found.before)

pub returns-in-None-clause-lines : goal.returns-in-None-clause-lines
returns-in-None-clause-lines c =
    let text = c.args.text.now in
    rw (take_rest text (length text), drop-length text) (lines-none text (away_none 10 text c.in-None.ensures) c.requires)
