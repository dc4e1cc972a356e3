use Rattle.std.proofs.Common.{sym, length}
use Rattle.std.proofs.lemmas.List.{take_rest}
use Rattle.std.proofs.Math.Seq.{drop-length}
use Rattle.tk_session.proofs.LineLaws.{lines_of-cut, lines_of-last, length-cut_at}
use Rattle.tk_session.proofs.reading.cut_line.Goals as goal

pub returns-in-Some-clause-lines : goal.returns-in-Some-clause-lines
returns-in-Some-clause-lines c = lines_of-cut c.args.bytes.now _ (sym c.in-Some.ensures)

pub returns-in-Some-clause-shorter : goal.returns-in-Some-clause-shorter
returns-in-Some-clause-shorter c = length-cut_at 10 c.args.bytes.now _ (sym c.in-Some.ensures)

pub returns-in-None-clause-lines : goal.returns-in-None-clause-lines
returns-in-None-clause-lines c =
    let bytes = c.args.bytes.now in
    rw (take_rest bytes (length bytes), drop-length bytes) (lines_of-last bytes (sym c.in-None.ensures) c.requires)
