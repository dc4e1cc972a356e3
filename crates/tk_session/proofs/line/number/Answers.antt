use Rattle.std.proofs.Common.{sym, arith}
use Rattle.tk_session.proofs.Lines.{IsUtf8-numeral, parse_numeral, number_of-large}
use Rattle.tk_session.proofs.line.number.Goals as goal

pub as_text-requires : goal.as_text-requires
as_text-requires c = IsUtf8-numeral c.args.text.now (sym c.if-not-is_decimal.ensures)

pub returns-in_default-3-clause-number : goal.returns-in_default-3-clause-number
returns-in_default-3-clause-number c =
    let text = c.args.text.now in
    let parsed = rw c.as_text.ensures at c.parse.ensures.value.0 in
    let answer = parse_numeral text c.parse.result (sym c.if-not-is_decimal.ensures) parsed in
    sym (number_of-large c.args.least c.args.most text (omega arith) (rw c.in_default.is at answer))
