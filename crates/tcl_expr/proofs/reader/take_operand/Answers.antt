use Rattle.std.proofs.Common.{◌≡◌}
use Rattle.tcl_expr.specs.declared.tokens.Mark.TheVariants as mark
use Rattle.tcl_expr.proofs.OperandBytes.{behind_utf8}
use Rattle.tcl_expr.proofs.OperandLemmas.{mark_here, dollar_is_due, bracket_is_due, quotes_are_due}
use Rattle.tcl_expr.proofs.reader.take_operand.Goals as goal

pub returns-in-Dollar : goal.returns-in-Dollar
returns-in-Dollar c =
    dollar_is_due c.args.parser.now c.take_dollar.result c.take_dollar.new.parser c.args.source.now c.args.at c.requires.within
    (mark_here c.as_bytes.result.now c.args.source.now c.args.at mark.Dollar c.requires.within c.as_bytes.ensures.value c.in-Dollar.ensures.mark) c.take_dollar.ensures

pub returns-in-OpenBracket : goal.returns-in-OpenBracket
returns-in-OpenBracket c =
    bracket_is_due c.args.parser.now c.take_bracket.result c.take_bracket.new.parser c.args.source.now c.args.at c.requires.within
    (mark_here c.as_bytes.result.now c.args.source.now c.args.at mark.OpenBracket c.requires.within c.as_bytes.ensures.value c.in-OpenBracket.ensures.mark) c.take_bracket.ensures

pub returns-in-Quote : goal.returns-in-Quote
returns-in-Quote c =
    quotes_are_due c.args.parser.now c.take_quotes.result c.take_quotes.new.parser c.args.source.now c.args.at c.requires.within
    (mark_here c.as_bytes.result.now c.args.source.now c.args.at mark.Quote c.requires.within c.as_bytes.ensures.value c.in-Quote.ensures.mark) c.take_quotes.ensures

pub take_braces-requires-clause-utf8 : goal.take_braces-requires-clause-utf8
take_braces-requires-clause-utf8 c =
    behind_utf8 c.as_bytes.result.now c.args.source.now c.args.at c.as_bytes.ensures.value c.requires.within c.utf8.source
    (c.in-OpenBrace.ensures.ascii (λ (e : mark.OpenBrace ≡ mark.Other). cc))
