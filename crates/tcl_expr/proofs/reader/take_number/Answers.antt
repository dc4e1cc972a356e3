use Rattle.tcl_expr.proofs.OperandBytes.{number_utf8}
use Rattle.tcl_expr.proofs.reader.take_number.Goals as goal

pub text_of-requires-clause-utf8 : goal.text_of-requires-clause-utf8
text_of-requires-clause-utf8 c = number_utf8 c.args.text.now c.number_length-count.result c.number_length-count.ensures.length
