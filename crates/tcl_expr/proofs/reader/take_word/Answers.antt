use Rattle.tcl_expr.proofs.OperandBytes.{word_utf8}
use Rattle.tcl_expr.proofs.reader.take_word.Goals as goal

pub text_of-requires-clause-utf8 : goal.text_of-requires-clause-utf8
text_of-requires-clause-utf8 c = word_utf8 c.args.text.now c.name_bytes-count.result c.name_bytes-count.ensures.count
