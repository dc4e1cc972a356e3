use Rattle.tcl_text.proofs.AsciiMarks.{marked_made}
use Rattle.tcl_text.proofs.list_string.ListString.of_string.Goals as goal

pub invariant_of-result : goal.invariant_of-result
invariant_of-result c = (c.requires, marked_made _ c.as_str.result.now _ c.is_ascii-ascii.ensures.cases c.as_str.ensures.value)
