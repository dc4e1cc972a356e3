use Rattle.std.proofs.Common.{rules, ap, length, sym}
use Rattle.std.proofs.lemmas.Str.{chars-IsAscii, chars_from_encodes}
use Rattle.tcl_text.proofs.characters.count.Goals as goal

pub returns-then-is_ascii-clause-count : goal.returns-then-is_ascii-clause-count
returns-then-is_ascii-clause-count c = sym (ap length (chars-IsAscii c.args.text.now c.if-is_ascii.ensures.cases))

pub returns-else-is_ascii-clause-count : goal.returns-else-is_ascii-clause-count
returns-else-is_ascii-clause-count c = search (rules, chars_from_encodes)
