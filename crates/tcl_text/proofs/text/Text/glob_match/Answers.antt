use Rattle.tcl_text.proofs.GlobFunction.{glob_value}
use Rattle.tcl_text.proofs.text.Text.glob_match.Goals as goal

pub returns-clause-value : goal.returns-clause-value
returns-clause-value c =
    rw (← c.as_str.ensures.bytes, ← c.as_str-2.ensures.bytes) (glob_value _ _ c.matches_whole.result c.matches_whole.ensures)
