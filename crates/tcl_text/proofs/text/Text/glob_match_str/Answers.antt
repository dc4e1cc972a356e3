use Rattle.tcl_text.proofs.GlobFunction.{glob_value}
use Rattle.tcl_text.proofs.text.Text.glob_match_str.Goals as goal

pub returns : goal.returns
returns c = rw (← c.as_str.ensures.bytes) (glob_value _ _ c.matches_whole.result c.matches_whole.ensures)
