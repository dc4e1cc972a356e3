use Rattle.tcl_commands.proofs.PairsCut.{arms_read, arms_cut}
use Rattle.tcl_commands.proofs.laws.switch_items_are_pairs.Goals as goal

pub returns-clause-arms : goal.returns-clause-arms
returns-clause-arms c = arms_read

pub returns-clause-only : goal.returns-clause-only
returns-clause-only c = arms_cut
