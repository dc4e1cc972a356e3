use Rattle.tcl_commands.proofs.PairsCut.{groups_read, faults_read, groups_cut, faults_cut}
use Rattle.tcl_commands.proofs.laws.foreach_words_are_cut.Goals as goal

pub returns-clause-groups : goal.returns-clause-groups
returns-clause-groups c = groups_read c.lists_are_read.ensures c.list_faults_are_told.ensures

pub returns-clause-fault : goal.returns-clause-fault
returns-clause-fault c = faults_read c.lists_are_read.ensures c.list_faults_are_told.ensures

pub returns-clause-only_groups : goal.returns-clause-only_groups
returns-clause-only_groups c = groups_cut c.lists_are_read.ensures c.list_faults_are_told.ensures

pub returns-clause-only_fault : goal.returns-clause-only_fault
returns-clause-only_fault c = faults_cut c.lists_are_read.ensures c.list_faults_are_told.ensures
