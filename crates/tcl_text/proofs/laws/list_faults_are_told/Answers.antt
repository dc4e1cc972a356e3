use Rattle.tcl_text.proofs.ListFaultsTold.{IsListFault-from_list_of}
use Rattle.tcl_text.proofs.ListFaultsMeant.{list_of-from_IsListFault}
use Rattle.tcl_text.proofs.laws.list_faults_are_told.Goals as goal

pub returns : goal.returns
returns c = λ text fault. (IsListFault-from_list_of text fault, list_of-from_IsListFault text fault)
