use Rattle.tcl_words.proofs.Indices.{index_pieces_of-index, index-index_pieces_of, index_pieces_of-fault, fault-index_pieces_of}
use Rattle.tcl_words.proofs.laws.indices_are_read.Goals as goal

pub returns-clause-index : goal.returns-clause-index
returns-clause-index c = index_pieces_of-index

pub returns-clause-only_index : goal.returns-clause-only_index
returns-clause-only_index c = index-index_pieces_of

pub returns-clause-fault : goal.returns-clause-fault
returns-clause-fault c = index_pieces_of-fault

pub returns-clause-only_fault : goal.returns-clause-only_fault
returns-clause-only_fault c = fault-index_pieces_of
