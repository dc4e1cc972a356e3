use Rattle.tk_packer.proofs.parcel.packed_first.Goals as goal

pub taken-requires : goal.taken-requires
taken-requires c = c.pass_first.ensures _ _ c.requires.behind

pub returns-in-None-clause-behind : goal.returns-in-None-clause-behind
returns-in-None-clause-behind c = c.pass_first.ensures _ _ c.requires.behind
