-- Meaning. What the laws of the grammar say.
use Rattle.std.specs.Prelude.{◌≡◌, ◌↔◌, ◌⊎◌, ℕ, List, Ok, Err}
use Rattle.tk_sequences.specs.Grammar.{IsSequence, HasFault}
use Rattle.tk_sequences.specs.Reading.{read_sequence}
use Rattle.tk_sequences.specs.declared.fault.SequenceFault.{SequenceFault}
use Rattle.tk_sequences.specs.declared.sequence.Sequence.{Sequence}

-- the sequences that are read are those of the grammar
abbrev pub SequencesAreRead : Type 0
SequencesAreRead = (text : List ℕ) (sequence : Sequence) → IsSequence text sequence ↔ (read_sequence text ≡ Ok sequence)

-- the faults that are told are those of the grammar
abbrev pub FaultsAreTold : Type 0
FaultsAreTold = (text : List ℕ) (fault : SequenceFault) → HasFault text fault ↔ (read_sequence text ≡ Err fault)

-- each text is a sequence or has a fault
abbrev pub IsOneOrOther : Type 0
IsOneOrOther = (text : List ℕ) → ((sequence : Sequence) × IsSequence text sequence) ⊎ ((fault : SequenceFault) × HasFault text fault)

-- and no more than one
abbrev pub IsOneSequence : Type 0
IsOneSequence = (text : List ℕ) (sequence other : Sequence) → IsSequence text sequence → IsSequence text other → sequence ≡ other

abbrev pub IsOneFault : Type 0
IsOneFault = (text : List ℕ) (fault other : SequenceFault) → HasFault text fault → HasFault text other → fault ≡ other

abbrev pub IsNotBoth : Type 0
IsNotBoth = (text : List ℕ) (sequence : Sequence) (fault : SequenceFault) → IsSequence text sequence → ¬ HasFault text fault
