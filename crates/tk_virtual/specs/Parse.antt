-- Meaning. What a text is as an event sequence.
use Rattle.std.specs.Prelude.{ℕ, List, Result}
use Rattle.tcl_text.specs.One.{One}
use Rattle.tk_sequences.proofs.Parses.{one_sequence_parse}
use Rattle.tk_sequences.specs.Grammar.{IsSequenceParse}
use Rattle.tk_sequences.specs.declared.fault.SequenceFault.{SequenceFault}
use Rattle.tk_sequences.specs.declared.sequence.Sequence.{Sequence}

-- The grammar of sequences relates one thing to each text, a sequence or a fault, and no other. This type says what it is; the proof behind it says that
-- it is there.
abbrev pub only_sequence_parse : (text : List ℕ) → One (IsSequenceParse text)
only_sequence_parse text = one_sequence_parse text

-- What a text is as a sequence: the one thing that the grammar relates to it.
abbrev pub parsed : List ℕ → Result Sequence SequenceFault
parsed text = (only_sequence_parse text).it
