-- Steps. The sequence for which a binding is sought.
use Rattle.tk_patterns.specs.declared.seeking.Wanted.{Wanted}
use Rattle.tk_patterns.specs.declared.seeking.Wanted.TheVariants as wanted
use Rattle.tk_sequences.specs.declared.sequence.Sequence.{Sequence}
use Rattle.tk_sequences.specs.declared.sequence.Sequence.TheVariants as sequences

abbrev pub sequence_of : Wanted → Sequence
sequence_of (wanted.Sequence sequence) = sequence.now
sequence_of (wanted.Name name) = sequences.Virtual name.now
