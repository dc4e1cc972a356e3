-- Each text has one parse as an event sequence, which is what is read of it.
use Rattle.std.proofs.Common.{◌≡◌, ℕ, List, refl, sym, Result, Ok, Err}
use Rattle.tcl_text.specs.One.{One}
use Rattle.tk_sequences.specs.Grammar.{IsSequenceParse}
use Rattle.tk_sequences.specs.Reading.{read_sequence}
use Rattle.tk_sequences.specs.declared.fault.SequenceFault.{SequenceFault}
use Rattle.tk_sequences.specs.declared.sequence.Sequence.{Sequence}
use Rattle.tk_sequences.proofs.Grammars.{sequences_read, faults_told}

pub read_is_parse : (text : List ℕ) (read : Result Sequence SequenceFault) → read_sequence text ≡ read → IsSequenceParse text read
read_is_parse text (Ok sequence) e = (sequences_read text sequence).1 e
read_is_parse text (Err fault) e = (faults_told text fault).1 e

-- what the grammar relates to a text is read
pub parse_is_read : (text : List ℕ) (parse : Result Sequence SequenceFault) → IsSequenceParse text parse → parse ≡ read_sequence text
parse_is_read text (Ok sequence) is = sym ((sequences_read text sequence).0 is)
parse_is_read text (Err fault) is = sym ((faults_told text fault).0 is)

abbrev pub one_sequence_parse : (text : List ℕ) → One (IsSequenceParse text)
one_sequence_parse text = record { it = read_sequence text; holds = read_is_parse text (read_sequence text) refl; only = λ other is. parse_is_read text other is }
