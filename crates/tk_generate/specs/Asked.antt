-- Meaning. Which event a pattern names.
use Rattle.std.specs.Prelude.{ℕ, Bool, false, List, [], ◌∷◌, Result, Ok, Err, if◌then◌else◌}
use Rattle.tk_generate.specs.declared.asked.EventRequest.{EventRequest}
use Rattle.tk_generate.specs.declared.asked.EventRequest.TheVariants as asks
use Rattle.tk_generate.specs.Refusals.{sequence_refused}
use Rattle.tk_sequences.specs.declared.fault.SequenceFault.{SequenceFault}
use Rattle.tk_sequences.specs.declared.fault.SequenceFault.TheVariants.{BadSequence}
use Rattle.tk_sequences.specs.declared.pattern.Pattern.{Pattern}
use Rattle.tk_sequences.specs.declared.sequence.Sequence.{Sequence}
use Rattle.tk_sequences.specs.declared.sequence.Sequence.TheVariants.{Virtual, Physical}
use Rattle.tk_virtual.specs.Parse.{parsed}
use Rattle.tk_sequences.specs.Words.{is_single}
use Rattle.tk_sequences.specs.Types.{is_key_type}

-- one pattern, without `Double`, `Triple` and `Quadruple`
abbrev pub one_pattern : List ℕ → List Pattern → Result EventRequest (List ℕ)
one_pattern text (pattern ∷ []) = if is_single pattern.times then Ok (asks.Physical pattern) else sequence_refused (BadSequence text)
one_pattern text patterns = sequence_refused (BadSequence text)

abbrev pub asked_by : List ℕ → Result Sequence SequenceFault → Result EventRequest (List ℕ)
asked_by text (Ok (Virtual name)) = Ok (asks.Virtual name)
asked_by text (Ok (Physical patterns)) = one_pattern text patterns
asked_by text (Err fault) = sequence_refused fault

-- the event that a text names
unfoldable pub asked_in : List ℕ → Result EventRequest (List ℕ)
asked_in text = asked_by text (parsed text)

-- whether a key is pressed or released
abbrev pub is_for_keys : EventRequest → Bool
is_for_keys (asks.Physical pattern) = is_key_type pattern.kind
is_for_keys (asks.Virtual name) = false
