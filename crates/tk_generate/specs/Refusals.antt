-- Meaning. The errors of words.
use Rattle.std.specs.Prelude.{ℕ, List, ◌++◌, Option, Some, None, Result, Ok, codes}
use Rattle.tcl_text.specs.Answers.{fails, quoted}
use Rattle.tk_options.specs.declared.fault.OptionFault.{OptionFault}
use Rattle.tk_options.specs.declared.fault.OptionFault.TheVariants.{BadValue}
use Rattle.tk_options.specs.FaultTexts.{fault_text}
use Rattle.tk_sequences.specs.declared.fault.SequenceFault.{SequenceFault}
use Rattle.tk_sequences.specs.FaultTexts as sequences

abbrev pub option_refused : {T : Type 0} → OptionFault → Result T (List ℕ)
option_refused fault = fails (fault_text fault)

abbrev pub sequence_refused : {T : Type 0} → SequenceFault → Result T (List ℕ)
sequence_refused fault = fails (sequences.fault_text fault)

-- what a value of an option was read as, if the option takes it
abbrev pub or_bad_value : {T : Type 0} → List ℕ → List ℕ → Option T → Result T (List ℕ)
or_bad_value option value (Some read) = Ok read
or_bad_value option value None = option_refused (BadValue value option)
