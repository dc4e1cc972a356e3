-- Meaning. The texts and numbers of refusals.
use Rattle.std.specs.Prelude.{ℕ, List, ◌++◌, Option, Some, None, codes}
use Rattle.tcl_text.specs.Answers.{missing_value_text, quoted}
use Rattle.tk_options.specs.declared.fault.OptionFault.{OptionFault}
use Rattle.tk_options.specs.declared.fault.OptionFault.TheVariants.{UnknownOption, Ambiguous, BadValue, NoValue, NoMemory}

abbrev pub fault_number : OptionFault → Option ℕ
fault_number (UnknownOption word) = Some 20
fault_number (Ambiguous word) = Some 21
fault_number (BadValue value word) = Some 22
fault_number (NoValue word) = Some 23
fault_number NoMemory = None

abbrev pub bad_value_text : List ℕ → List ℕ → List ℕ
bad_value_text value word = (codes "bad value " ++ (quoted value ++ codes " for option ")) ++ quoted word

unfoldable pub fault_text : OptionFault → List ℕ
fault_text (UnknownOption word) = codes "unknown option " ++ quoted word
fault_text (Ambiguous word) = codes "ambiguous option " ++ quoted word
fault_text (BadValue value word) = bad_value_text value word
fault_text (NoValue word) = missing_value_text word
fault_text NoMemory = codes "out of memory"
