-- Meaning. The texts of errors.
use Rattle.std.specs.Prelude.{ℕ, List, ◌++◌, codes}
use Rattle.tcl_text.specs.Messages.{quoted}
use Rattle.tcl_text.specs.FaultTexts.{read_text, set_text}
use Rattle.tcl_text.specs.declared.fault.ReadFault.{ReadFault}
use Rattle.tcl_text.specs.declared.fault.SetFault.{SetFault}
pub use Rattle.tcl_text.specs.Messages.{limit_text, message}
pub use Rattle.tcl_vars.specs.Texts.{element_name}

abbrev pub nesting_text : List ℕ
nesting_text = codes "too many nested evaluations (infinite loop?)"

-- a break and a continue that no loop takes
abbrev pub break_outside : List ℕ
break_outside = codes "invoked \"break\" outside of a loop"

abbrev pub continue_outside : List ℕ
continue_outside = codes "invoked \"continue\" outside of a loop"

abbrev pub unknown_command : List ℕ → List ℕ
unknown_command name = message (codes "invalid command name " ++ quoted name)

abbrev pub cannot_read_text : List ℕ → ReadFault → List ℕ
cannot_read_text name fault = message (read_text name fault)

abbrev pub cannot_set_text : List ℕ → SetFault → List ℕ
cannot_set_text name fault = message (set_text name fault)
