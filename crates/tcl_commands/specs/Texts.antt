-- Meaning. The errors of commands on variables.
use Rattle.std.specs.Prelude.{ℕ, List, Result}
use Rattle.tcl_text.specs.Answers.{fails}
use Rattle.tcl_text.specs.FaultTexts.{read_text, set_text, unset_text, link_text}
use Rattle.tcl_text.specs.declared.fault.ReadFault.{ReadFault}
use Rattle.tcl_text.specs.declared.fault.SetFault.{SetFault}
use Rattle.tcl_text.specs.declared.fault.UnsetFault.{UnsetFault}
use Rattle.tcl_text.specs.declared.fault.LinkFault.{LinkFault}

abbrev pub cannot_read : {T : Type 0} → List ℕ → ReadFault → Result T (List ℕ)
cannot_read name fault = fails (read_text name fault)

abbrev pub cannot_set : {T : Type 0} → List ℕ → SetFault → Result T (List ℕ)
cannot_set name fault = fails (set_text name fault)

abbrev pub cannot_unset : {T : Type 0} → List ℕ → UnsetFault → Result T (List ℕ)
cannot_unset name fault = fails (unset_text name fault)

abbrev pub cannot_link : {T : Type 0} → List ℕ → LinkFault → Result T (List ℕ)
cannot_link name fault = fails (link_text name fault)
