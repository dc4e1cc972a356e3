-- A script is what is read of its text.
use Rattle.std.proofs.Common.{◌≡◌, ℕ, List, Ok, Err, IsOk, sym, ◌∙◌, subst}
use Rattle.tcl_words.specs.Grammar.{IsScriptOf, IsScriptFault}
use Rattle.tcl_words.specs.Reading.{commands_of}
use Rattle.tcl_words.specs.declared.script.Command.{Command}
use Rattle.tcl_text.specs.declared.fault.ParseFault.{ParseFault}
use Rattle.tcl_words.proofs.Parses.{parse_is_read, one_script_parse}
use Rattle.tcl_table.specs.Source.{script_of}

pub script_walk : (text : List ℕ) → script_of text ≡ commands_of text
unfolding script_of
script_walk text = parse_is_read text (one_script_parse text).it (one_script_parse text).holds

-- what was read is a script
pub script_read : (text : List ℕ) (commands : List Command) → commands_of text ≡ Ok commands → IsOk (script_of text)
script_read text commands read =
    let is : script_of text ≡ Ok commands = script_walk text ∙ read in
    search

pub script_is : (text : List ℕ) (commands : List Command) → IsScriptOf text commands → script_of text ≡ Ok commands
unfolding script_of
script_is text commands is = sym ((one_script_parse text).only (Ok commands) is)

pub fault_is : (text : List ℕ) (fault : ParseFault) → IsScriptFault text fault → script_of text ≡ Err fault
unfolding script_of
fault_is text fault is = sym ((one_script_parse text).only (Err fault) is)
