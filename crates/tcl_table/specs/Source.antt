-- Meaning. What a text is as a script.
use Rattle.std.specs.Prelude.{ℕ, List, Result}
use Rattle.tcl_words.proofs.Parses.{one_script_parse}
use Rattle.tcl_words.specs.Grammar.{IsScriptParse}
use Rattle.tcl_text.specs.One.{One}
use Rattle.tcl_words.specs.declared.script.Command.{Command}
use Rattle.tcl_text.specs.declared.fault.ParseFault.{ParseFault}

-- The grammar of scripts relates one thing to each text, its commands or its fault, and no other. This type says what it is; the proof behind it
-- says that it is there.
abbrev pub only_script_parse : (text : List ℕ) → One (IsScriptParse text)
only_script_parse text = one_script_parse text

-- What a text is as a script: the one thing that the grammar relates to it.
unfoldable pub script_of : List ℕ → Result (List Command) ParseFault
script_of text = (only_script_parse text).it
