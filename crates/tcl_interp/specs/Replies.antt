-- Steps. What an evaluation gets for what it asked.
use Rattle.std.specs.Prelude.{ℕ, List, Result, Ok, Err}
use Rattle.tcl_vars.specs.Store.{Store, variable_in, element_in}
use Rattle.tcl_text.specs.declared.fault.ReadFault.{ReadFault}
use Rattle.tcl_table.specs.Texts.{cannot_read_text, element_name}
use Rattle.tcl_expr.specs.declared.ask.Ask.{Ask}
use Rattle.tcl_expr.specs.declared.ask.Ask.TheVariants as ask
use Rattle.tcl_interp.specs.declared.expressions.Reply.{Reply}
use Rattle.tcl_interp.specs.declared.expressions.Reply.TheVariants as reply

-- the value of what was asked for by this name, or the error's text
abbrev pub found : List ℕ → Result (List ℕ) ReadFault → Reply
found name (Ok value) = reply.Given value
found name (Err fault) = reply.Missing (cannot_read_text name fault)

-- where variables are those of a level
abbrev pub reply_to : ℕ → Store → Ask → Reply
reply_to level store (ask.Variable name) = found name (variable_in store level name)
reply_to level store (ask.Element array index) = found (element_name array index) (element_in store level array index)
reply_to level store (ask.Command script) = reply.Script script
reply_to level store (ask.Value text) = reply.Value text
