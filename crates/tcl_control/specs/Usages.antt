-- Meaning. How each command is used, and what is told where its words are too few or too many.
use Rattle.std.specs.Prelude.{ℕ, List, codes}
use Rattle.tcl_control.specs.declared.usages.Usage.{Usage}
use Rattle.tcl_control.specs.declared.usages.Usage.TheVariants.{Break, Continue, Error, Catch, Return, Eval, Expr, While, For, Foreach, If, Switch, Proc, Rename, Uplevel, Upvar, Info, InfoLevel}
use Rattle.tcl_commands.specs.Links.{upvar_usage}
use Rattle.tcl_text.specs.Messages.{message, wrong_args_text}

abbrev pub usage_text : Usage → List ℕ
usage_text Break = codes "break"
usage_text Continue = codes "continue"
usage_text Error = codes "error message"
usage_text Catch = codes "catch script ?name?"
usage_text Return = codes "return ?-code code? ?value?"
usage_text Eval = codes "eval arg ?arg ..?"
usage_text Expr = codes "expr arg ?arg ..?"
usage_text While = codes "while cond body"
usage_text For = codes "for start cond next body"
usage_text Foreach = codes "foreach names list ?names list ..? body"
usage_text If = codes "if cond ?then? body ?elseif cond ?then? body ..? ?else? ?body?"
usage_text Switch = codes "switch ?-exact|-glob? ?--? value pairs"
usage_text Proc = codes "proc name params body"
usage_text Rename = codes "rename old new"
usage_text Uplevel = codes "uplevel ?level? arg ?arg ..?"
usage_text Upvar = upvar_usage
usage_text Info = codes "info option ?arg ..?"
usage_text InfoLevel = codes "info level"

abbrev pub misused_text : Usage → List ℕ
misused_text usage = message (wrong_args_text (usage_text usage))
