use Rattle.std.proofs.Common.{◌∙◌, ap}
use Rattle.std.proofs.lemmas.Result.{IfOk-weaker}
use Rattle.tcl_table.specs.Names.{plain_name}
use Rattle.tcl_control.proofs.CallLemmas.{builtin_called}
use Rattle.tcl_control.proofs.control.call_command.Goals as goal

pub returns-in-Some-Builtin : goal.returns-in-Some-Builtin
returns-in-Some-Builtin c =
    IfOk-weaker c.builtin_call.result _ _ (λ _ called.
    builtin_called c.args.name.now c.plain_name-plain.result.now c.args.words.now c.args.scopes.now c.args.context.now c.in-Some-Builtin.builtin c.is_dotted.result _
    (c.plain_name-plain.ensures ∙ ap plain_name c.as_str.ensures.bytes) c.is_dotted.ensures c.if-is_dotted.false
    (rw c.in-Some-Builtin.field-0-is at c.in-Some-Builtin.ensures) called) c.builtin_call.ensures
