use Rattle.std.proofs.Common.{◌+◌, ◌∙◌, drop, ap, sym}
use Rattle.tcl_table.specs.declared.command.Command.TheVariants.{Outside}
use Rattle.tcl_table.specs.Table.{with_value, with_outside}
use Rattle.tcl_table.proofs.TableLemmas.{outside_at}
use Rattle.tcl_table.proofs.command.first_commands.Goals as goal

pub loop-name-preserved : goal.loop-name-preserved
loop-name-preserved c =
    let names = c.args.outside.now in
    let table = c.loop-name.table in
    ap (with_outside (drop (c.loop-name.name-index + 1) names))
    (c.in_ok-insert.ensures.ok
    ∙ ap (λ n. with_value table n (Outside c.in_ok-copy.field-0)) c.as_str.ensures.bytes
    ∙ ap (λ n. with_value table c.name-item.result (Outside n)) c.in_ok-copy.ensures.ok)
    ∙ sym (outside_at names c.loop-name.name-index table c.name-item.result c.loop-name-test.true c.name-item.is)
    ∙ c.loop-name.invariant
