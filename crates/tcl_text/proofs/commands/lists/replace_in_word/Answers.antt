use Rattle.tcl_text.specs.ListCommands.{replaced}
use Rattle.tcl_text.proofs.AnswerLemmas.{items_known}
use Rattle.tcl_text.proofs.commands.lists.replace_in_word.Goals as goal

pub returns-in-Some : goal.returns-in-Some
returns-in-Some c = items_known c.replace_kept.result c.args.list.now c.in-Some.kept.now (replaced c.args.first.now c.args.last.now c.args.values.now) c.in-Some.ensures c.replace_kept.ensures
