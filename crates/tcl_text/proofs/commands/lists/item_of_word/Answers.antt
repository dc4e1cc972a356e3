use Rattle.tcl_text.specs.ListCommands.{item_at}
use Rattle.tcl_text.proofs.AnswerLemmas.{items_known}
use Rattle.tcl_text.proofs.commands.lists.item_of_word.Goals as goal

pub returns-in-Some : goal.returns-in-Some
returns-in-Some c = items_known c.item_of_kept.result c.args.list.now c.in-Some.kept.now (item_at c.args.index.now) c.in-Some.ensures c.item_of_kept.ensures
