use Rattle.std.proofs.Common.{List, ℕ, subst}
use Rattle.tcl_text.specs.Answers.{Gives}
use Rattle.tcl_text.specs.ListCommands.{split_text}
use Rattle.tcl_text.proofs.ListLemmas.{white_separators}
use Rattle.tcl_text.proofs.commands.splits.split_at_white.Goals as goal

pub returns : goal.returns
returns c =
    subst (λ (separators : List ℕ). Gives c.split_text.result (split_text c.args.text.now separators)) white_separators c.split_text.ensures
