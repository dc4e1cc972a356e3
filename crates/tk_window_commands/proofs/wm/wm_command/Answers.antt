use Rattle.tk_screen.specs.Shared.{own_of}
use Rattle.tk_window_commands.proofs.Answered.{told_by}
use Rattle.tk_window_commands.proofs.wm.wm_command.Goals as goal

pub returns-clause-own : goal.returns-clause-own
returns-clause-own c =
    told_by c.wm_words.result c.answered.result (own_of c.args.slot c.wm_words.new.screen) _ c.answered.ensures c.wm_words.ensures.own
