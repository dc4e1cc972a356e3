use Rattle.tk_screen.specs.Shared.{own_of}
use Rattle.tk_window_commands.proofs.Answered.{done_by}
use Rattle.tk_window_commands.proofs.create.create_command.Goals as goal

pub returns-clause-own : goal.returns-clause-own
returns-clause-own c =
    done_by c.create_words.result c.answered.result (own_of c.args.slot c.create_words.new.screen) c.create_words.new.scopes _ c.answered.ensures c.create_words.ensures.own
