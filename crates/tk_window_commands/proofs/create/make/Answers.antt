use Rattle.tk_options.specs.Options.{settings}
use Rattle.tk_options.specs.Rows.{options_of}
use Rattle.tk_screen.specs.Shared.{own_of}
use Rattle.tk_window_commands.specs.Create.{configured_new}
use Rattle.tk_window_commands.proofs.Made.{window_made}
use Rattle.tk_window_commands.proofs.create.make.Goals as goal

pub returns-in-Ok-clause-own : goal.returns-in-Ok-clause-own
returns-in-Ok-clause-own c =
    window_made (own_of c.args.slot c.args.screen.now) (own_of c.args.slot c.create.new.self) c.args.kind c.args.path.now c.in_ok-answer.answer c.args.scopes.now c.write_variable.new.scopes
    c.in_ok-widget.field-0 (configured_new c.args.kind (settings c.args.options.now (options_of c.args.kind)))
    c.in_ok-widget.ensures c.in_ok-write_variable.ensures c.in-Ok.ensures.own c.in_ok-answer.ensures.ok
