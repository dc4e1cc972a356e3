use Rattle.std.proofs.lemmas.Result.{err_from_is_err_and}
use Rattle.tk_window_commands.proofs.Made.{given_refused, given_set}
use Rattle.tk_window_commands.proofs.create.configured_new.Goals as goal

pub returns-in_err-all : goal.returns-in_err-all
returns-in_err-all c =
    let p = err_from_is_err_and c.from_residual-in_err-all.result c.from_residual-in_err-all.ensures.1 in
    rw (p.1, p.2) (given_refused c.in_err-all.field-0.0 c.args.kind c.in_ok-widget.widget c.args.options.now c.in_ok-widget.ensures c.in_err-all.ensures)

pub returns : goal.returns
returns c =
    given_set c.args.kind c.in_ok-widget.widget c.args.options.now c.in_ok-all.all c.in_ok-configured.field-0 c.in_ok-widget.ensures c.in_ok-all.ensures
    c.in_ok-configured.ensures
