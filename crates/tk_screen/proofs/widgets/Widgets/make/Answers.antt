use Rattle.std.proofs.Common.{refl, sym, ap}
use Rattle.std.specs.Prelude.{is_some}
use Rattle.tk_screen.proofs.Rows.{on_err, written_back}
use Rattle.tk_screen.proofs.widgets.Widgets.make.Goals as goal

pub returns-in_err-act-clause-err : goal.returns-in_err-act-clause-err
returns-in_err-act-clause-err c =
    let put = c.get_mut-2.follows.lender c.make.new.self in
    let through = c.get_mut.follows.holds put in
    on_err _ _ (written_back c.args.self.now.rows (c.get_mut.follows.lender put) c.args.win.owner c.args.win.number c.in-Some.row.now put c.in-Some-get_mut.widget.now c.make.new.self c.in-Some.ensures.value
    (through.3 (sym (ap is_some c.in-Some.ensures.value))).1 c.in-Some-get_mut.ensures.value (c.get_mut-2.follows.holds c.make.new.self).0 c.in_err-act.ensures.err)
