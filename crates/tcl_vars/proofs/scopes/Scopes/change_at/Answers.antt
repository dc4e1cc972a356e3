-- A place whose variable is no link is changed in its own frame.
use Rattle.std.proofs.Common.{rules}
use Rattle.std.proofs.lemmas.Result.{err_from_is_err_and}
use Rattle.tcl_vars.specs.Shown.{shown}
use Rattle.tcl_vars.proofs.ChangeLemmas.{ChangesAt-direct, KeepsAt-direct}
use Rattle.tcl_vars.proofs.scopes.Scopes.change_at.Goals as goal

pub returns-in_err-done : goal.returns-in_err-done
returns-in_err-done c =
    let p = err_from_is_err_and c.from_residual.result c.from_residual.ensures.1 in
    rw (p.1, p.2) record {
      ok = tt;
      refused = λ other. KeepsAt-direct c.args.self.now (shown c.args.place) c.args.edit c.in_err-done.field-0.0 (c.in_err-done.ensures.refused other);
      err = search rules;
    }

pub returns-then-done : goal.returns-then-done
returns-then-done c = record {
  ok = ChangesAt-direct c.args.self.now (shown c.args.place) c.args.edit c.change_here.new.self (rw c.if-done.true at c.in_ok-done.ensures.ok);
  refused = tt;
  err = tt;
}
