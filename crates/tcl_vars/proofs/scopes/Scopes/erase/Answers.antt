-- A place whose variable is no link is unset in its own frame.
use Rattle.std.proofs.Common.{Err, Ok, rules}
use Rattle.std.proofs.lemmas.Result.{err_from_is_err_and}
use Rattle.tcl_vars.specs.Shown.{shown}
use Rattle.tcl_vars.proofs.UnsetLemmas.{without_text_at-direct}
use Rattle.tcl_vars.proofs.LinkLemmas.{led-here}
use Rattle.tcl_vars.proofs.LawLemmas.{is_there_at-IsGone}
use Rattle.tcl_vars.proofs.scopes.Scopes.erase.Goals as goal

pub returns-in_err-take : goal.returns-in_err-take
returns-in_err-take c =
    let p = err_from_is_err_and c.from_residual.result c.from_residual.ensures.1 in
    rw (p.1, p.2) record {
      ok = tt;
      refused = λ other. without_text_at-direct c.args.self.now (shown c.args.place) (Err c.in_err-take.field-0.0) c.in_err-take.ensures.refused;
      err = search rules;
      gone = tt;
    }

pub returns-then-branch : goal.returns-then-branch
returns-then-branch c =
    let unsets = rw c.if-branch.true at c.in_ok-take.ensures.ok in
    record {
      ok = without_text_at-direct c.args.self.now (shown c.args.place) (Ok c.take.new.self) unsets;
      refused = tt;
      err = tt;
      gone = is_there_at-IsGone c.args.self.now c.take.new.self (shown c.args.place) (shown c.args.place) (led-here c.args.self.now (shown c.args.place) unsets.linkless)
          (rw c.if-branch.true at c.in_ok-take.ensures.gone);
    }
