-- A place whose variable is no link is set in its own frame.
use Rattle.std.proofs.Common.{Err, Ok, rules}
use Rattle.std.proofs.lemmas.Result.{err_from_is_err_and}
use Rattle.tcl_vars.specs.Shown.{shown}
use Rattle.tcl_vars.proofs.BelowLemmas.{links_descend}
use Rattle.tcl_vars.proofs.LawLemmas.{text_at-with_text_at}
use Rattle.tcl_vars.proofs.StoreLemmas.{with_text_at-direct}
use Rattle.tcl_vars.proofs.scopes.Scopes.write.Goals as goal

pub returns-in_err-put : goal.returns-in_err-put
returns-in_err-put c =
    let p = err_from_is_err_and c.from_residual.result c.from_residual.ensures.1 in
    rw (p.1, p.2) record {
      ok = tt;
      refused = λ other. with_text_at-direct c.args.self.now (shown c.args.place) c.args.value (Err c.in_err-put.field-0.0) (c.in_err-put.ensures.refused other);
      err = search rules;
      read = tt;
    }

pub returns-in-None : goal.returns-in-None
returns-in-None c =
    let set = with_text_at-direct c.args.self.now (shown c.args.place) c.args.value (Ok c.put.new.self) (rw c.in-None.is at c.in_ok-put.ensures.ok) in
    record {
      ok = set;
      refused = tt;
      err = tt;
      read = text_at-with_text_at c.args.self.now (links_descend c.self.view_is c.self.invariant.descending) (shown c.args.place) c.requires.level c.args.value c.put.new.self set;
    }
