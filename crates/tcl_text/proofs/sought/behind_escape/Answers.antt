use Rattle.std.proofs.Common.{ap, sym, subst, arith}
use Rattle.tcl_text.specs.Backslash.{Escape}
use Rattle.tcl_text.specs.SearchSteps.{GoesOn}
use Rattle.tcl_text.proofs.BackslashLemmas.{escape_within}
use Rattle.tcl_text.proofs.sought.behind_escape.Goals as goal

pub returns-in-Some-clause-goes_on : goal.returns-in-Some-clause-goes_on
returns-in-Some-clause-goes_on c = subst (λ (e : Escape). GoesOn c.args.left e.meaning c.behind_bytes.result) (sym c.in-Some.ensures) c.behind_bytes.ensures

pub returns-in-Some-clause-taken : goal.returns-in-Some-clause-taken
returns-in-Some-clause-taken c = sym (ap (λ (e : Escape). e.length) c.in-Some.ensures)

pub returns-in-Some-clause-within : goal.returns-in-Some-clause-within
returns-in-Some-clause-within c = omega (arith, escape_within c.args.behind.now, ap (λ (e : Escape). e.length) c.in-Some.ensures)

pub returns-in-None-clause-goes_on : goal.returns-in-None-clause-goes_on
returns-in-None-clause-goes_on c = subst (λ (e : Escape). GoesOn c.args.left e.meaning c.behind_meaning.result) c.escape_behind-escape.ensures.exact c.behind_meaning.ensures

pub returns-in-None-clause-taken : goal.returns-in-None-clause-taken
returns-in-None-clause-taken c = ap (λ (e : Escape). e.length) c.escape_behind-escape.ensures.exact
