use Rattle.std.proofs.Common.{Ok, Err, subst, sym}
use Rattle.std.proofs.lemmas.Result.{err_from_is_err_and}
use Rattle.tk_session.specs.Session.{Plan}
use Rattle.tk_session.proofs.Sound.{IsExact, IsExact-from_reads, IsAllowed-from_session}
use Rattle.tk_session.proofs.reading.read_session.Goals as goal
use Rattle.tk_session.proofs.reading.read_session.Goals.{After-from_residual, After-new, In_ok-apps}

-- what is refused, and what is read
refused : (c : After-from_residual) → IsExact c.args.bytes.now c.from_residual.result
refused c =
    let exit = err_from_is_err_and c.from_residual.result c.from_residual.ensures.1 in
    rw (exit.1, exit.2) (IsExact-from_reads c.args.bytes.now (Err c.in_err-apps.field-0.0) c.in_err-apps.ensures)

found : (c : In_ok-apps) → IsExact c.args.bytes.now (Ok (record { apps = c.in_ok-apps.apps; events = c.in_ok-apps.events; end = c.in_ok-apps.end }))
found c = IsExact-from_reads c.args.bytes.now (Ok (c.in_ok-apps.apps, c.in_ok-apps.events, c.in_ok-apps.end)) c.in_ok-apps.ensures

read : (c : After-new) → IsExact c.args.bytes.now (Ok c.new.result)
read c =
    let P : Plan → Type 0 = λ plan. IsExact c.args.bytes.now (Ok plan) in
    subst P (sym c.new.ensures) (IsExact-from_reads c.args.bytes.now (Ok (c.in_ok-apps.apps, c.in_ok-apps.events, c.in_ok-apps.end)) c.in_ok-apps.ensures)

pub returns-in_err-apps-clause-answer : goal.returns-in_err-apps-clause-answer
returns-in_err-apps-clause-answer c = (refused c).holds

pub returns-in_err-apps-clause-whole : goal.returns-in_err-apps-clause-whole
returns-in_err-apps-clause-whole c = (refused c).whole

pub returns-in_err-apps-clause-faulty : goal.returns-in_err-apps-clause-faulty
returns-in_err-apps-clause-faulty c = (refused c).faulty

pub new-requires : goal.new-requires
new-requires c = IsAllowed-from_session c.args.bytes.now _ (found c).holds

pub returns-clause-answer : goal.returns-clause-answer
returns-clause-answer c = (read c).holds

pub returns-clause-whole : goal.returns-clause-whole
returns-clause-whole c = (read c).whole

pub returns-clause-faulty : goal.returns-clause-faulty
returns-clause-faulty c = (read c).faulty
