-- Meaning. A bench is a session.
use Rattle.std.specs.Prelude.{List}
use Rattle.tk_session.specs.Session.{Plan}
use Rattle.tk_session.specs.declared.session.EventLine.{EventLine}
use Rattle.panels.specs.declared.bench.Bench.{Bench}

-- what a bench says as a session, where its gestures became these lines
abbrev pub plan_of : Bench → List EventLine → Plan
plan_of bench events = record { apps = bench.panels.items; events = events; end = bench.end }
