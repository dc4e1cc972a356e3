-- Meaning. A line by itself, without a session around it: of format 2, whose lines are those of format 1 and more.
use Rattle.std.specs.Prelude.{ℕ, List}
use Rattle.tk_session.specs.Session.{IsEventLine}
use Rattle.tk_session.specs.declared.session.AppBlock.{AppBlock}
use Rattle.tk_session.specs.declared.session.EventLine.{EventLine}
use Rattle.tk_session.specs.declared.stage.Format.TheVariants.{Second}

-- the line says this event, of these applications
abbrev pub IsLineOfEvent : List AppBlock → List ℕ → EventLine → Type 0
IsLineOfEvent apps line event = IsEventLine Second apps line event
