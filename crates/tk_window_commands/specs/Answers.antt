-- Meaning. What commands on windows leave and answer.
use Rattle.std.specs.Prelude.{ℕ, List, ◌++◌, codes}
use Rattle.tcl_text.specs.Answers.{Answer, fails, quoted}
use Rattle.tcl_vars.specs.Store.{Store}
use Rattle.tk_screen.specs.Own.{Windowing}

-- the application's part of the screen and its variables after a command, and the command's answer
pub record Done : Type 0 where
  pub own : Windowing
  pub store : Store
  pub answer : Answer

-- nothing is changed, and this is the answer
abbrev pub keeps : Windowing → Store → Answer → Done
keeps own store answer = record { own = own; store = store; answer = answer }

-- the same of a command that has to do with no variables
pub record Told : Type 0 where
  pub own : Windowing
  pub answer : Answer

abbrev pub stays : Windowing → Answer → Told
stays own answer = record { own = own; answer = answer }
