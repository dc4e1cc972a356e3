-- Steps. What is written of a session, where `update` and *Settle* are what the code's jobs come to: the jobs meet their equations, and by anything
-- else that meets these the sections are the same (`AloneBySettle`).
use Rattle.std.specs.Prelude.{ℕ, List}
use Rattle.tk_app.specs.Seen.{Meaning}
use Rattle.tk_app.specs.SettleJob.{settle_meaning, update_meaning}
use Rattle.tk_session.specs.Session.{Plan}
use Rattle.tkhost.specs.Play.{program_sections_by, sections_by, sections_in_by}

module _ {M : Type 0} (answer : M → Meaning) where
  abbrev pub sections_in : Plan → List (List (List ℕ × M)) → List (List ℕ)
  sections_in = sections_in_by answer update_meaning settle_meaning

  abbrev pub sections_of : Plan → List (List (List ℕ × M)) → List ℕ
  sections_of = sections_by answer update_meaning settle_meaning

-- what the program writes of a session, by its own services
abbrev pub program_sections : Plan → List ℕ
program_sections = program_sections_by update_meaning settle_meaning
