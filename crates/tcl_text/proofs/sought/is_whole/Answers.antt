use Rattle.std.proofs.Common.{◌∙◌, ℕ, List, Option, subst}
use Rattle.std.specs.Borrow.{Bor}
use Rattle.tcl_text.specs.SearchSteps.{Remains}
use Rattle.tcl_text.proofs.SoughtLemmas.{whole_none, whole_some}
use Rattle.tcl_text.proofs.sought.is_whole.Goals as goal

pub returns-in-Some : goal.returns-in-Some
returns-in-Some c = λ item bytes h. c.is_empty.ensures ∙ whole_some c.in-Some.rest.now item bytes (subst (λ (left : Option (Bor (List ℕ))). Remains item bytes left) c.in-Some.is h)

pub returns-in-None : goal.returns-in-None
returns-in-None c = λ item bytes h. whole_none item bytes (subst (λ (left : Option (Bor (List ℕ))). Remains item bytes left) c.in-None.is h)
