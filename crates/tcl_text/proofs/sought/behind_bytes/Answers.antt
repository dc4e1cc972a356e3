use Rattle.std.proofs.Common.{◌∙◌, ℕ, List, length, Option, None, subst, sym}
use Rattle.std.specs.Borrow.{Bor}
use Rattle.std.proofs.lemmas.Bool.{eqb-true}
use Rattle.tcl_text.specs.SearchSteps.{GoesOn, Remains}
use Rattle.tcl_text.proofs.SoughtLemmas.{goes_on_none, goes_on_nothing}
use Rattle.tcl_text.proofs.sought.behind_bytes.Goals as goal

pub returns-then-is_empty : goal.returns-then-is_empty
returns-then-is_empty c = goes_on_nothing c.args.left c.args.front.now (eqb-true (length c.args.front.now) 0 (sym c.is_empty.ensures ∙ c.if-is_empty.true))

pub returns-in-Some : goal.returns-in-Some
returns-in-Some c = λ item bytes h. c.rest_behind.ensures item bytes (subst (λ (left : Option (Bor (List ℕ))). Remains item bytes left) c.in-Some.is h)

pub returns-in-None : goal.returns-in-None
returns-in-None c = subst (λ (left : Option (Bor (List ℕ))). GoesOn left c.args.front.now None) (sym c.in-None.is) (goes_on_none c.args.front.now)
