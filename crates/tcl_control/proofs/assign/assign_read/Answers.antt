use Rattle.std.proofs.Common.{◌≡◌, ℕ, List, ◌∷◌, Option, subst, ◌∙◌}
use Rattle.tcl_text.specs.ListCursor.{TakesFirst}
use Rattle.tcl_control.proofs.AssignLemmas.{name_read, items_left}
use Rattle.tcl_control.proofs.assign.assign_read.Goals as goal

pub loop-rest-preserved : goal.loop-rest-preserved
loop-rest-preserved c =
    let rest : List (List ℕ) = c.loop-rest.rest in
    let others : List (List ℕ) = c.take_first.new.self in
    let cut : rest ≡ c.in-Some.name ∷ others = subst (λ (item : Option (List ℕ)). TakesFirst rest item others) c.in-Some.is c.in_ok-name.ensures.ok in
    record {
      same =
          name_read c.args.frame rest others c.in-Some.name c.loop-rest.items c.next_value.new.items c.in_ok-value.value c.loop-rest.scopes c.set_one.new.scopes c.in_ok-text.field-0 cut c.in_default-2.is
          c.in_ok-text.ensures.set c.in_ok-value.ensures.value c.in_ok-value.ensures.left
          ∙ c.loop-rest.invariant.same;
      left = items_left rest others c.in-Some.name c.loop-rest.items c.next_value.new.items cut c.in_ok-value.ensures.left ∙ c.loop-rest.invariant.left;
      levels = c.in_ok-text.ensures.levels ∙ c.loop-rest.invariant.levels;
    }
