use Rattle.std.proofs.Common.{◌≡◌, ◌+◌, ◌<◌, ℕ, List, ◌∷◌, drop, length, ap, sym, ◌∙◌, arith}
use Rattle.std.proofs.lemmas.List.{drop_more, drop-drop}
use Rattle.tcl_control.specs.Assign.{assigned}
use Rattle.tcl_control.proofs.AssignLemmas.{name_goes}
use Rattle.tcl_control.proofs.assign.assign_names.Goals as goal

pub loop-name-preserved : goal.loop-name-preserved
loop-name-preserved c =
    let frame = c.args.frame in
    let names : List (List ℕ) = c.args.names.now in
    let at = c.loop-name.name-index in
    let inside : at < length names = omega arith in
    let cut : drop at names ≡ c.name-item.result ∷ drop (at + 1) names =
    drop_more names at c.name-item.result inside ∙ ap (λ (name : List ℕ). name ∷ drop (at + 1) names) (sym c.name-item.is) in
    record {
      same =
          name_goes frame c.name-item.result (drop (at + 1) names) c.loop-name.items c.next_value.new.items c.in_ok-value.value c.loop-name.scopes c.set_one.new.scopes c.in_ok-text.field-0 c.in_default.is
          c.in_ok-text.ensures.set c.in_ok-value.ensures.value c.in_ok-value.ensures.left
          ∙ ap (λ (those : List (List ℕ)). assigned frame those c.loop-name.items c.loop-name.scopes) (sym cut)
          ∙ c.loop-name.invariant.same;
      left = c.in_ok-value.ensures.left ∙ ap (λ (items : List (List ℕ)). drop 1 items) c.loop-name.invariant.left ∙ drop-drop 1 at c.args.items.now;
      levels = c.in_ok-text.ensures.levels ∙ c.loop-name.invariant.levels;
    }
