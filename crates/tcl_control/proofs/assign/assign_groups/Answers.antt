use Rattle.std.proofs.Common.{◌≡◌, ◌+◌, ◌<◌, List, ◌∷◌, drop, length, get_or, slice_set, ap, sym, ◌∙◌, arith}
use Rattle.std.proofs.lemmas.List.{drop_more}
use Rattle.std.proofs.lemmas.List.Edits.{map_over_more}
use Rattle.tcl_commands.specs.Groups.{advanced}
use Rattle.tcl_commands.specs.declared.groups.Group.{Group}
use Rattle.tcl_control.specs.Assign.{assigned, groups_assigned}
use Rattle.tcl_control.proofs.AssignLemmas.{group_goes, next_as_it_was}
use Rattle.tcl_control.proofs.assign.assign_groups.Goals as goal

pub loop-group-preserved : goal.loop-group-preserved
loop-group-preserved c =
    let frame = c.args.frame in
    let groups : List Group = c.args.groups.now in
    let now : List Group = c.loop-group.groups in
    let at = c.loop-group.group-index in
    let group : Group = get_or now at c.group-item.result in
    let inside : at < length groups = omega arith in
    let first : group ≡ get_or groups at c.group-item.result =
    ap (λ (those : List Group). get_or those at c.group-item.result) c.loop-group.invariant.left ∙ next_as_it_was advanced groups at c.group-item.result inside in
    let cut : drop at groups ≡ group ∷ drop (at + 1) groups =
    drop_more groups at c.group-item.result inside ∙ ap (λ (one : Group). one ∷ drop (at + 1) groups) (sym first) in
    record {
      same =
          group_goes (groups_assigned frame (drop (at + 1) groups)) c.assign_group.new.scopes c.in_ok-text.field-0 (assigned frame group.names group.items c.loop-group.scopes) c.in_default.is c.in_ok-text.ensures.set
          ∙ ap (λ (those : List Group). groups_assigned frame those c.loop-group.scopes) (sym cut)
          ∙ c.loop-group.invariant.same;
      left =
          ap (λ (one : Group). slice_set now at one) (c.in_ok-text.ensures.left c.in_default.is)
          ∙ map_over_more advanced groups now at group inside c.loop-group.invariant.left (ap (λ (one : Group). get_or now at one) c.group-item.is);
      levels = c.in_ok-text.ensures.levels ∙ c.loop-group.invariant.levels;
    }
