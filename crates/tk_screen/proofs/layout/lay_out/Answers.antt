use Rattle.std.proofs.Common.{◌∙◌, sym, subst}
use Rattle.std.specs.Prelude.{IfSome}
use Rattle.tk_tree.specs.Shared.{own_of as tree_of}
use Rattle.tk_screen.specs.declared.marks.Mark.{Mark}
use Rattle.tk_screen.specs.Own.{Windowing}
use Rattle.tk_screen.specs.Seen.{IsMarked}
use Rattle.tk_screen.specs.Shared.{own_of}
use Rattle.tk_screen.proofs.There.{there_by, laid_by}
use Rattle.tk_screen.proofs.layout.lay_out.Goals as goal

pub write_changes-requires : goal.write_changes-requires
write_changes-requires c = there_by _ _ (own_of c.args.slot c.args.screen.now) c.args.scopes.now c.as_slice.ensures.value c.in_ok-laid.ensures.changes

pub returns-clause-own : goal.returns-clause-own
returns-clause-own c =
    laid_by (own_of c.args.slot c.args.screen.now) (tree_of c.args.slot c.write_changes.new.windows) c.as_slice.result.now c.args.scopes.now (c.as_slice.ensures.value ∙ c.in_ok-laid.ensures.changes) c.write_changes.ensures.own

pub returns-clause-marked : goal.returns-clause-marked
returns-clause-marked c =
    let own = laid_by (own_of c.args.slot c.args.screen.now) (tree_of c.args.slot c.write_changes.new.windows) c.as_slice.result.now c.args.scopes.now (c.as_slice.ensures.value ∙ c.in_ok-laid.ensures.changes) c.write_changes.ensures.own in
    subst (λ (there : Windowing). IfSome c.in_ok-laid.laid.mark (λ (mark : Mark). IsMarked mark there)) (sym own) c.in_ok-laid.ensures.marked
