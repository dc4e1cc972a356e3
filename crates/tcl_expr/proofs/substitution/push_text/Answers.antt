use Rattle.std.proofs.Common.{◌∙◌, ap, sym}
use Rattle.std.proofs.lemmas.Result.{err_from_is_err_and}
use Rattle.tcl_expr.specs.Substitution.{text_tree}
use Rattle.tcl_expr.specs.Dues.{dues_steps, with_steps}
use Rattle.tcl_expr.proofs.DueLemmas.{text_begun, begun_fails, all_written}
use Rattle.tcl_expr.proofs.substitution.push_text.Goals as goal

pub returns-in_err-begin_text : goal.returns-in_err-begin_text
returns-in_err-begin_text c =
    let p = err_from_is_err_and c.from_residual.result c.from_residual.ensures.1 in
    let k = begun_fails c.args.room c.args.pieces.now c.new-dues.result.items c.in_err-begin_text.field-0.0 c.new-dues.ensures.items c.in_err-begin_text.ensures.goes in
    rw (p.1, p.2) k

pub returns : goal.returns
returns c =
    let e = ap (with_steps c.args.steps.now.items) (sym (text_begun c.args.room c.args.pieces.now c.new-dues.result.items c.new-dues.ensures.items)) ∙ c.in_ok-begin_text.ensures.goes in
    all_written c.args.steps.now.items c.write_dues.new.steps.items (text_tree c.args.room c.args.pieces.now) c.write_dues.result c.begin_text.new.steps.items (dues_steps c.begin_text.new.dues.items) e c.write_dues.ensures
