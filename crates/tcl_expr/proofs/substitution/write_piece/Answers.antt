use Rattle.std.proofs.Common.{◌<◌, ◌∙◌, ap, refl, arith, Ok, Err}
use Rattle.std.proofs.lemmas.Result.{err_from_is_err_and}
use Rattle.tcl_expr.specs.Dues.{dues_steps, dues_weight, piece_weight}
use Rattle.tcl_expr.proofs.DueLemmas.{element_goes, element_weighs, last_weighs}
use Rattle.tcl_expr.proofs.substitution.write_piece.Goals as goal

pub returns-in_err-begin_text-in-Element-clause-goes : goal.returns-in_err-begin_text-in-Element-clause-goes
returns-in_err-begin_text-in-Element-clause-goes c =
    let p = err_from_is_err_and c.from_residual-in_err-begin_text-in-Element.result c.from_residual-in_err-begin_text-in-Element.ensures.1 in
    let some : 0 < c.args.room = omega (arith, c.if-room-eq0.false) in
    let k = element_goes c.args.steps.now.items (Err c.in_err-begin_text-in-Element.field-0.0) c.begin_text.new.steps.items (dues_steps c.begin_text.new.dues.items) c.args.room c.in-Element.array c.in-Element.index c.pieces.result.now
    c.args.dues.now.items c.push-in-Element.new.self.items _ some c.pieces.ensures.walk c.in_ok-push-in-Element.ensures.items refl c.in_err-begin_text-in-Element.ensures.goes in
    rw (p.1, p.2, c.in-Element.is) k

pub returns-in_ok-begin_text-in-Element-clause-goes : goal.returns-in_ok-begin_text-in-Element-clause-goes
returns-in_ok-begin_text-in-Element-clause-goes c =
    let some : 0 < c.args.room = omega (arith, c.if-room-eq0.false) in
    rw c.in-Element.is
    (element_goes c.args.steps.now.items (Ok tt) c.begin_text.new.steps.items (dues_steps c.begin_text.new.dues.items) c.args.room c.in-Element.array c.in-Element.index c.pieces.result.now
    c.args.dues.now.items c.push-in-Element.new.self.items _ some c.pieces.ensures.walk c.in_ok-push-in-Element.ensures.items refl c.in_ok-begin_text-in-Element.ensures.goes)

pub returns-in_ok-begin_text-in-Element-clause-less : goal.returns-in_ok-begin_text-in-Element-clause-less
returns-in_ok-begin_text-in-Element-clause-less c =
    let some : 0 < c.args.room = omega (arith, c.if-room-eq0.false) in
    let whole = ap (piece_weight c.args.room) c.in-Element.is ∙ element_weighs c.args.room c.in-Element.array c.in-Element.index c.pieces.result.now some c.pieces.ensures.walk in
    let mid = ap dues_weight c.in_ok-push-in-Element.ensures.items ∙ last_weighs c.args.dues.now.items _ in
    let less = c.in_ok-begin_text-in-Element.ensures.less in
    omega (arith, whole, mid, less)
