use Rattle.std.proofs.Common.{◌∙◌, ◌≡◌, ◌∷◌, ◌++◌, [], ap, refl, arith}
use Rattle.tcl_expr.specs.declared.substitution.Due.TheVariants as due
use Rattle.tcl_expr.specs.Dues.{written_before, text_steps, dues_steps, with_steps, text_weight}
use Rattle.tcl_expr.proofs.DueLemmas.{text_goes, two_weigh}
use Rattle.tcl_expr.proofs.substitution.begin_text.Goals as goal

pub returns-in_ok-push-in-Some-2-clause-goes : goal.returns-in_ok-push-in-Some-2-clause-goes
returns-in_ok-push-in-Some-2-clause-goes c =
    let cut : c.args.pieces.now ≡ c.in-Some.own.now ∷ c.in-Some.others.now = c.in-Some.ensures.cases.0 in
    let e : c.push-in-Some.new.self.items ≡ (c.args.dues.now.items ++ due.Others c.in-Some.others c.args.room ∷ []) ++ due.Piece c.in-Some.own c.args.room ∷ [] = c.in_ok-push-in-Some-2.ensures.items ∙ ap (λ l. l ++ due.Piece c.in-Some.own c.args.room ∷ []) c.in_ok-push-in-Some.ensures.items in
    ap (λ l. with_steps c.args.steps.now.items (written_before (text_steps c.args.room l) (dues_steps c.args.dues.now.items))) cut
    ∙ text_goes c.args.steps.now.items c.args.room c.in-Some.own.now c.in-Some.others.now c.args.dues.now.items c.push-in-Some.new.self.items (due.Piece c.in-Some.own c.args.room) (due.Others c.in-Some.others c.args.room) e refl refl

pub returns-in_ok-push-in-Some-2-clause-less : goal.returns-in_ok-push-in-Some-2-clause-less
returns-in_ok-push-in-Some-2-clause-less c =
    let cut : c.args.pieces.now ≡ c.in-Some.own.now ∷ c.in-Some.others.now = c.in-Some.ensures.cases.0 in
    let e : c.push-in-Some.new.self.items ≡ (c.args.dues.now.items ++ due.Others c.in-Some.others c.args.room ∷ []) ++ due.Piece c.in-Some.own c.args.room ∷ [] = c.in_ok-push-in-Some-2.ensures.items ∙ ap (λ l. l ++ due.Piece c.in-Some.own c.args.room ∷ []) c.in_ok-push-in-Some.ensures.items in
    let w = two_weigh c.args.dues.now.items c.push-in-Some.new.self.items (due.Piece c.in-Some.own c.args.room) (due.Others c.in-Some.others c.args.room) e in
    let k = ap (text_weight c.args.room) cut in
    omega (arith, w, k)
