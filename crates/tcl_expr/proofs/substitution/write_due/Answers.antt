use Rattle.std.proofs.Common.{◌∙◌, ◌≡◌, ◌∷◌, ◌++◌, [], ap, refl, arith}
use Rattle.tcl_expr.specs.declared.substitution.Due.{Due}
use Rattle.tcl_expr.specs.declared.substitution.Due.TheVariants as due
use Rattle.tcl_expr.specs.Dues.{written_before, others_steps, due_steps, dues_steps, with_steps, text_weight, due_weight}
use Rattle.tcl_expr.proofs.DueLemmas.{other_goes, three_weigh}
use Rattle.tcl_expr.proofs.substitution.write_due.Goals as goal

pub returns-in_ok-push-in-Others-3-clause-goes : goal.returns-in_ok-push-in-Others-3-clause-goes
returns-in_ok-push-in-Others-3-clause-goes c =
    let cut : c.in-Others.pieces.now ≡ c.in-Some.own.now ∷ c.in-Some.others.now = c.in-Some.ensures.cases.0 in
    let first : Due = due.Piece c.in-Some.own c.in-Others.room in
    let third : Due = due.Others c.in-Some.others c.in-Others.room in
    let e : c.push-in-Some-2.new.self.items ≡ ((c.args.dues.now.items ++ third ∷ []) ++ due.Join ∷ []) ++ first ∷ [] =
    c.in_ok-push-in-Others-3.ensures.items ∙ ap (λ l. l ++ first ∷ []) (c.in_ok-push-in-Others-2.ensures.items ∙ ap (λ l. l ++ due.Join ∷ []) c.in_ok-push-in-Others.ensures.items) in
    ap (λ d. with_steps c.args.steps.now.items (written_before (due_steps d) (dues_steps c.args.dues.now.items))) c.in-Others.is
    ∙ ap (λ l. with_steps c.args.steps.now.items (written_before (others_steps c.in-Others.room l) (dues_steps c.args.dues.now.items))) cut
    ∙ other_goes c.args.steps.now.items c.in-Others.room c.in-Some.own.now c.in-Some.others.now c.args.dues.now.items c.push-in-Some-2.new.self.items first due.Join third e refl refl refl

pub returns-in_ok-push-in-Others-3-clause-less : goal.returns-in_ok-push-in-Others-3-clause-less
returns-in_ok-push-in-Others-3-clause-less c =
    let cut : c.in-Others.pieces.now ≡ c.in-Some.own.now ∷ c.in-Some.others.now = c.in-Some.ensures.cases.0 in
    let first : Due = due.Piece c.in-Some.own c.in-Others.room in
    let third : Due = due.Others c.in-Some.others c.in-Others.room in
    let e : c.push-in-Some-2.new.self.items ≡ ((c.args.dues.now.items ++ third ∷ []) ++ due.Join ∷ []) ++ first ∷ [] =
    c.in_ok-push-in-Others-3.ensures.items ∙ ap (λ l. l ++ first ∷ []) (c.in_ok-push-in-Others-2.ensures.items ∙ ap (λ l. l ++ due.Join ∷ []) c.in_ok-push-in-Others.ensures.items) in
    let w = three_weigh c.args.dues.now.items c.push-in-Some-2.new.self.items first due.Join third e in
    let k = ap due_weight c.in-Others.is ∙ ap (text_weight c.in-Others.room) cut in
    omega (arith, w, k)
