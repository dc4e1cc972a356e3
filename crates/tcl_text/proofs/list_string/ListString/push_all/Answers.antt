use Rattle.std.proofs.Common.{◌≡◌, Err, List, ℕ, ap, arith, length, rules}
use Rattle.tcl_text.specs.ListForm.{others_form}
use Rattle.tcl_text.proofs.KeptSteps.{added_long, behind_long}
use Rattle.tcl_text.proofs.FaultLemmas.{fault_told}
use Rattle.tcl_text.proofs.list_string.ListString.push_all.Goals as goal

pub returns-in_err-more-clause-too_long : goal.returns-in_err-more-clause-too_long
returns-in_err-more-clause-too_long c =
    let same : c.from_residual.result ≡ Err c.in_err-more.field-0.0 = search rules in
    fault_told _ _ _ same (λ n. behind_long c.args.list.now.value c.args.items.now (c.in_err-more.ensures.too_long n))

pub returns-then-width-gt-MAX_STRING-clause-too_long : goal.returns-then-width-gt-MAX_STRING-clause-too_long
returns-then-width-gt-MAX_STRING-clause-too_long c = λ _.
    added_long c.args.list.now.value c.as_ref.result.now c.in_ok-more.more c.args.items.now c.as_ref.ensures c.in_ok-more.ensures.ok (omega arith)

pub push-requires : goal.push-requires
push-requires c =
    let held : length (others_form c.as_ref.result.now) ≡ length (others_form c.args.list.now.value) = ap (λ (t : List (List ℕ)). length (others_form t)) c.as_ref.ensures in
    let alone : length (others_form c.in-Some.alone.now) ≡ length (others_form c.args.list.now.value) = ap (λ (t : List (List ℕ)). length (others_form t)) c.in-Some.ensures.value in
    omega (arith, held, alone)
