use Rattle.std.proofs.Common.{◌≡◌, [], Ok, ap, subst, ◌∙◌, inl}
use Rattle.std.proofs.lemmas.Result.{err_from_is_err_and}
use Rattle.tcl_expr.specs.Reading.{AtOperand, tree_reading, compiled_by, compiled}
use Rattle.tcl_expr.specs.Standing.{IsFaultOrMemory}
use Rattle.tcl_expr.proofs.ReadLemmas.{tree_of-long, tree_of-not_utf8, compiled_is, fault_is}
use Rattle.tcl_expr.proofs.parse.read_expr.Goals as goal

pub returns-then-source-gt-MAX_BYTES-clause-fault : goal.returns-then-source-gt-MAX_BYTES-clause-fault
returns-then-source-gt-MAX_BYTES-clause-fault c = inl (tree_of-long c.args.source.now c.if-source-gt-MAX_BYTES.true)

pub returns-in_default-clause-fault : goal.returns-in_default-clause-fault
returns-in_default-clause-fault c = inl (tree_of-not_utf8 c.args.source.now c.if-source-gt-MAX_BYTES.false c.in_default.ensures.cases.0)

pub returns-in_err-steps-clause-fault : goal.returns-in_err-steps-clause-fault
returns-in_err-steps-clause-fault c =
    let p = err_from_is_err_and c.from_residual-in_err-steps.result c.from_residual-in_err-steps.ensures.1 in
    rw (p.1, p.2) (fault_is c.args.source.now c.in_err-steps.field-0.0 c.if-source-gt-MAX_BYTES.false c.in-Ok.ensures.cases.1
    (subst (λ text. IsFaultOrMemory (tree_reading 0 AtOperand [] text) c.in_err-steps.field-0.0) c.in-Ok.ensures.cases.0 c.in_err-steps.ensures.fault))

pub new-requires-2 : goal.new-requires-2
new-requires-2 c =
    ap compiled (c.in_ok-text.ensures ∙ (c.in_ok-whole.ensures ∙ c.in-Ok.ensures.cases.0))
    ∙ compiled_is c.args.source.now c.in_ok-steps.steps.items c.if-source-gt-MAX_BYTES.false c.in-Ok.ensures.cases.1
    (subst (λ text. compiled_by (tree_reading 0 AtOperand [] text) ≡ Ok c.in_ok-steps.steps.items) c.in-Ok.ensures.cases.0 c.in_ok-steps.ensures.steps)
