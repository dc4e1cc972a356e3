use Rattle.std.proofs.Common.{◌≡◌, ◌<◌, ◌++◌, ℕ, List, false, length, sym, ap, ◌∙◌, subst}
use Rattle.std.proofs.lemmas.Result.{err_from_is_err_and}
use Rattle.tk_dispatch.specs.Substitution.{substituted_from}
use Rattle.tk_dispatch.proofs.Runs.{as_steps, as_steps_long, step, run_long, behind_long}
use Rattle.tk_dispatch.proofs.substitution.substitute_fields.Goals as goal

pub returns-in_err-push_str-clause-too_long : goal.returns-in_err-push_str-clause-too_long
returns-in_err-push_str-clause-too_long c =
    let p = err_from_is_err_and c.from_residual.result c.from_residual.ensures.1 in
    let rest = c.loop-run.rest.now in
    rw (p.1, p.2) (λ differs. as_steps_long c.args.event.now c.args.script.now (run_long c.args.event.now c.loop-run.text c.args.script.now rest c.in-Some.run'.now c.in-Some.behind.now c.loop-run.invariant.same (c.in-Some.ensures.cut c.args.event.now)
    (c.in_err-push_str.ensures.too_long differs)))

pub returns-in_err-taken-clause-too_long : goal.returns-in_err-taken-clause-too_long
returns-in_err-taken-clause-too_long c =
    let p = err_from_is_err_and c.from_residual-in_err-taken.result c.from_residual-in_err-taken.ensures.1 in
    let rest = c.loop-run.rest.now in
    rw (p.1, p.2) (λ differs. as_steps_long c.args.event.now c.args.script.now (behind_long c.args.event.now c.loop-run.text c.push_str.new.self c.args.script.now rest c.in-Some.run'.now c.in-Some.behind.now c.loop-run.invariant.same
    (c.in-Some.ensures.cut c.args.event.now) c.in_ok-push_str.ensures.ok (c.in_err-taken.ensures.too_long differs)))

pub loop-run-preserved : goal.loop-run-preserved
loop-run-preserved c =
    let event = c.args.event.now in
    let rest = c.loop-run.rest.now in
    record {
      same = step event c.loop-run.text c.push_str.new.self c.push_behind_percent.new.text c.args.script.now rest c.in-Some.run'.now c.in-Some.behind.now c.range_from-rest.result.now
          c.loop-run.invariant.same (c.in-Some.ensures.cut event) c.in_ok-push_str.ensures.ok
          (ap (λ (left : List ℕ). c.push_behind_percent.new.text ++ substituted_from event false left) c.range_from-rest.ensures.value ∙ c.in_ok-taken.ensures.ok);
      utf8 = c.range_from-rest.utf8;
    }

pub returns-in_err-push_str-2-clause-too_long : goal.returns-in_err-push_str-2-clause-too_long
returns-in_err-push_str-2-clause-too_long c =
    let p = err_from_is_err_and c.from_residual-in_err-push_str-2.result c.from_residual-in_err-push_str-2.ensures.1 in
    let whole : c.loop-run.text ++ c.loop-run.rest.now ≡ substituted_from c.args.event.now false c.args.script.now =
    ap (λ (text : List ℕ). c.loop-run.text ++ text) (sym (c.in_default.ensures.cut c.args.event.now)) ∙ c.loop-run.invariant.same in
    rw (p.1, p.2) (λ differs. as_steps_long c.args.event.now c.args.script.now (subst (λ (text : List ℕ). 65536 < length text) whole (c.in_err-push_str-2.ensures.too_long differs)))

pub returns-clause-ok : goal.returns-clause-ok
returns-clause-ok c =
    c.in_ok-push_str-2.ensures.ok ∙ ap (λ (text : List ℕ). c.loop-run.text ++ text) (sym (c.in_default.ensures.cut c.args.event.now)) ∙ c.loop-run.invariant.same ∙ as_steps c.args.event.now c.args.script.now
