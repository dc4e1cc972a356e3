use Rattle.std.proofs.Common.{List, ℕ, arith, rules, subst, sym, ◌∙◌, drop}
use Rattle.std.specs.Str.{chars}
use Rattle.tcl_text.specs.GlobSteps.{Runs}
use Rattle.tcl_text.proofs.GlobLemmas.{star_found, star_none, star_skips}
use Rattle.tcl_text.proofs.GlobPlaces.{behind_none, behind_more, behind_both, star_short}
use Rattle.tcl_text.proofs.glob.walk_run.Goals as goal

pub loop-from-init : goal.loop-from-init
loop-from-init c = (omega arith, search rules, behind_none _ _)

pub returns-then-from-parts-clause-none : goal.returns-then-from-parts-clause-none
returns-then-from-parts-clause-none c = star_short _ _ _ c.args.parts (search rules) c.loop-from.invariant.2 (omega arith) c.requires

pub returns-in-Some-clause-found : goal.returns-in-Some-clause-found
returns-in-Some-clause-found c =
    let from = c.loop-from.invariant.2 in
    let run : Runs (chars c.args.pattern.now) (drop from.passed (chars c.args.text.now)) (chars c.in-Some.rest.now) (chars c.in-Some.left.now) =
    subst (λ (t : List ℕ). Runs (chars c.args.pattern.now) t (chars c.in-Some.rest.now) (chars c.in-Some.left.now)) from.at c.in-Some.ensures.found
    in (
      λ m. star_skips _ _ from.passed (run.back m),
      λ m. star_found _ _ _ _ from.passed run c.in-Some.ensures.stops from.none m,
    )

pub returns-in_err-_skipped-clause-none : goal.returns-in_err-_skipped-clause-none
returns-in_err-_skipped-clause-none c =
    let from = c.loop-from.invariant.2 in
    rw c.from_residual.ensures (star_none _ _ from.passed (sym from.at ∙ c.in_err-_skipped.ensures.cut) from.none (rw (← from.at) c.in_default.ensures.none))

pub loop-from-preserved-then-tried-eq-FEW_TRIES : goal.loop-from-preserved-then-tried-eq-FEW_TRIES
loop-from-preserved-then-tried-eq-FEW_TRIES c = (
  omega arith,
  search rules,
  behind_both _ _ _ _ (behind_more _ _ _ _ _ c.loop-from.invariant.2 c.in_default.ensures.none c.in_ok-_skipped.ensures.cut) c.behind_dead-from.ensures.dead,
)

pub loop-from-preserved : goal.loop-from-preserved
loop-from-preserved c = (omega arith, search rules, behind_more _ _ _ _ _ c.loop-from.invariant.2 c.in_default.ensures.none c.in_ok-_skipped.ensures.cut)
