use Rattle.std.proofs.Common.{arith, rules, sym, ◌∙◌}
use Rattle.std.proofs.lemmas.Bool.{false≢true}
use Rattle.std.proofs.lemmas.Bool.Decides.{nat_tests}
use Rattle.tcl_text.proofs.GlobLemmas.{Runs-more, Runs-here, GlobMatches-ended, Stops-at_end, chars-no_bytes, bytes_left}
use Rattle.tcl_text.proofs.glob.match_run.Goals as goal
use Rattle.tcl_text.proofs.glob.match_run.Goals.{else-is_empty-via-then-is_empty+else-not-is_empty, else-is_empty-via-else-is_empty}

pub loop-left-preserved : goal.loop-left-preserved
loop-left-preserved c = (
  search rules,
  search rules,
  Runs-more _ _ _ _ _ _ _ c.loop-left.invariant.2 (c.has_part.ensures.0 c.loop-left-test.true) c.in_ok-character.ensures.cut c.in_ok-rest.ensures.allowed,
  omega (arith, c.in_ok-rest.ensures.shorter),
)

pub returns-then-not-is_empty-clause-none : goal.returns-then-not-is_empty-clause-none
returns-then-not-is_empty-clause-none c = λ m.
    GlobMatches-ended _ _ (search rules) (grind (arith, nat_tests)) (λ e. grind (arith, nat_tests)) (Runs-here _ _ _ _ c.loop-left.invariant.2 m)

pub returns-clause-stops : goal.returns-clause-stops
returns-clause-stops c =
    Stops-at_end _ _ (λ part. false≢true (sym c.loop-left-test.false ∙ c.has_part.ensures.1 part)) (λ none. elim c.else-is_empty.branch [
      | else-is_empty-via-then-is_empty+else-not-is_empty w ↦ chars-no_bytes _ (grind (arith, nat_tests))
      | else-is_empty-via-else-is_empty w ↦ absurd (bytes_left c.loop-left.rest.now (search rules) none (λ e. grind (arith, nat_tests)))
    ])
