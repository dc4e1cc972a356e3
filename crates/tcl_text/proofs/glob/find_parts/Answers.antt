use Rattle.std.proofs.Common.{List, ℕ, arith, length, subst}
use Rattle.std.specs.Str.{chars}
use Rattle.std.proofs.lemmas.Bool.Decides.{nat_tests}
use Rattle.tcl_text.specs.GlobSteps.{Spans}
use Rattle.tcl_text.proofs.GlobLemmas.{chars-no_bytes}
use Rattle.tcl_text.proofs.GlobPieces.{star_stuck}
use Rattle.tcl_text.proofs.glob.find_parts.Goals as goal

pub returns-in_err-parts-clause-none : goal.returns-in_err-parts-clause-none
returns-in_err-parts-clause-none c =
    rw c.from_residual.ensures (star_stuck (chars c.args.pattern.now) c.args.text.now (length c.args.text.now) c.utf8.text (omega arith) c.in_err-parts.ensures.none)

pub match_end-requires : goal.match_end-requires
match_end-requires c =
    subst (λ (t : List ℕ). Spans (chars c.args.pattern.now) t c.in_ok-parts.parts) (chars-no_bytes c.in_ok-parts.behind.now (grind (arith, nat_tests))) c.in_ok-parts.ensures.spans

pub walk_run-requires : goal.walk_run-requires
walk_run-requires c = λ any m. (c.in_ok-parts.ensures.spans.forth any m).0
