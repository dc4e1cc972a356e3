use Rattle.std.proofs.Common.{rules, arith}
use Rattle.std.proofs.lemmas.List.{places}
use Rattle.tcl_text.proofs.GlobPieces.{Spans-none, Spans-both}
use Rattle.tcl_text.proofs.GlobPlaces.{dead_more}
use Rattle.tcl_text.proofs.glob_places.keep_matching.Goals as goal

pub loop-at-init : goal.loop-at-init
loop-at-init c = (omega arith, search rules, Spans-none _, c.requires.dead)

pub loop-at-preserved : goal.loop-at-preserved
loop-at-preserved c = (
  omega arith,
  search rules,
  Spans-both _ _ _ _ _ c.loop-at.invariant.2 c.mark_parts-count.ensures.spans,
  dead_more _ _ _ _ _ _ _ c.loop-at.at c.mark_parts-count.result.0 c.loop-at.invariant.3 c.loop-at.invariant.2 c.mark_parts-count.ensures.below c.keep_allowed-some.ensures (search rules) (omega arith)
      (λ place. let fits = c.type_inv.window place in omega arith) (λ place within. grind (arith, places)),
)

pub returns-then-count-eq0 : goal.returns-then-count-eq0
returns-then-count-eq0 c = c.loop-at.invariant.3

pub returns-then-not-some : goal.returns-then-not-some
returns-then-not-some c =
    dead_more _ _ _ _ _ _ _ c.loop-at.at c.mark_parts-count.result.0 c.loop-at.invariant.3 c.loop-at.invariant.2 c.mark_parts-count.ensures.below c.keep_allowed-some.ensures (search rules) (omega arith)
    (λ place. let fits = c.type_inv.window place in omega arith) (λ place within. grind (arith, places))
