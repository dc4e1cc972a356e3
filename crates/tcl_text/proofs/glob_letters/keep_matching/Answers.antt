use Rattle.std.proofs.Common.{rules, arith, ap, drop, refl, ◌∙◌}
use Rattle.std.specs.Str.{chars}
use Rattle.std.proofs.lemmas.List.{drop-drop}
use Rattle.tcl_text.proofs.GlobPieces.{Spans-none, Spans-both}
use Rattle.tcl_text.proofs.GlobLetters.{dead_next}
use Rattle.tcl_text.proofs.glob_letters.keep_matching.Goals as goal

pub loop-at-init : goal.loop-at-init
loop-at-init c = (omega arith, search rules, search rules, Spans-none _, refl, c.requires.dead)

pub loop-at-preserved : goal.loop-at-preserved
loop-at-preserved c = (
  omega (arith, c.in-Some.ensures.few),
  search rules,
  search rules,
  Spans-both _ _ _ _ _ c.loop-at.invariant.3 c.in-Some.ensures.spans,
  c.skip-behind.ensures ∙ ap (drop c.in-Some.passed) c.loop-at.invariant.4 ∙ drop-drop c.in-Some.passed c.loop-at.at (chars c.args.text.now),
  dead_next _ _ _ _ _ _ _ c.loop-at.at c.loop-at.invariant.5 c.loop-at.invariant.3 c.loop-at.invariant.4 (c.fill.ensures c.if-not-fill.false) c.keep_next.ensures.kept (search rules),
)

pub returns-then-not-fill : goal.returns-then-not-fill
returns-then-not-fill c = c.loop-at.invariant.5

pub returns-in-None : goal.returns-in-None
returns-in-None c =
    dead_next _ _ _ _ _ _ _ c.loop-at.at c.loop-at.invariant.5 c.loop-at.invariant.3 c.loop-at.invariant.4 (c.fill.ensures c.if-not-fill.false) c.keep_next.ensures.kept (search rules)
