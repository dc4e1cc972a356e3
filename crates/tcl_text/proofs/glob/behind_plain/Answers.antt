use Rattle.std.proofs.Common.{rules, sym, ◌∙◌}
use Rattle.tcl_text.proofs.GlobPieces.{passes_none, passes_more}
use Rattle.tcl_text.proofs.glob.behind_plain.Goals as goal

pub loop-first-init : goal.loop-first-init
loop-first-init c = (search rules, passes_none c.args.pattern.now)

pub loop-first-preserved : goal.loop-first-preserved
loop-first-preserved c = (
  search rules,
  passes_more c.args.pattern.now _ _ _ c.loop-first.invariant.1 c.in-Some.ensures.bytes c.in-Some.ensures.cut (sym c.is_plain.ensures ∙ c.if-not-is_plain.false),
)
