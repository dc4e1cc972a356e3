use Rattle.std.proofs.Common.{rules, arith, ap, drop, sym, refl, ◌∙◌, ℕ}
use Rattle.std.specs.Str.{chars}
use Rattle.tcl_text.proofs.GlobLemmas.{drop_past}
use Rattle.tcl_text.proofs.GlobLetters.{skip_end}
use Rattle.tcl_text.proofs.glob_letters.skip.Goals as goal

pub loop-passed-preserved : goal.loop-passed-preserved
loop-passed-preserved c = (
  search rules,
  drop_past (chars c.args.text.now) _ c.loop-passed._passed _ (sym c.loop-passed.invariant.1 ∙ c.in-Some.ensures.cut),
)

pub returns-in-None : goal.returns-in-None
returns-in-None c = skip_end _ _ c.loop-passed._passed c.args.count c.loop-passed.invariant.1 c.in-None.ensures.cut (omega arith)

pub returns : goal.returns
returns c =
    c.loop-passed.invariant.1 ∙ ap (λ (n : ℕ). drop n (chars c.args.text.now)) (omega arith)
