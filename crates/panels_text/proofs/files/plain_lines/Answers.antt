use Rattle.std.proofs.Common.{ℕ, List, map, ap, arith, lit<}
use Rattle.std.proofs.lemmas.Grind.{common_steps}
use Rattle.panels_text.specs.Texts.{plain_line}
use Rattle.std.proofs.lemmas.Iterator.Splits.{YieldsList-from_str_split}
use Rattle.panels_text.specs.Texts.{lines_of}
use Rattle.panels_text.proofs.Turns.{road_end, road_more}
use Rattle.panels_text.proofs.files.plain_lines.Goals as goal

pub loop-line-preserved : goal.loop-line-preserved
loop-line-preserved c =
    let here = road_more (lines_of c.args.text.now) (YieldsList-from_str_split 10 c.args.text.now (lit< tt) (cc) (cc) (cc)) c.loop-line.yielded c.loop-line.yielded_by c.in-Some.line c.in-Some.is c.next.ensures.steps in
    let step = ap (λ (left : List (List ℕ)). map plain_line left) here in
    grind (arith, common_steps)

pub returns : goal.returns
returns c =
    let end = road_end (lines_of c.args.text.now) (YieldsList-from_str_split 10 c.args.text.now (lit< tt) (cc) (cc) (cc)) c.loop-line.yielded c.loop-line.yielded_by c.in-None.is c.next.ensures.steps in
    let last = ap (λ (left : List (List ℕ)). map plain_line left) end in
    grind (arith, common_steps)
