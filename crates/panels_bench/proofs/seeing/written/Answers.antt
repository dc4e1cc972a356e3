use Rattle.std.proofs.Common.{ℕ, List, ap, arith}
use Rattle.std.proofs.lemmas.Grind.{common_steps}
use Rattle.std.specs.Prelude.{flat_map}
use Rattle.std.proofs.lemmas.Iterator.{YieldsList-from_chars}
use Rattle.std.specs.Str.{chars}
use Rattle.panels_bench.specs.Sights.{mark}
use Rattle.panels_text.proofs.Turns.{road_end, road_more}
use Rattle.panels_bench.proofs.seeing.written.Goals as goal

pub loop-character-preserved : goal.loop-character-preserved
loop-character-preserved c =
    let here = road_more (chars c.args.text.now) (YieldsList-from_chars c.args.text.now c.utf8.text cc) c.loop-character.yielded c.loop-character.yielded_by c.in-Some.character c.in-Some.is c.next.ensures.steps in
    let step = ap (λ (left : List ℕ). flat_map mark left) here in
    grind (arith, common_steps)

pub returns : goal.returns
returns c =
    let end = road_end (chars c.args.text.now) (YieldsList-from_chars c.args.text.now c.utf8.text cc) c.loop-character.yielded c.loop-character.yielded_by c.in-None.is c.next.ensures.steps in
    let last = ap (λ (left : List ℕ). flat_map mark left) end in
    grind (arith, common_steps)
