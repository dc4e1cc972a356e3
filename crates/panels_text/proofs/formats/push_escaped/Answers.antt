use Rattle.std.proofs.Common.{ℕ, List, ap, arith}
use Rattle.std.proofs.lemmas.Grind.{common_steps}
use Rattle.std.proofs.lemmas.Bool.Decides.{nat_tests}
use Rattle.std.specs.Prelude.{flat_map}
use Rattle.panels_text.specs.Reports.{xml_of, xml_text}
use Rattle.std.proofs.lemmas.Iterator.{YieldsList-from_chars}
use Rattle.std.specs.Str.{chars}
use Rattle.panels_text.proofs.Turns.{road_end, road_more}
use Rattle.panels_text.proofs.formats.push_escaped.Goals as goal

pub loop-character-preserved-in-Continue-1 : goal.loop-character-preserved-in-Continue-1
loop-character-preserved-in-Continue-1 c =
    let here = road_more (chars c.args.words.now) (YieldsList-from_chars c.args.words.now c.utf8.words cc) c.loop-character.yielded c.loop-character.yielded_by c.in-Some.character c.in-Some.is c.next.ensures.steps in
    let step = ap (λ (left : List ℕ). flat_map xml_of left) here in
    grind (arith, common_steps, nat_tests)

pub loop-character-preserved : goal.loop-character-preserved
loop-character-preserved c =
    let here = road_more (chars c.args.words.now) (YieldsList-from_chars c.args.words.now c.utf8.words cc) c.loop-character.yielded c.loop-character.yielded_by c.in-Some.character c.in-Some.is c.next.ensures.steps in
    let step = ap (λ (left : List ℕ). flat_map xml_of left) here in
    grind (arith, common_steps, nat_tests)

pub returns : goal.returns
unfolding xml_text
returns c =
    let end = road_end (chars c.args.words.now) (YieldsList-from_chars c.args.words.now c.utf8.words cc) c.loop-character.yielded c.loop-character.yielded_by c.in-None.is c.next.ensures.steps in
    let last = ap (λ (left : List ℕ). flat_map xml_of left) end in
    grind (arith, common_steps, nat_tests)
