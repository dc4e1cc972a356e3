use Rattle.std.proofs.Common.{ℕ, List, ap, ◌∙◌, arith}
use Rattle.std.proofs.lemmas.Bool.{ne_eqb}
use Rattle.std.proofs.lemmas.Grind.{common_steps}
use Rattle.std.proofs.lemmas.Iterator.{YieldsList-from_chars}
use Rattle.std.specs.Prelude.{encode_utf8_all}
use Rattle.std.specs.Str.{chars}
use Rattle.panels_text.specs.Rows.{unescaped}
use Rattle.panels_text.proofs.RowLemmas.{backslash_step, escaped_step, last_step, plain_step, unescaped-escaped}
use Rattle.panels_text.proofs.Turns.{road_end, road_more}
use Rattle.panels_text.proofs.rows.unescaped.Goals as goal

pub loop-character-preserved-then-is_escaped : goal.loop-character-preserved-then-is_escaped
loop-character-preserved-then-is_escaped c =
    let here = road_more (chars c.args.text.now) (YieldsList-from_chars c.args.text.now c.utf8.text cc) c.loop-character.yielded c.loop-character.yielded_by c.in-Some.character c.in-Some.is c.next.ensures.steps in
    let step = escaped_step _ _ _ _ _ _ c.if-is_escaped.true here c.loop-character.invariant in
    grind (arith, common_steps)

pub loop-character-preserved-then-character-eq92 : goal.loop-character-preserved-then-character-eq92
loop-character-preserved-then-character-eq92 c =
    let here = road_more (chars c.args.text.now) (YieldsList-from_chars c.args.text.now c.utf8.text cc) c.loop-character.yielded c.loop-character.yielded_by c.in-Some.character c.in-Some.is c.next.ensures.steps in
    backslash_step _ _ _ _ _ _ c.if-is_escaped.false c.if-character-eq92.true here c.loop-character.invariant

pub loop-character-preserved : goal.loop-character-preserved
loop-character-preserved c =
    let here = road_more (chars c.args.text.now) (YieldsList-from_chars c.args.text.now c.utf8.text cc) c.loop-character.yielded c.loop-character.yielded_by c.in-Some.character c.in-Some.is c.next.ensures.steps in
    let step = plain_step _ _ _ _ _ _ c.if-is_escaped.false (ne_eqb _ 92 c.if-character-eq92.false) here c.loop-character.invariant in
    grind (arith, common_steps)

pub returns-clause-text : goal.returns-clause-text
returns-clause-text c = last_step _ _ _ _ (road_end (chars c.args.text.now) (YieldsList-from_chars c.args.text.now c.utf8.text cc) c.loop-character.yielded c.loop-character.yielded_by c.in-None.is c.next.ensures.steps) c.loop-character.invariant

pub returns-clause-inverse : goal.returns-clause-inverse
returns-clause-inverse c = λ characters is.
    last_step _ _ _ _ (road_end (chars c.args.text.now) (YieldsList-from_chars c.args.text.now c.utf8.text cc) c.loop-character.yielded c.loop-character.yielded_by c.in-None.is c.next.ensures.steps) c.loop-character.invariant ∙ ap (λ (all : List ℕ). encode_utf8_all (unescaped all)) is ∙ ap encode_utf8_all (unescaped-escaped characters)
