use Rattle.std.proofs.Common.{Some, None, cond, ap, sym}
use Rattle.std.proofs.lemmas.Iterator.{YieldsList-from_chars}
use Rattle.std.specs.Str.{chars}
use Rattle.panels_text.proofs.MeantLemmas.{only_begin, only_end, only_turn}
use Rattle.panels_text.proofs.Turns.{road_end, road_more}
use Rattle.panels_text.proofs.keys.only_character.Goals as goal

pub loop-character-init : goal.loop-character-init
loop-character-init c = only_begin (chars c.args.text.now)

pub loop-character-preserved : goal.loop-character-preserved
loop-character-preserved c =
    let here = road_more (chars c.args.text.now) (YieldsList-from_chars c.args.text.now c.utf8.text cc) c.loop-character.yielded c.loop-character.yielded_by c.in-Some.character c.in-Some.is c.next.ensures.steps in
    only_turn c.loop-character.is_first c.loop-character.only None c.in-Some.character _ _ _ here (sym (ap (λ b. cond b (Some c.in-Some.character) None) c.if-is_first.false)) c.loop-character.invariant

pub loop-character-preserved-then-is_first : goal.loop-character-preserved-then-is_first
loop-character-preserved-then-is_first c =
    let here = road_more (chars c.args.text.now) (YieldsList-from_chars c.args.text.now c.utf8.text cc) c.loop-character.yielded c.loop-character.yielded_by c.in-Some.character c.in-Some.is c.next.ensures.steps in
    only_turn c.loop-character.is_first c.loop-character.only (Some c.in-Some.character) c.in-Some.character _ _ _ here (sym (ap (λ b. cond b (Some c.in-Some.character) None) c.if-is_first.true)) c.loop-character.invariant

pub returns : goal.returns
returns c =
    let end = road_end (chars c.args.text.now) (YieldsList-from_chars c.args.text.now c.utf8.text cc) c.loop-character.yielded c.loop-character.yielded_by c.in-None.is c.next.ensures.steps in
    only_end c.loop-character.is_first c.loop-character.only _ _ end c.loop-character.invariant
