use Rattle.std.proofs.Common.{◌≡◌, ◌++◌, ◌∷◌, ℕ, ◌+◌, List, Bor, [], length, length-drop, drop, subst, sym, ◌∙◌, arith, lit<}
use Rattle.std.proofs.lemmas.Iterator.Adapters.{YieldsList-from_skip}
use Rattle.std.proofs.lemmas.Iterator.Consumers.{YieldsList-turn}
use Rattle.std.proofs.lemmas.Iterator.Splits.{YieldsList-from_str_split}
use Rattle.std.proofs.lemmas.List.{length_push}
use Rattle.panels_text.specs.Places.{key_line}
use Rattle.panels_text.specs.Texts.{lines_of}
use Rattle.panels_text.proofs.PlaceLemmas.{key-end, key-hit, key-miss, key-none, length-lines_of}
use Rattle.panels_text.proofs.Turns.{road_end, turn_more}
use Rattle.panels_text.proofs.place.key_line.Goals as goal

pub returns-then-begins_table : goal.returns-then-begins_table
returns-then-begins_table c =
    let turn = YieldsList-turn (YieldsList-from_skip c.args.head (YieldsList-from_str_split 10 c.args.bench.now (lit< tt) (cc) (cc) (cc)) (cc)) c.loop-line.yielded _ c.loop-line.yielded_by _ _ c.in-Some.line c.in-Some.is c.next.ensures.steps in
    let here = turn_more (λ (x : Bor (List ℕ)). x.now) (drop c.args.head (lines_of c.args.bench.now)) c.loop-line.yielded c.in-Some.line turn in
    sym (key-end c.args.head (c.loop-line.number + 1) c.args.key.now c.in-Some.line.now _ _ here (sym c.if-begins_table.ensures)) ∙ c.loop-line.invariant.same

pub returns-then-has_key : goal.returns-then-has_key
returns-then-has_key c =
    let turn = YieldsList-turn (YieldsList-from_skip c.args.head (YieldsList-from_str_split 10 c.args.bench.now (lit< tt) (cc) (cc) (cc)) (cc)) c.loop-line.yielded _ c.loop-line.yielded_by _ _ c.in-Some.line c.in-Some.is c.next.ensures.steps in
    let here = turn_more (λ (x : Bor (List ℕ)). x.now) (drop c.args.head (lines_of c.args.bench.now)) c.loop-line.yielded c.in-Some.line turn in
    let count : c.saturating_add-number.result ≡ c.loop-line.number + 1 = omega (arith, turn.0, length-lines_of c.args.bench.now, length-drop c.args.head (lines_of c.args.bench.now), c.loop-line.invariant.number, c.saturating_add-number.ensures) in
    count ∙ sym (key-hit c.args.head (c.loop-line.number + 1) c.args.key.now c.in-Some.line.now _ _ here (sym c.if-begins_table.ensures) (sym c.if-has_key.ensures)) ∙ c.loop-line.invariant.same

pub loop-line-preserved : goal.loop-line-preserved
loop-line-preserved c =
    let turn = YieldsList-turn (YieldsList-from_skip c.args.head (YieldsList-from_str_split 10 c.args.bench.now (lit< tt) (cc) (cc) (cc)) (cc)) c.loop-line.yielded _ c.loop-line.yielded_by _ _ c.in-Some.line c.in-Some.is c.next.ensures.steps in
    let here = turn_more (λ (x : Bor (List ℕ)). x.now) (drop c.args.head (lines_of c.args.bench.now)) c.loop-line.yielded c.in-Some.line turn in
    let count : c.saturating_add-number.result ≡ c.loop-line.number + 1 = omega (arith, turn.0, length-lines_of c.args.bench.now, length-drop c.args.head (lines_of c.args.bench.now), c.loop-line.invariant.number, c.saturating_add-number.ensures) in
    let longer = length_push c.loop-line.yielded c.in-Some.line in
    let miss = sym (key-miss c.args.head (c.loop-line.number + 1) c.args.key.now c.in-Some.line.now _ _ here (sym c.if-begins_table.ensures) (sym c.if-has_key.ensures)) ∙ c.loop-line.invariant.same in
    let A : ℕ → Type 0 = λ k. key_line c.args.head (k + 1) c.args.key.now (drop (length (c.loop-line.yielded ++ c.in-Some.line ∷ [])) (drop c.args.head (lines_of c.args.bench.now))) ≡ key_line c.args.head (c.args.head + 1) c.args.key.now (drop c.args.head (lines_of c.args.bench.now)) in
    record { number = omega (arith, count, longer, c.loop-line.invariant.number); same = subst A (sym count) miss }

pub returns : goal.returns
returns c =
    let gone = road_end (drop c.args.head (lines_of c.args.bench.now)) (YieldsList-from_skip c.args.head (YieldsList-from_str_split 10 c.args.bench.now (lit< tt) (cc) (cc) (cc)) (cc)) c.loop-line.yielded c.loop-line.yielded_by c.in-None.is c.next.ensures.steps in
    sym (key-none c.args.head (c.loop-line.number + 1) c.args.key.now _ gone) ∙ c.loop-line.invariant.same
