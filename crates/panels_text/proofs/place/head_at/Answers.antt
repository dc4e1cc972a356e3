use Rattle.std.proofs.Common.{◌≡◌, ℕ, ◌+◌, ◌-◌, ◌<◌, List, Bor, drop, subst, sym, arith, lit<}
use Rattle.std.proofs.lemmas.Iterator.Consumers.{YieldsList-end, YieldsList-turn}
use Rattle.std.proofs.lemmas.Iterator.Splits.{YieldsList-from_str_split}
use Rattle.std.specs.Prelude.{slice_get}
use Rattle.panels_text.specs.Texts.{lines_of}
use Rattle.panels_text.proofs.Turns.{turn_more, turn_none}
use Rattle.panels_text.specs.Places.{heads_from}
use Rattle.panels_text.proofs.PlaceLemmas.{head_before, head_found, length-lines_of, next_is, no_head}
use Rattle.panels_text.proofs.place.head_at.Goals as goal

pub returns-then-left-eq0 : goal.returns-then-left-eq0
returns-then-left-eq0 c =
    let turn = YieldsList-turn (YieldsList-from_str_split 10 c.args.bench.now (lit< tt) (cc) (cc) (cc)) c.loop-line.yielded _ c.loop-line.yielded_by _ _ c.in-Some.line c.in-Some.is c.next.ensures.steps in
    let here = turn_more (λ (x : Bor (List ℕ)). x.now) (lines_of c.args.bench.now) c.loop-line.yielded c.in-Some.line turn in
    let count : c.saturating_add-number.result ≡ c.loop-line.number + 1 = omega (arith, turn.0, length-lines_of c.args.bench.now, c.loop-line.invariant.number, c.saturating_add-number.ensures) in
    head_found c.args.array.now (lines_of c.args.bench.now) c.args.index c.loop-line.left c.loop-line.yielded c.in-Some.line c.loop-line.invariant.number count c.loop-line.invariant.same here (sym c.if-is_head.ensures) c.if-left-eq0.true

pub loop-line-preserved-then-is_head : goal.loop-line-preserved-then-is_head
loop-line-preserved-then-is_head c =
    let turn = YieldsList-turn (YieldsList-from_str_split 10 c.args.bench.now (lit< tt) (cc) (cc) (cc)) c.loop-line.yielded _ c.loop-line.yielded_by _ _ c.in-Some.line c.in-Some.is c.next.ensures.steps in
    let here = turn_more (λ (x : Bor (List ℕ)). x.now) (lines_of c.args.bench.now) c.loop-line.yielded c.in-Some.line turn in
    let count : c.saturating_add-number.result ≡ c.loop-line.number + 1 = omega (arith, turn.0, length-lines_of c.args.bench.now, c.loop-line.invariant.number, c.saturating_add-number.ensures) in
    let some : 0 < c.loop-line.left = omega (arith, c.if-left-eq0.false) in
    record {
      number = next_is c.args.array.now (lines_of c.args.bench.now) c.args.index c.loop-line.left c.loop-line.yielded c.in-Some.line c.loop-line.invariant.number count c.loop-line.invariant.same here;
      same = head_before c.args.array.now (lines_of c.args.bench.now) c.args.index c.loop-line.left c.loop-line.yielded c.in-Some.line c.loop-line.invariant.number count c.loop-line.invariant.same here (sym c.if-is_head.ensures) some c.saturating_sub-left.result (omega (arith, some, c.saturating_sub-left.ensures));
    }

pub loop-line-preserved : goal.loop-line-preserved
loop-line-preserved c =
    let turn = YieldsList-turn (YieldsList-from_str_split 10 c.args.bench.now (lit< tt) (cc) (cc) (cc)) c.loop-line.yielded _ c.loop-line.yielded_by _ _ c.in-Some.line c.in-Some.is c.next.ensures.steps in
    let here = turn_more (λ (x : Bor (List ℕ)). x.now) (lines_of c.args.bench.now) c.loop-line.yielded c.in-Some.line turn in
    let count : c.saturating_add-number.result ≡ c.loop-line.number + 1 = omega (arith, turn.0, length-lines_of c.args.bench.now, c.loop-line.invariant.number, c.saturating_add-number.ensures) in
    record {
      number = next_is c.args.array.now (lines_of c.args.bench.now) c.args.index c.loop-line.left c.loop-line.yielded c.in-Some.line c.loop-line.invariant.number count c.loop-line.invariant.same here;
      same = no_head c.args.array.now (lines_of c.args.bench.now) c.args.index c.loop-line.left c.loop-line.yielded c.in-Some.line c.loop-line.invariant.number count c.loop-line.invariant.same here (sym c.if-is_head.ensures);
    }

pub returns : goal.returns
returns c =
    let gone = turn_none (λ (x : Bor (List ℕ)). x.now) (lines_of c.args.bench.now) c.loop-line.yielded (YieldsList-end (YieldsList-from_str_split 10 c.args.bench.now (lit< tt) (cc) (cc) (cc)) c.loop-line.yielded _ c.loop-line.yielded_by _ _ c.in-None.is c.next.ensures.steps) in
    let L : ℕ → Type 0 = λ n. slice_get (heads_from (c.loop-line.number + 1) c.args.array.now (drop n (lines_of c.args.bench.now))) c.loop-line.left ≡ slice_get (heads_from 1 c.args.array.now (lines_of c.args.bench.now)) c.args.index in
    let same = subst L c.loop-line.invariant.number c.loop-line.invariant.same in
    let E : List (List ℕ) → Type 0 = λ left. slice_get (heads_from (c.loop-line.number + 1) c.args.array.now left) c.loop-line.left ≡ slice_get (heads_from 1 c.args.array.now (lines_of c.args.bench.now)) c.args.index in
    subst E gone same
