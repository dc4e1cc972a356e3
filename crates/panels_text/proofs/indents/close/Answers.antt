use Rattle.std.proofs.Common.{◌≡◌, ◌-◌, [], reverse, ap, sym, ◌∙◌, arith}
use Rattle.std.proofs.lemmas.Bool.{le-ltb, lt-ltb}
use Rattle.std.proofs.lemmas.List.{append-nil, nil_from_length}
use Rattle.std.specs.Prelude.{nat_lt}
use Rattle.panels_text.specs.declared.indents.Opened.{Opened}
use Rattle.panels_text.proofs.UnreadLemmas.{drop_end, drop_later, drop_none, find_end, find_here, find_later, find_none}
use Rattle.panels_text.proofs.indents.close.Goals as goal

pub returns-in_default-clause-found : goal.returns-in_default-clause-found
returns-in_default-clause-found c =
    let none : c.loop-number.opened.items ≡ [] = nil_from_length c.loop-number.opened.items (omega (arith, c.in_default.ensures.cases.0)) in
    find_none (λ (brace : Opened). nat_lt c.args.indent brace.indent) (c.args.count - c.loop-number._number) c.loop-number.opened.items _ none c.loop-number.invariant.found

pub returns-in_default-clause-left : goal.returns-in_default-clause-left
returns-in_default-clause-left c =
    let none : c.loop-number.opened.items ≡ [] = nil_from_length c.loop-number.opened.items (omega (arith, c.in_default.ensures.cases.0)) in
    ap reverse (sym (append-nil c.pop.new.self.items) ∙ sym c.in_default.ensures.items) ∙ drop_none (c.args.count - c.loop-number._number) c.loop-number.opened.items _ none c.loop-number.invariant.left

pub returns-then-indent-brace-clause-found : goal.returns-then-indent-brace-clause-found
returns-then-indent-brace-clause-found c =
    find_here (λ (brace : Opened). nat_lt c.args.indent brace.indent) c.args.count c.loop-number._number c.loop-number.opened.items c.pop.new.self.items c.in-Some.brace _ c.loop-number-test.true
    c.in-Some.ensures.items (lt-ltb c.args.indent c.in-Some.brace.indent c.if-indent-brace.true) c.loop-number.invariant.found

pub loop-number-preserved : goal.loop-number-preserved
loop-number-preserved c =
    let stack = c.loop-number.opened.items in
    let popped = c.pop.new.self.items in
    let brace = c.in-Some.brace in
    record {
      found = find_later (λ (brace : Opened). nat_lt c.args.indent brace.indent) c.args.count c.loop-number._number stack popped brace _ c.loop-number-test.true
          c.in-Some.ensures.items (le-ltb c.args.indent brace.indent c.if-indent-brace.false) c.loop-number.invariant.found;
      left = drop_later c.args.count c.loop-number._number stack popped brace _ c.loop-number-test.true c.in-Some.ensures.items c.loop-number.invariant.left;
    }

pub returns-clause-found : goal.returns-clause-found
returns-clause-found c =
    find_end (λ (brace : Opened). nat_lt c.args.indent brace.indent) c.args.count c.loop-number._number _ _ (omega arith) c.loop-number.invariant.found

pub returns-clause-left : goal.returns-clause-left
returns-clause-left c = drop_end c.args.count c.loop-number._number _ _ (omega arith) c.loop-number.invariant.left
