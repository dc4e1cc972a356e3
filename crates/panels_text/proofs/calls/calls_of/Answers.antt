use Rattle.std.proofs.Common.{◌≡◌, ◌++◌, ◌∷◌, [], List, ap, map, ◌∙◌, arith}
use Rattle.std.proofs.lemmas.List.{map-append, nil_from_length}
use Rattle.panels_text.specs.Scripts.{Passage, passage_of, said, said_as}
use Rattle.panels_text.specs.Unread.{misread, unread_as}
use Rattle.panels_text.proofs.ScriptLemmas.{told_end, told_full, told_more}
use Rattle.panels_text.proofs.calls.calls_of.Goals as goal

pub returns-in-None : goal.returns-in-None
returns-in-None c =
    let none : map passage_of c.passages.bodies.items ≡ [] = ap (map passage_of) (nil_from_length c.passages.bodies.items (omega (arith, c.in-None.ensures.cases.0))) in
    record {
      calls = told_end (λ (outer : Passage). said_as outer.form outer) _ _ _ _ none c.passages.invariant.calls;
      unread = told_end (λ (outer : Passage). unread_as outer.form outer) _ _ _ _ none c.passages.invariant.unread;
    }

pub passages-preserved : goal.passages-preserved
passages-preserved c =
    let popped = c.pop.new.self.items in
    let first = passage_of c.in-Some.body in
    let stack = ap (map passage_of) c.in-Some.ensures.items ∙ map-append passage_of popped (c.in-Some.body ∷ []) in
    record {
      calls = told_more (λ (outer : Passage). said_as outer.form outer) 100000 c.passages._number _ (map said c.push_said.new.found.calls.items) (map passage_of c.passages.bodies.items) (map passage_of popped)
          (map passage_of c.push_said.new.bodies.items) first _ c.passages-test.true stack c.in_ok-push_said-in-Some.ensures.bodies c.in_ok-push_said-in-Some.ensures.calls c.passages.invariant.calls;
      unread = told_more (λ (outer : Passage). unread_as outer.form outer) 100000 c.passages._number _ (map misread c.push_said.new.found.unread.items) (map passage_of c.passages.bodies.items) (map passage_of popped)
          (map passage_of c.push_said.new.bodies.items) first _ c.passages-test.true stack c.in_ok-push_said-in-Some.ensures.bodies c.in_ok-push_said-in-Some.ensures.unread c.passages.invariant.unread;
    }

pub returns : goal.returns
returns c = record {
  calls = told_full (λ (outer : Passage). said_as outer.form outer) 100000 c.passages._number _ _ _ (omega arith) c.passages.invariant.calls;
  unread = told_full (λ (outer : Passage). unread_as outer.form outer) 100000 c.passages._number _ _ _ (omega arith) c.passages.invariant.unread;
}
