use Rattle.std.proofs.Common.{◌≡◌, ◌∷◌, [], ◌++◌, ◌==◌, false, List, length, length-append, filter, sym, ap, ◌∙◌, subst, arith}
use Rattle.std.specs.List.{list_any}
use Rattle.std.specs.Map.{keys_of}
use Rattle.std.proofs.lemmas.List.Elements.{filter-append}
use Rattle.tk_virtual.specs.First.{Marked, marked}
use Rattle.tk_virtual.specs.Named.{listed}
use Rattle.tk_virtual.specs.Virtual.{has_name, is_same}
use Rattle.tk_virtual.specs.declared.pair.Pair.{Pair}
use Rattle.tk_virtual.proofs.EntryLemmas.{keys_last, marks_last, put_last}
use Rattle.tk_virtual.proofs.PairLemmas.{popped}
use Rattle.tk_virtual.proofs.list.PairList.push.Goals as goal
use Rattle.tk_virtual.proofs.list.PairList.push.Goals.{After-pop, In_ok-insert}

-- the pair stands behind the others
grown : (c : In_ok-insert) → c.insert.new.self.entries ≡ c.self.inside.pairs.entries ++ (c.args.pair, c.is_empty-first.result) ∷ []
grown c =
    put_last c.args.pair c.in_ok-copy.field-0 c.is_empty-first.result c.self.inside.pairs.entries c.insert.new.self.entries c.in_ok-insert.ensures.entries c.in_ok-copy.ensures
    (subst (λ (l : List Pair). list_any (is_same c.args.pair) l ≡ false) (sym c.self.view_is) c.requires)

-- and is taken away again
again : (c : After-pop) → c.insert.new.self.entries ≡ c.self.inside.pairs.entries ++ (c.args.pair, c.is_empty-first.result) ∷ [] → c.pop.new.self.entries ≡ c.self.inside.pairs.entries
again c longer =
    let entry : Marked = (c.args.pair, c.is_empty-first.result) in
    let old = c.self.inside.pairs.entries in
    popped entry old c.insert.new.self.entries c.pop.new.self.entries c.pop.result longer c.pop.ensures.entries
    (c.pop.ensures.found.1 (omega (arith, ap length longer, length-append old (entry ∷ []))))

pub invariant_of-self-in-Ok : goal.invariant_of-self-in-Ok
invariant_of-self-in-Ok c =
    let pair = c.args.pair in
    let first = c.is_empty-first.result in
    let old = c.self.inside.pairs.entries in
    let new = c.insert.new.self.entries in
    let longer = grown (goal.at.invariant_of-self-in-Ok c).In_ok-insert in
    let none = c.pairs_of.ensures ∙ ap (λ n. listed n c.self.inside.named) c.as_str.ensures.name ∙ c.self.invariant.1 pair.name in (
      marks_last old new pair first c.self.invariant.0 longer (c.is_empty-first.ensures ∙ ap (λ (l : List Pair). length l == 0) none),
      λ name. c.in-Ok.ensures.ok name ∙ ap (λ l. l ++ filter (has_name name) (pair ∷ [])) (c.self.invariant.1 name)
          ∙ sym (filter-append (has_name name) (keys_of old) (pair ∷ [])) ∙ ap (filter (has_name name)) (sym (keys_last old new pair first longer)),
    )

pub invariant_of-self-in-Err : goal.invariant_of-self-in-Err
invariant_of-self-in-Err c =
    let same = again (goal.at.invariant_of-self-in-Err c).After-pop (grown (goal.at.invariant_of-self-in-Err c).In_ok-insert) in (
      subst (λ (l : List Marked). l ≡ marked (keys_of l)) (sym same) c.self.invariant.0,
      λ name. c.in-Err.ensures.err name ∙ c.self.invariant.1 name ∙ ap (λ (l : List Marked). filter (has_name name) (keys_of l)) (sym same),
    )

pub returns-in-Ok-clause-ok : goal.returns-in-Ok-clause-ok
returns-in-Ok-clause-ok c =
    keys_last c.self.inside.pairs.entries c.insert.new.self.entries c.args.pair c.is_empty-first.result (grown (goal.at.returns-in-Ok-clause-ok c).In_ok-insert)
    ∙ ap (λ l. l ++ c.args.pair ∷ []) c.self.view_is

pub returns-in-Err-clause-err : goal.returns-in-Err-clause-err
returns-in-Err-clause-err c = ap keys_of (again (goal.at.returns-in-Err-clause-err c).After-pop (grown (goal.at.returns-in-Err-clause-err c).In_ok-insert)) ∙ c.self.view_is
