use Rattle.std.proofs.Common.{◌≡◌, List, append-nil, filter, sym, ap, ◌∙◌, subst}
use Rattle.std.specs.Map.{keys_of}
use Rattle.tk_virtual.specs.First.{Marked, marked}
use Rattle.tk_virtual.specs.Named.{listed}
use Rattle.tk_virtual.specs.Virtual.{has_name, is_same, without_pair}
use Rattle.tk_virtual.proofs.EntryLemmas.{absent_key, keys_last}
use Rattle.tk_virtual.proofs.FirstLemmas.{unmarked_last}
use Rattle.tk_virtual.proofs.NamedLemmas.{listed_without}
use Rattle.tk_virtual.proofs.PairLemmas.{without_last}
use Rattle.tk_virtual.proofs.list.PairList.take_last.Goals as goal

pub invariant_of-self : goal.invariant_of-self
invariant_of-self c =
    let same = sym (c.in_default.ensures.entries ∙ append-nil c.pop.new.self.entries) in (
      subst (λ (l : List Marked). l ≡ marked (keys_of l)) (sym same) c.self.invariant.0,
      λ name. c.self.invariant.1 name ∙ ap (λ (l : List Marked). filter (has_name name) (keys_of l)) (sym same),
    )

pub invariant_of-self-2 : goal.invariant_of-self-2
invariant_of-self-2 c =
    let pair = c.in-Some.pair in
    let first = c.in-Some._first in
    let old = c.self.inside.pairs.entries in
    let rest = c.pop.new.self.entries in
    let none = absent_key (is_same pair) rest c.in-Some.ensures.updates.1 in (
      unmarked_last old rest (pair, first) c.self.invariant.0 c.in-Some.ensures.entries,
      λ name. listed_without (keys_of old) (λ name. listed name c.self.inside.named) (λ name. listed name c.take_out.new.named) c.self.invariant.1 pair c.take_out.ensures.own c.take_out.ensures.others name
          ∙ ap (filter (has_name name)) (ap (without_pair pair) (keys_last rest old pair first c.in-Some.ensures.entries) ∙ without_last pair (keys_of rest) none),
    )
