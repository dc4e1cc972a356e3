use Rattle.std.proofs.Common.{◌∷◌, [], ◌++◌, ◌-◌, List, length, take, filter, sym, ap, ◌∙◌}
use Rattle.std.specs.List.{list_any}
use Rattle.tk_virtual.specs.Classes.{is_of_class, listed_in, sequence_class}
use Rattle.tk_virtual.specs.Virtual.{is_same}
use Rattle.tk_virtual.specs.declared.pair.Pair.{Pair}
use Rattle.tk_virtual.proofs.ClassLemmas.{none_of_some, filed_more, last_out}
use Rattle.tk_virtual.proofs.pairs.VirtualPairs.push.Goals as goal

pub file_in-requires : goal.file_in-requires
file_in-requires c =
    let pair = c.args.pair in
    let class = sequence_class pair.sequence in
    ap (list_any (is_same pair)) (c.self.invariant.1 class)
    ∙ none_of_some (is_same pair) (is_of_class class) c.self.inside.pairs (ap (list_any (is_same pair)) c.self.view_is ∙ c.requires)

pub invariant_of-self-in-Ok : goal.invariant_of-self-in-Ok
invariant_of-self-in-Ok c =
    let pair = c.args.pair in
    let pairs = c.self.inside.pairs in (
      c.self.invariant.0,
      λ class. filed_more pairs (λ class. listed_in class c.self.inside.classes.entries) (λ class. listed_in class c.file_in.new.classes.entries) c.self.invariant.1 pair c.in-Ok.ensures.own c.file_in.ensures.others class
          ∙ ap (filter (is_of_class class)) (sym (c.in_ok-push.ensures.ok ∙ ap (λ p. pairs ++ p ∷ []) c.in_ok-copy.ensures)),
    )

pub invariant_of-self-in-Err : goal.invariant_of-self-in-Err
invariant_of-self-in-Err c =
    let pairs = c.self.inside.pairs in (
      c.self.invariant.0,
      λ class. c.in-Err.ensures.err class ∙ c.self.invariant.1 class
          ∙ ap (filter (is_of_class class)) (sym (c.take_last.ensures.rest ∙ ap (λ (l : List Pair). take (length l - 1) l) c.in_ok-push.ensures.ok ∙ last_out pairs c.in_ok-copy.field-0)),
    )

pub returns-in-Ok-clause-ok : goal.returns-in-Ok-clause-ok
returns-in-Ok-clause-ok c =
    c.in_ok-push.ensures.ok ∙ ap (λ p. c.self.inside.pairs ++ p ∷ []) c.in_ok-copy.ensures ∙ ap (λ l. l ++ c.args.pair ∷ []) c.self.view_is

pub returns-in-Err-clause-err : goal.returns-in-Err-clause-err
returns-in-Err-clause-err c =
    c.take_last.ensures.rest ∙ ap (λ (l : List Pair). take (length l - 1) l) c.in_ok-push.ensures.ok ∙ last_out c.self.inside.pairs c.in_ok-copy.field-0 ∙ c.self.view_is
