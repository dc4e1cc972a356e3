use Rattle.std.proofs.Common.{not, filter, sym, ap, ◌∙◌}
use Rattle.std.specs.Map.{keys_of}
use Rattle.tk_virtual.specs.First.{Marked}
use Rattle.tk_virtual.specs.Named.{listed}
use Rattle.tk_virtual.specs.Virtual.{has_name, without_name}
use Rattle.tk_virtual.proofs.EntryLemmas.{keys_kept, own_marks, without_name_marks}
use Rattle.tk_virtual.proofs.NamedLemmas.{listed_without_name}
use Rattle.tk_virtual.proofs.list.PairList.delete_name.Goals as goal

pub invariant_of-self : goal.invariant_of-self
invariant_of-self c =
    let gone = c.args.name.now in
    let old = c.self.inside.pairs.entries in
    let new = c.leave_out_name.new.pairs.entries in
    let pairs = keys_of old in
    let left = c.leave_out_name.ensures ∙ ap (λ n. filter (λ (entry : Marked). not (has_name n entry.0)) old) c.as_str.ensures.name in
    let marks = without_name_marks gone old new c.self.invariant.0 left in (
      own_marks (without_name gone pairs) new marks,
      λ name. listed_without_name pairs (λ name. listed name c.self.inside.named) (λ name. listed name c.take_out_name.new.named) c.self.invariant.1 gone
          (ap (λ n. listed n c.take_out_name.new.named) (sym c.as_str-2.ensures.name) ∙ c.take_out_name.ensures.own)
          (λ other differ. c.take_out_name.ensures.others other (λ is. differ (is ∙ c.as_str-2.ensures.name))) name
          ∙ ap (filter (has_name name)) (sym (keys_kept (without_name gone pairs) new marks)),
    )

pub returns : goal.returns
returns c =
    let gone = c.args.name.now in
    let old = c.self.inside.pairs.entries in
    let new = c.leave_out_name.new.pairs.entries in
    let left = c.leave_out_name.ensures ∙ ap (λ n. filter (λ (entry : Marked). not (has_name n entry.0)) old) c.as_str.ensures.name in
    keys_kept (without_name gone (keys_of old)) new (without_name_marks gone old new c.self.invariant.0 left) ∙ ap (without_name gone) c.self.view_is
