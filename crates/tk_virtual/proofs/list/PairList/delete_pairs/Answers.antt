use Rattle.std.proofs.Common.{◌≡◌, ℕ, List, filter, sym, ap, ◌∙◌}
use Rattle.std.specs.Map.{keys_of}
use Rattle.tk_virtual.specs.First.{marked}
use Rattle.tk_virtual.specs.Named.{listed}
use Rattle.tk_virtual.specs.Several.{without_these}
use Rattle.tk_virtual.specs.Virtual.{has_name}
use Rattle.tk_virtual.proofs.EntryLemmas.{keys_kept, own_marks, without_these_marks}
use Rattle.tk_virtual.proofs.NamedLemmas.{listed_without_these}
use Rattle.tk_virtual.proofs.list.PairList.delete_pairs.Goals as goal
use Rattle.tk_virtual.proofs.list.PairList.delete_pairs.Goals.{After-mark_first}

-- each name has the pairs of the list that are left
left : (c : After-mark_first) → (name : List ℕ)
    → listed name c.take_out_pairs.new.named ≡ filter (has_name name) (without_these c.as_str-name.result.now c.args.wanted.now.keys (keys_of c.self.inside.pairs.entries))
left c =
    listed_without_these (keys_of c.self.inside.pairs.entries) (λ name. listed name c.self.inside.named) (λ name. listed name c.take_out_pairs.new.named) c.self.invariant.1
    c.as_str-name.result.now c.args.wanted.now.keys c.take_out_pairs.ensures.own c.take_out_pairs.ensures.others

-- and the first of each name is marked
marks : (c : After-mark_first) → c.mark_first.new.pairs.entries ≡ marked (without_these c.as_str-name.result.now c.args.wanted.now.keys (keys_of c.self.inside.pairs.entries))
marks c =
    let gone = c.as_str-name.result.now in
    without_these_marks gone c.args.wanted.now.keys c.self.inside.pairs.entries c.leave_out_pairs.new.pairs.entries c.mark_first.new.pairs.entries c.pairs_of.result.now c.self.invariant.0
    c.leave_out_pairs.ensures (c.pairs_of.ensures ∙ left c gone) c.mark_first.ensures

-- no other pairs stand there
kept : (c : After-mark_first) → keys_of c.mark_first.new.pairs.entries ≡ without_these c.as_str-name.result.now c.args.wanted.now.keys (keys_of c.self.inside.pairs.entries)
kept c = keys_kept (without_these c.as_str-name.result.now c.args.wanted.now.keys (keys_of c.self.inside.pairs.entries)) c.mark_first.new.pairs.entries (marks c)

pub invariant_of-self : goal.invariant_of-self
invariant_of-self c =
    let here = goal.at.invariant_of-self c in (
      own_marks (without_these c.as_str-name.result.now c.args.wanted.now.keys (keys_of c.self.inside.pairs.entries)) c.mark_first.new.pairs.entries (marks here.After-mark_first),
      λ name. left here.After-mark_first name ∙ ap (filter (has_name name)) (sym (kept here.After-mark_first)),
    )

pub returns : goal.returns
returns c =
    let wanted = c.args.wanted.now.keys in
    kept (goal.at.returns c).After-mark_first ∙ ap (without_these c.as_str-name.result.now wanted) c.self.view_is ∙ ap (λ name. without_these name wanted c.args.self.now) c.as_str-name.ensures.name
