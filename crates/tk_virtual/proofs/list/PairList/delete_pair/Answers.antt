use Rattle.std.proofs.Common.{◌≡◌, ℕ, List, filter, find, sym, ap, ◌∙◌}
use Rattle.std.specs.Map.{keys_of}
use Rattle.indexmap.specs.IndexSet.{remove_key}
use Rattle.tk_virtual.specs.First.{marked}
use Rattle.tk_virtual.specs.Named.{listed}
use Rattle.tk_virtual.specs.Virtual.{has_name, is_same, without_pair}
use Rattle.tk_virtual.proofs.EntryLemmas.{gone_once, keys_kept, own_marks, without_pair_marks}
use Rattle.tk_virtual.proofs.NamedLemmas.{listed_without}
use Rattle.tk_virtual.proofs.list.PairList.delete_pair.Goals as goal
use Rattle.tk_virtual.proofs.list.PairList.delete_pair.Goals.{After-mark_first}

-- each name has the pairs of the list that are left
left : (c : After-mark_first) → (name : List ℕ) → listed name c.take_out.new.named ≡ filter (has_name name) (without_pair c.args.wanted.now (keys_of c.self.inside.pairs.entries))
left c =
    listed_without (keys_of c.self.inside.pairs.entries) (λ name. listed name c.self.inside.named) (λ name. listed name c.take_out.new.named) c.self.invariant.1 c.args.wanted.now
    c.take_out.ensures.own c.take_out.ensures.others

-- and the first of each name is marked
marks : (c : After-mark_first) → c.mark_first.new.pairs.entries ≡ marked (without_pair c.args.wanted.now (keys_of c.self.inside.pairs.entries))
marks c =
    let wanted = c.args.wanted.now in
    without_pair_marks wanted c.self.inside.pairs.entries c.take_pair-taken.new.pairs.entries c.take_pair-taken.ensures.entries c.take_pair-taken.ensures.none c.pairs_of.result.now
    c.mark_first.new.pairs.entries c.self.invariant.0 (c.pairs_of.ensures ∙ ap (λ n. listed n c.take_out.new.named) c.as_str.ensures.name ∙ left c wanted.name) c.mark_first.ensures

-- no other pairs stand there
kept : (c : After-mark_first) → keys_of c.mark_first.new.pairs.entries ≡ without_pair c.args.wanted.now (keys_of c.self.inside.pairs.entries)
kept c = keys_kept (without_pair c.args.wanted.now (keys_of c.self.inside.pairs.entries)) c.mark_first.new.pairs.entries (marks c)

pub invariant_of-self : goal.invariant_of-self
invariant_of-self c =
    let here = goal.at.invariant_of-self c in (
      own_marks (without_pair c.args.wanted.now (keys_of c.self.inside.pairs.entries)) c.mark_first.new.pairs.entries (marks here.After-mark_first),
      λ name. left here.After-mark_first name ∙ ap (filter (has_name name)) (sym (kept here.After-mark_first)),
    )

pub returns-clause-pairs : goal.returns-clause-pairs
returns-clause-pairs c = kept (goal.at.returns-clause-pairs c).After-mark_first ∙ ap (without_pair c.args.wanted.now) c.self.view_is

pub returns-clause-taken : goal.returns-clause-taken
returns-clause-taken c = c.take_pair-taken.ensures.taken ∙ ap (find (is_same c.args.wanted.now)) c.self.view_is

pub returns-clause-others : goal.returns-clause-others
returns-clause-others c =
    let wanted = c.args.wanted.now in
    kept (goal.at.returns-clause-others c).After-mark_first
    ∙ sym (gone_once wanted c.self.inside.pairs.entries c.take_pair-taken.new.pairs.entries c.take_pair-taken.ensures.entries c.take_pair-taken.ensures.none)
    ∙ ap (remove_key (is_same wanted)) c.self.view_is
