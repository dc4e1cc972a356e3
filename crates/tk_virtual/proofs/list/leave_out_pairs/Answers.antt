use Rattle.std.proofs.Common.{rules, not}
use Rattle.indexmap.proofs.CallerLemmas.{filter-RetainsPairs}
use Rattle.tk_virtual.specs.Several.{is_one_of}
use Rattle.tk_virtual.proofs.list.leave_out_pairs.Goals as goal

pub returns : goal.returns
returns c = filter-RetainsPairs _ (λ entry. not (is_one_of c.args.name.now c.args.wanted.now.keys entry.0)) _ (λ k v b w g call. search rules) _ _ c.retain.ensures.filtered
