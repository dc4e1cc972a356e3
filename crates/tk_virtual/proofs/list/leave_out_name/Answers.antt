use Rattle.std.proofs.Common.{rules, not}
use Rattle.indexmap.proofs.CallerLemmas.{filter-RetainsPairs}
use Rattle.tk_virtual.specs.Virtual.{has_name}
use Rattle.tk_virtual.proofs.list.leave_out_name.Goals as goal

pub returns : goal.returns
returns c = filter-RetainsPairs _ (λ entry. not (has_name c.args.name.now entry.0)) _ (λ k v b w g call. search rules) _ _ c.retain.ensures.filtered
