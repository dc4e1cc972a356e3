use Rattle.std.proofs.Common.{rules, not}
use Rattle.std.proofs.lemmas.Fn.{filter_same}
use Rattle.tk_virtual.specs.Virtual.{is_same}
use Rattle.tk_virtual.proofs.named.leave_out.Goals as goal

pub returns : goal.returns
returns c = filter_same _ (λ pair. not (is_same c.args.wanted.now pair)) _ (λ x b f' k. search rules) _ _ c.retain.ensures.filtered
