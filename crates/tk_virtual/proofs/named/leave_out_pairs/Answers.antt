use Rattle.std.proofs.Common.{rules, not}
use Rattle.std.proofs.lemmas.Fn.{filter_same}
use Rattle.tk_virtual.specs.Several.{is_one_of}
use Rattle.tk_virtual.proofs.named.leave_out_pairs.Goals as goal

pub returns : goal.returns
returns c = filter_same _ (λ pair. not (is_one_of c.args.name.now c.args.wanted.now.keys pair)) _ (λ x b f' k. search rules) _ _ c.retain.ensures.filtered
